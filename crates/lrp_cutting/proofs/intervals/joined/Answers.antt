-- The later end of the two.
use Rattle.std.proofs.Common.{refl, arith}
use Rattle.std.proofs.lemmas.Int.{ints}
use Rattle.lrp_cutting.proofs.SpanLaws.{joined_is}
use Rattle.lrp_cutting.proofs.intervals.joined.Goals as goal

pub returns : goal.returns
returns c = λ z low last next begins near. joined_is z c.args.last c.args.next (omega (arith, ints)) last begins near _ refl c.wider.ensures next
