-- No cell stands at a place.
use Rattle.std.proofs.Common.{Some, subst}
use Rattle.std.specs.Prelude.{Contains}
use Rattle.lrp_theory.proofs.Members.{in_none}
use Rattle.lrp_tables.proofs.remembered.RememberedCells.new.Goals as goal

pub returns : goal.returns
returns c = λ cell h. in_none (Some cell) (subst (λ l. Contains l (Some cell)) c.new.ensures.items h)
