-- The values, and what is left of eight zeros.
use Rattle.std.proofs.Common.{length, ℤ, refl}
use Rattle.std.specs.Prelude.{pos}
use Rattle.std.proofs.lemmas.List.{drop-replicate}
use Rattle.lrp_zone.proofs.tuples.padded.Goals as goal

pub returns : goal.returns
returns c = rw (drop-replicate {X = ℤ} (length c.args.values.now) 8 (pos 0)) (rw c.copy_from_slice.ensures.after refl)
