-- 6 is a multiple of 2.
use Rattle.std.proofs.Common.{refl, sym, subst}
use Rattle.std.specs.Prelude.{pos}
use Rattle.lrp_theory.specs.Divides.{Divides}
use Rattle.lrp_tests.proofs.points.sixths_of.Goals as goal

pub splits-requires-clause-divides : goal.splits-requires-clause-divides
splits-requires-clause-divides c = subst (λ n. Divides (pos n) (pos 6)) (sym c.requires) (record { times = pos 3; is = refl })
