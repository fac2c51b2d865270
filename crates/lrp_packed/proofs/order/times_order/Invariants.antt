-- The first places are equal.
use Rattle.std.proofs.Common.{◌≡◌, drop}
use Rattle.std.specs.Ordering.{nat_cmp}
use Rattle.std.specs.Cmp.Lexicographic.{slice_cmp}
use Rattle.lrp_theory.specs.Residues.{rank}
use Rattle.lrp_packed.proofs.order.times_order.Given as goal

abbrev pub invariant-loop-i : goal.invariant-loop-i
invariant-loop-i l = slice_cmp (λ x y. nat_cmp (rank x) (rank y)) l.a l.b ≡ slice_cmp (λ x y. nat_cmp (rank x) (rank y)) (drop l.i l.a) (drop l.i l.b)
