-- The texts so far are the same.
use Rattle.std.specs.Prelude.{◌≡◌, ◌<◌, ℕ, slice_get}
use Rattle.lrp_watch.proofs.keeping.is_same_domain.Given as goal

abbrev pub invariant-loop-number : goal.invariant-loop-number
invariant-loop-number l = (i : ℕ) → i < l.number → slice_get l.left i ≡ slice_get l.right i
