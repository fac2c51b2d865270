-- The places before this one are copied.
use Rattle.std.proofs.Common.{◌≡◌, ℕ, ◌<◌, length, get_or}
use Rattle.lrp_steps.proofs.lent.PlacedRef.at.Given as goal

abbrev pub invariant-loop-i : goal.invariant-loop-i
invariant-loop-i l = record {
  size : length l.all ≡ 8;
  same : (k : ℕ) → k < l.i → get_or l.all k 0 ≡ get_or l.places k 0;
}
