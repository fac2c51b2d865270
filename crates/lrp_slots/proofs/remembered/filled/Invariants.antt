-- The places so far have the key.
use Rattle.std.proofs.Common.{◌≡◌, All, length}
use Rattle.lrp_slots.proofs.remembered.filled.Given as goal

abbrev pub invariant-loop-place : goal.invariant-loop-place
invariant-loop-place l = (length l.places.items ≡ l._place) × All (λ k. k ≡ l.key) l.places.items
