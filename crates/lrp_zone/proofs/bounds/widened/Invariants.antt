-- The bounds before this place are copied.
use Rattle.std.proofs.Common.{◌≡◌, length, take}
use Rattle.lrp_zone.proofs.bounds.widened.Given as goal

abbrev pub invariant-loop-place : goal.invariant-loop-place
invariant-loop-place l = record { size : length l.out ≡ 81; same : take l.place l.out ≡ take l.place l.bounds }
