-- Each place has the new key or one that was remembered.
use Rattle.std.proofs.Common.{◌<◌, All, length, map}
use Rattle.lrp_slots.specs.Narrow.{wide}
use Rattle.lrp_slots.proofs.Places.{IsOneOf}
use Rattle.lrp_slots.proofs.remembered.Remembered.grow.Given as goal

abbrev pub invariant-loop-i : goal.invariant-loop-i
invariant-loop-i l = (0 < length l.places.items) × All (IsOneOf (map wide l.self-inside.places.items) (wide l.key)) l.places.items
