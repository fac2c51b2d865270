use Rattle.std.proofs.Common.{◌≡◌, map, take}
use Rattle.std.specs.List.{AllByRecursion}
use Rattle.lrp_tense.specs.Counting.{position_of, HasSmallColumn}
use Rattle.lrp_tense.proofs.counting.positions_of.Given as goal

-- the positions of the places so far, whose columns are small
abbrev pub invariant-loop-place : goal.invariant-loop-place
invariant-loop-place l = record { same : l.positions.items ≡ map position_of (take l.place-index l.places); small : AllByRecursion HasSmallColumn (take l.place-index l.places) }
