use Rattle.std.proofs.Common.{◌≡◌, ◌-◌, drop, length}
use Rattle.lrp_packed.specs.Entries.{cell_of_entries}
use Rattle.lrp_packed.proofs.zones.cell_of.Given as goal

-- the entries so far, from the last one on, are put
abbrev pub invariant-loop-turn : goal.invariant-loop-turn
invariant-loop-turn l = l.cell ≡ cell_of_entries (drop (length l.entries - l.turn) l.entries)
