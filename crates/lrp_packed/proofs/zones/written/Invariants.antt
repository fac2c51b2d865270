use Rattle.std.proofs.Common.{◌-◌, length}
use Rattle.lrp_packed.proofs.Listed.{AreWritten}
use Rattle.lrp_packed.proofs.zones.written.Given as goal

-- the entries so far, from the last one on, are put
abbrev pub invariant-loop-turn : goal.invariant-loop-turn
invariant-loop-turn l = AreWritten l.entries (length l.entries - l.turn) l.cell l.bounds
