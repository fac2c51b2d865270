use Rattle.lrp_packed.proofs.Listed.{AreFirst}
use Rattle.lrp_packed.proofs.zones.entries_of.Given as goal

-- the entries are those of the places so far
abbrev pub invariant-loop-place : goal.invariant-loop-place
invariant-loop-place l = AreFirst l.cell l.bounds l.place l.entries.items
