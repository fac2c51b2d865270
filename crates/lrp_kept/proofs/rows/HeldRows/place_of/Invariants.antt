use Rattle.lrp_kept.proofs.FirstEqual.{HasNoneBefore}
use Rattle.lrp_kept.proofs.rows.HeldRows.place_of.Given as goal

-- none of the rows before is equal
abbrev pub invariant-loop-place : goal.invariant-loop-place
invariant-loop-place l = HasNoneBefore l.self l.keys.items l.row l.place
