use Rattle.std.proofs.Common.{◌≡◌, ◌++◌, take}
use Rattle.lrp_watch.proofs.edited.add_rows.Given as goal

-- the rows so far were added
abbrev pub invariant-loop-row : goal.invariant-loop-row
invariant-loop-row l = l.all.items ≡ l.fn.all.items ++ take l.row-index l.rows
