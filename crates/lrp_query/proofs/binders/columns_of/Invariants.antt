use Rattle.std.proofs.Common.{◌≡◌, take}
use Rattle.lrp_query.proofs.Columns.{columns_at}
use Rattle.lrp_query.proofs.binders.columns_of.Given as goal

-- the columns of the names so far
abbrev pub invariant-loop-one : goal.invariant-loop-one
invariant-loop-one l = l.columns ≡ columns_at (l.sort, l.sort_place) (take l.one-index l.names)
