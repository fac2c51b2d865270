use Rattle.std.proofs.Common.{◌≡◌, map, take}
use Rattle.lrp_model.specs.Reach.{greatest}
use Rattle.lrp_kept.specs.Limits.{row_bound}
use Rattle.lrp_keep.proofs.states.greatest_bound.Given as goal

-- of the rows so far
abbrev pub invariant-loop-row : goal.invariant-loop-row
invariant-loop-row l = l.most ≡ greatest (map row_bound (take l.row-index l.row-items))
