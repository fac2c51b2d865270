use Rattle.std.proofs.Common.{◌≡◌, take, reverse, option_map}
use Rattle.lrp_model.specs.Sorting.{binder_sort}
use Rattle.lrp_sorts.proofs.scope.last_sort.Given as goal

-- the columns so far
abbrev pub invariant-loop-column : goal.invariant-loop-column
invariant-loop-column l = option_map (λ s. s.now) l.found ≡ binder_sort (reverse (take l.column-index l.columns)) l.name
