use Rattle.std.proofs.Common.{◌≡◌, ◌++◌, map, take, drop, length}
use Rattle.lrp_model.specs.Checked.{resolved_term}
use Rattle.lrp_sorts.specs.Binding.{binders_of}
use Rattle.lrp_sorts.proofs.resolving.resolve_terms.Given as goal

-- the terms so far are resolved, and the others are as they were
abbrev pub invariant-loop-i : goal.invariant-loop-i
invariant-loop-i l = record {
  size : length l.all.items ≡ length l.initial.all.items;
  so_far : l.all.items ≡ map (resolved_term (binders_of l.around)) (take l.i l.initial.all.items) ++ drop l.i l.initial.all.items;
}
