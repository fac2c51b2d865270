use Rattle.lrp_sorts.specs.Binding.{binders_of}
use Rattle.lrp_sorts.proofs.ResolvedNodes.{ResolvedTo}
use Rattle.lrp_sorts.proofs.resolving.+resolving.Given as goal

-- the formulas so far are resolved, and the others are as they were
abbrev pub invariant-resolve_each-loop-i : goal.invariant-resolve_each-loop-i
invariant-resolve_each-loop-i l = record {
  others : goal.unvisited-resolve_each-loop-i l;
  so_far : ResolvedTo (binders_of l.around) l.initial.fs.items l.i l.fs.items;
}
