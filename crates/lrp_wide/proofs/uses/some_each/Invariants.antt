use Rattle.std.proofs.Common.{◌≡◌, length}
use Rattle.lrp_model.specs.RawQueries.{raw_form_of}
use Rattle.lrp_wide.specs.Inlining.{some_each}
use Rattle.lrp_wide.proofs.uses.some_each.Given as goal

-- under the binders that are left the formula is what it is to be
abbrev pub invariant-loop-binder : goal.invariant-loop-binder
invariant-loop-binder l = some_each l.place l.left.items (raw_form_of l.made.value) ≡ some_each l.fn.place l.fn.binders.items (raw_form_of l.fn.of.value)

abbrev pub decreases-loop-binder : goal.decreases-loop-binder
decreases-loop-binder l = length l.left.items
