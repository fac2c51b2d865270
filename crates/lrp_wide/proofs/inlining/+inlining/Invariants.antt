use Rattle.std.proofs.Common.{◌≡◌, max, take}
use Rattle.lrp_model.specs.RawQueries.{RawFileView, raw_form_of, raw_forms_of}
use Rattle.lrp_wide.specs.Inside.{IsAround, each_inlined_here}
use Rattle.lrp_wide.specs.Limits.{depth_of, depth_of_each}
use Rattle.lrp_wide.proofs.InlineMeasures.{work_left}
use Rattle.lrp_wide.proofs.inlining.+inlining.Given as goal

abbrev pub decreases-inline : goal.decreases-inline
decreases-inline l = work_left l.scene.now (depth_of (raw_form_of l.f.now)) 3

abbrev pub decreases-inline_negation : goal.decreases-inline_negation
decreases-inline_negation l = work_left l.scene.now (depth_of (raw_form_of l.of.now)) 4

abbrev pub decreases-inline_group : goal.decreases-inline_group
decreases-inline_group l = work_left l.scene.now (depth_of (raw_form_of l.of.now)) 4

abbrev pub decreases-inline_implication : goal.decreases-inline_implication
decreases-inline_implication l = work_left l.scene.now (max (depth_of (raw_form_of l.sides.0.now)) (depth_of (raw_form_of l.sides.1.now))) 4

abbrev pub decreases-inline_joined : goal.decreases-inline_joined
decreases-inline_joined l = work_left l.scene.now (depth_of_each (raw_forms_of l.of.now)) 5

abbrev pub decreases-inline_each : goal.decreases-inline_each
decreases-inline_each l = work_left l.scene.now (depth_of_each (raw_forms_of l.fs.now)) 4

abbrev pub decreases-inline_quantified : goal.decreases-inline_quantified
decreases-inline_quantified l = work_left l.scene.now (depth_of (raw_form_of l.of.now)) 4

abbrev pub decreases-inline_atom : goal.decreases-inline_atom
decreases-inline_atom l = work_left l.scene.now 0 2

abbrev pub decreases-inline_use : goal.decreases-inline_use
decreases-inline_use l = work_left l.scene.now 0 1

abbrev pub decreases-inline_body : goal.decreases-inline_body
decreases-inline_body l = work_left l.scene.now 0 0

-- the formulas so far
abbrev pub invariant-inline_each-loop-f : goal.invariant-inline_each-loop-f
invariant-inline_each-loop-f l = (file : RawFileView) → IsAround l.scene file → raw_forms_of l.all.items ≡ each_inlined_here l.scene file (raw_forms_of (take l.f-index l.fs))
