-- The steps so far are the same, and read only one another.
use Rattle.std.specs.Prelude.{◌≡◌, ◌<◌, ◌≤◌, ℕ, Some, slice_get}
use Rattle.lrp_model.specs.declared.plans.Step.{Step}
use Rattle.lrp_watch.specs.Keeping.{IsAloneStep}
use Rattle.lrp_watch.proofs.keeping.is_still_part.Given as goal

abbrev pub invariant-loop-place : goal.invariant-loop-place
invariant-loop-place l = record {
  same : (i : ℕ) → l.part.before ≤ i → i < l.place → slice_get l.new i ≡ slice_get l.old i;
  alone : (i : ℕ) (step : Step) → l.part.before ≤ i → i < l.place → slice_get l.new i ≡ Some step → IsAloneStep l.edited l.part.before step.kind;
}
