use Rattle.std.proofs.Common.{ℕ, take}
use Rattle.lrp_core.specs.Cores.{cores_of}
use Rattle.lrp_model.specs.Formulas.{conjunction}
use Rattle.lrp_plan_laws.specs.Projections.{PlanGround as Ground}
use Rattle.lrp_plan.specs.Elements.{AreInner, EachCanPlan}
use Rattle.lrp_plan.specs.Sources.{AreSources}
use Rattle.lrp_guarded.specs.Sorting.{AreSoFar}
use Rattle.lrp_guarded.proofs.elements.Elements.of.Given as goal

-- the elements so far were sorted out
abbrev pub invariant-loop-index : goal.invariant-loop-index
invariant-loop-index l = (over : Ground) (K : ℕ) → AreSources over.structure l.sources → AreInner l.inner (conjunction (cores_of l.of)) → EachCanPlan over.structure K l.of → AreSoFar over K l.of (cores_of (take l.index l.of)) l.all
