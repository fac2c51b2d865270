use Rattle.std.proofs.Common.{take}
use Rattle.lrp_core.specs.Cores.{cores_of}
use Rattle.lrp_model.specs.Satisfaction.{Structure}
use Rattle.lrp_plan.specs.Sources.{AreSources}
use Rattle.lrp_model.specs.Formulas.{disjunction}
use Rattle.lrp_plan.specs.Elements.{AreInner, TakesTurns}
use Rattle.lrp_plan.proofs.Unions.{SomeSoFar}
use Rattle.lrp_plan.proofs.planner.+planning.Given as goal

-- the elements so far were united
abbrev pub invariant-plan_some-loop-index : goal.invariant-plan_some-loop-index
invariant-plan_some-loop-index l = AreInner l.inner (disjunction (cores_of l.of)) → (M : Structure) → AreSources M l.sources → SomeSoFar M (cores_of (take l.index l.of)) l.fn.draft l.draft l.left

-- this many turns were made
abbrev pub invariant-plan_each-loop-turn : goal.invariant-plan_each-loop-turn
invariant-plan_each-loop-turn l = (M : Structure) → AreSources M l.turns.sources.now → TakesTurns l.turns.kind M l._turn l.of l.fn.elements.items l.left l.fn.draft l.draft l.fn.taking l.taking
