use Rattle.std.proofs.Common.{take}
use Rattle.lrp_core.specs.Cores.{cores_of}
use Rattle.lrp_model.specs.Satisfaction.{Structure}
use Rattle.lrp_plan.specs.Sources.{AreSources}
use Rattle.lrp_plan.specs.Elements.{AreInner}
use Rattle.lrp_plan.specs.Splits.{IsParts}
use Rattle.lrp_model.specs.Formulas.{conjunction}
use Rattle.lrp_plan.proofs.splits.split.Given as goal

-- the elements so far were sorted out
abbrev pub invariant-loop-index : goal.invariant-loop-index
invariant-loop-index l = AreInner l.inner (conjunction (cores_of l.of)) → (M : Structure) → AreSources M l.sources → IsParts M l.of (cores_of (take l.index l.of)) l.parts
