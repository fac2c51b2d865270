use Rattle.std.proofs.Common.{take}
use Rattle.std.specs.Option.{option_map}
use Rattle.lrp_core.specs.Cores.{cores_of}
use Rattle.lrp_model.specs.Satisfaction.{Structure}
use Rattle.lrp_model.specs.Periods.{periods_each}
use Rattle.lrp_limits.specs.Facts.{KeepsMultiples}
use Rattle.lrp_plan.specs.Sources.{AreSources}
use Rattle.lrp_plan.proofs.wholes.+periods.Given as goal

-- with the elements so far
abbrev pub invariant-with_each-loop-core : goal.invariant-with_each-loop-core
invariant-with_each-loop-core l = (M : Structure) → AreSources M l.sources → KeepsMultiples (periods_each (cores_of (take l.core-index l.of)) M.relations) (option_map (λ p. p.number) l.fn.period) (option_map (λ p. p.number) l.all)
