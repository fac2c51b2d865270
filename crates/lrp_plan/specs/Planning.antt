-- Which queries have a plan, and why others have none.
use Rattle.std.specs.Prelude.{◌≡◌, ℕ, List, [], ◌++◌, Result, Ok, Err}
use Rattle.lrp_model.specs.Formulas.{Form, Question}
use Rattle.lrp_model.specs.Satisfaction.{Structure, structure}
use Rattle.lrp_model.specs.Core.{core_form, has_named_sort, HasElements}
use Rattle.lrp_model.specs.Domains.{database_texts, all_texts}
use Rattle.lrp_theory.specs.Divides.{IsCommon}
use Rattle.lrp_model.specs.Periods.{periods}
use Rattle.lrp_model.specs.Steps.{Steps}
use Rattle.lrp_model.specs.Plans.{plan_of, IsPlan, IsWithinLimits, HasLongPeriod, HasFarReach}
use Rattle.lrp_model.specs.declared.plans.Plan.{Plan}
use Rattle.lrp_model.specs.declared.relations.Relation.{Relation}
use Rattle.lrp_plan_laws.specs.Rising.{HasPeriods}
use Rattle.lrp_plan.specs.declared.drafts.Draft.{Draft}
use Rattle.lrp_plan.specs.declared.planning.PlanFault.{PlanFault}
use Rattle.lrp_plan.specs.declared.planning.PlanFault.TheVariants.{PeriodLimit, BoundLimit, Memory}
use Rattle.lrp_plan.specs.declared.sources.Sources.{Sources}
use Rattle.lrp_plan.specs.Drafts.{IsDraft, with_head_step}
use Rattle.lrp_plan.specs.Elements.{CanPlan}
use Rattle.lrp_limits.specs.Multiples.{IsPeriod, IsLeastWithinLimit}
use Rattle.lrp_plan.specs.Sources.{AreSources}

-- the period is above the greatest number; or it is not and the reach of the steps, doubled so, is; or memory ran out
abbrev pub IsPastLimits : PlanFault → Steps → List Relation → Question → Type 0
IsPastLimits PeriodLimit steps db q = HasLongPeriod db q
IsPastLimits BoundLimit steps db q = HasFarReach steps db q
IsPastLimits Memory steps db q = Unit {0}

-- the steps of a core form, and then the last one, of a formula with this period
pub record IsWholeDraft (sources : Sources) (f : Form) (k : ℕ) (draft : Draft) : Type 0 where
  pub follows : (M : Structure) (K : ℕ) (g : Form) → AreSources M sources → CanPlan M K f → IsPeriod K → IsLeastWithinLimit (periods g M.relations) k → IsCommon (periods g M.relations) K → IsDraft M.relations K draft (with_head_step g M (plan_of f M []))

-- what is read is that of a database and a query, and the core form is the query's
pub record AreGathered (db : List Relation) (q : Question) (sources : Sources) (f : Form) : Type 0 where
  pub elements : HasElements q.body
  pub periods : HasPeriods db q
  pub core : f ≡ core_form (has_named_sort db) q
  pub gathered : AreSources (structure db q) sources
  pub texts : database_texts sources.database.now ++ sources.texts.items ≡ all_texts db q

-- the plan of these steps within the limits, or the cause why there is none
abbrev pub IsOutcome : Steps → List Relation → Question → Result Plan PlanFault → Type 0
IsOutcome steps db q (Ok p) = IsPlan p steps db q × IsWithinLimits steps db q
IsOutcome steps db q (Err e) = IsPastLimits e steps db q
