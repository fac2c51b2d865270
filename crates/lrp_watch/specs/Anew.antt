-- The lines of the least answers of a query that is decided anew over a database as it is read, and after each of some edits.
use Rattle.std.specs.Prelude.{◌≡◌, ◌≤ℤ◌, ℕ, zero, suc, pos, List, [], ◌∷◌, flat_map, Option}
use Rattle.std.specs.List.{AllByRecursion, AllZip}
use Rattle.lrp_model.specs.Caps.{IsFirstMany, ManyAt}
use Rattle.lrp_model.specs.Formulas.{Question}
use Rattle.lrp_model.specs.Plans.{HasFarReach, HasLongPeriod, IsWithinLimits}
use Rattle.lrp_model.specs.Rows.{Tuple}
use Rattle.lrp_model.specs.TestPoints.{points}
use Rattle.lrp_model.specs.declared.plans.Planning.{Planning}
use Rattle.lrp_model.specs.declared.relations.Relation.{Relation}
use Rattle.lrp_plan_laws.specs.GuardedPlans.{plan_by}
use Rattle.lrp_edits.specs.EditMeaning.{IsEditOf}
use Rattle.lrp_edits.specs.declared.edits.Edit.{Edit}
use Rattle.lrp_keep.specs.Keeps.{IsSortedQuery}
use Rattle.lrp_keep.specs.declared.faults.KeepFault.{KeepFault}
use Rattle.lrp_keep.specs.declared.faults.KeepFault.TheVariants.{PeriodLimit, BoundLimit, TooManyCells, Memory}
use Rattle.lrp_outputs.specs.First.{IsFirst, first_line}
use Rattle.lrp_watch.specs.Edited.{AreEdited, IsEdited}

-- ---- the limits of a plan

-- neither the period nor the reach of the plan by this way is above its limit, and no step of it has more than cap cells
pub record IsWithinPlan (way : Planning) (q : Question) (cap : ℕ) (db : List Relation) : Type 0 where
  pub limits : IsWithinLimits (plan_by way db q) db q
  pub few : (s : ℕ) → ManyAt (plan_by way db q) db q cap s → ⊥

-- the first of the limits that is passed: of the period, of the reach, or of the cells of a step; or no memory
abbrev pub IsPastPlan : Planning → Question → ℕ → List Relation → KeepFault → Type 0
IsPastPlan way q cap db PeriodLimit = HasLongPeriod db q
IsPastPlan way q cap db BoundLimit = HasFarReach (plan_by way db q) db q
IsPastPlan way q cap db TooManyCells = IsWithinLimits (plan_by way db q) db q × ((s : ℕ) × IsFirstMany (plan_by way db q) db q cap s)
IsPastPlan way q cap db Memory = Unit {0}

-- the relations after so many edits are the first over which a limit is passed
abbrev pub IsPastAfter : Planning → Question → ℕ → List Edit → List Relation → ℕ → KeepFault → Type 0
IsPastAfter way q cap edits db zero fault = IsPastPlan way q cap db fault
IsPastAfter way q cap [] db (suc n) fault = ⊥
IsPastAfter way q cap (e ∷ es) db (suc n) fault = IsWithinPlan way q cap db × ((next : List Relation) × IsEdited e db next × IsPastAfter way q cap es next n fault)

-- ---- what is told

-- there is a line for the least answer over the database as it is read, and one after each edit; none of them passes a limit
pub record TellsLeastsAnew (way : Planning) (db : List Relation) (q : Question) (edits : List Edit) (cap : ℕ) (bytes : List ℕ) : Type 0 where
  pub later : List (List Relation)
  pub edited : AreEdited edits db later
  pub within : AllByRecursion (IsWithinPlan way q cap) (db ∷ later)
  pub firsts : List (Option Tuple)
  pub are : AllZip (λ held first. IsFirst held q first) (db ∷ later) firsts
  pub spelled : bytes ≡ flat_map first_line firsts

-- the limit is passed at the edit of this number and none before; the opening is edit 0
abbrev pub IsPassedAnew : Planning → List Relation → Question → List Edit → ℕ → ℕ → KeepFault → Type 0
IsPassedAnew way db q edits cap number fault = IsPastAfter way q cap edits db number fault

-- ---- what is asked for

-- a well-sorted query, whose points have periods of at least 1, and edits of the database
pub record CanBeDecidedAnew (db : List Relation) (q : Question) (edits : List Edit) : Type 0 where
  pub query : IsSortedQuery db q
  pub points : AllByRecursion (λ at. pos 1 ≤ℤ at.period) (points q.body)
  pub lawful : AllByRecursion (IsEditOf db) edits
