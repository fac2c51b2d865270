-- The steps of a plan before `head`, and what is known of them however they were made.
use Rattle.std.proofs.Common.{◌↔◌, ◌<◌, ℕ, List, length}
use Rattle.std.specs.List.{AllByRecursion}
use Rattle.lrp_model.specs.Formulas.{Question}
use Rattle.lrp_model.specs.Variables.{Variable, free}
use Rattle.lrp_model.specs.Satisfaction.{structure}
use Rattle.lrp_model.specs.Core.{core_form, guarded, has_named_sort}
use Rattle.lrp_model.specs.Steps.{Steps, formula_at, made}
use Rattle.lrp_model.specs.declared.relations.Relation.{Relation}
use Rattle.lrp_model.specs.declared.plans.StepKind.TheVariants.{Extend}
use Rattle.lrp_plan_laws.specs.Made.{HeadStep}
use Rattle.lrp_plan_laws.proofs.Names.{Names}
use Rattle.lrp_plan_laws.proofs.Marks.{Mark}
use Rattle.lrp_plan_laws.proofs.Dropping.{Rules}
use Rattle.lrp_plan_laws.proofs.Builds.{AreMade, AreUnder, LastIsUnder}

-- these steps and then the step `head`
abbrev pub closed : List Relation → Question → Steps → Steps
closed db q front = made (structure db q) (Extend (length front)) (guarded (has_named_sort db) q.head q.body) front

-- the step `head` after these
abbrev pub head_after : List Relation → Question → Steps → HeadStep
head_after db q front = record { of = length front; formula = guarded (has_named_sort db) q.head q.body }

-- there is a step, the last one names what the core form names, each is made of earlier ones, none is above the last, and their variables fit
pub record IsFront (db : List Relation) (q : Question) (rules : Rules) (fits : List Variable → Type 0) (front : Steps) : Type 0 where
  pub grown : 0 < length front
  pub names : (ws : List Variable) (ks : List Mark) → Names db (formula_at front (length front)) ws ks ↔ Names db (core_form (has_named_sort db) q) ws ks
  pub made : AreMade (structure db q) (head_after db q front) rules front
  pub under : (b : ℕ) (ks : List Mark) → LastIsUnder db b ks front → AreUnder db b ks front
  pub fitting : AllByRecursion (λ step. fits (free step.formula)) front
