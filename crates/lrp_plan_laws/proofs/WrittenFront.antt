-- The steps of a plan as it is written, before `head`.
use Rattle.std.proofs.Common.{zero, suc, List, [], Contains}
use Rattle.std.specs.List.{AllByRecursion}
use Rattle.lrp_model.specs.Texts.{Identifier}
use Rattle.lrp_model.specs.Formulas.{Form, Forms, Question, atom, test, sorted, negation, conjunction, disjunction, implication, exists, forall, no_forms, form}
use Rattle.lrp_model.specs.Variables.{Variable, free}
use Rattle.lrp_model.specs.Satisfaction.{Structure, structure}
use Rattle.lrp_model.specs.Core.{core_form, has_named_sort, HasElements}
use Rattle.lrp_model.specs.Plans.{core_steps}
use Rattle.lrp_model.specs.declared.relations.Sort.{Sort}
use Rattle.lrp_model.specs.declared.relations.Relation.{Relation}
use Rattle.lrp_plan_laws.specs.Made.{HeadStep}
use Rattle.lrp_plan_laws.specs.Scopes.{EachScope, EachOfScope}
use Rattle.lrp_plan_laws.proofs.Names.{Names}
use Rattle.lrp_plan_laws.proofs.Members.{all_map}
use Rattle.lrp_plan_laws.proofs.Dropping.{Rules}
use Rattle.lrp_plan_laws.proofs.Builds.{AreMade, Kept, Builds}
use Rattle.lrp_plan_laws.proofs.PlanSound.{core_of_query}
use Rattle.lrp_plan_laws.proofs.PlanBuilds.{EachGuard, EachOfGuard, quantified, builds}
use Rattle.lrp_plan_laws.proofs.Fronts.{IsFront, head_after}

-- ---- the steps of a query

-- any variables will do
abbrev pub Any : List Variable → Type 0
Any vs = Unit {0}

-- and no guard is asked for
abbrev pub Unguarded : Identifier → Sort → Form → Type 0
Unguarded v s f = Unit {0}

mutual
  -- each part of a formula has such variables
  pub any_scope : (f : Form) → EachScope Any f
  any_scope (atom name terms) = tt
  any_scope (test t) = tt
  any_scope (sorted s v) = tt
  any_scope (negation f) = any_scope f
  any_scope (conjunction fs) = (tt, any_scopes fs)
  any_scope (disjunction fs) = (tt, any_scopes fs)
  any_scope (implication f g) = (tt, (any_scope f, any_scope g))
  any_scope (exists v s f) = (tt, any_scope f)
  any_scope (forall v s f) = (tt, any_scope f)

  -- and of a list
  pub any_scopes : (fs : Forms) → EachOfScope Any fs
  any_scopes no_forms = tt
  any_scopes (form f fs) = (any_scope f, any_scopes fs)

mutual
  -- each quantifier of a formula is guarded so
  pub unguarded : (M : Structure) (f : Form) → EachGuard M Unguarded f
  unguarded M (atom name terms) = tt
  unguarded M (test t) = tt
  unguarded M (sorted s v) = tt
  unguarded M (negation f) = unguarded M f
  unguarded M (conjunction fs) = all_unguarded M fs
  unguarded M (disjunction fs) = all_unguarded M fs
  unguarded M (implication f g) = (unguarded M f, unguarded M g)
  unguarded M (exists v s f) = ((λ a says. tt), unguarded M f)
  unguarded M (forall v s f) = tt

  -- and of a list
  pub all_unguarded : (M : Structure) (fs : Forms) → EachOfGuard M Unguarded fs
  all_unguarded M no_forms = tt
  all_unguarded M (form f fs) = (unguarded M f, all_unguarded M fs)

-- where there is no step, each is made of earlier ones
pub no_step : (M : Structure) (head : HeadStep) (rules : Rules) → AreMade M head rules []
no_step M head rules zero step e = cc
no_step M head rules (suc s) step e = cc

-- the steps of a query's core form as it is written, where the variables of each part of it fit
pub written_front : (db : List Relation) (q : Question) (fits : List Variable → Type 0) → ((vs ws : List Variable) → AllByRecursion (Contains ws) vs → fits ws → fits vs) → HasElements q.body → EachScope fits (core_form (has_named_sort db) q) → IsFront db q quantified fits (core_steps db q)
written_front db q fits down some scope =
    let M : Structure = structure db q in
    let core : Form = core_form (has_named_sort db) q in
    let b : Builds M (head_after db q (core_steps db q)) quantified fits Unguarded [] (core_steps db q) (Names db core) =
    builds M (head_after db q (core_steps db q)) fits Unguarded down core (core_of_query (has_named_sort db) q some) scope (unguarded M core) [] in
    record {
      grown = b.grown;
      names = b.names;
      made = b.made (no_step M (head_after db q (core_steps db q)) quantified);
      under = λ n ks last. b.under n ks last tt;
      fitting = all_map (λ step. fits (free step.formula) × Kept Unguarded step.formula) (λ step. fits (free step.formula)) (core_steps db q) (λ step h. h.0) (b.fitting tt);
    }

-- whatever their variables
pub written_any : (db : List Relation) (q : Question) → HasElements q.body → IsFront db q quantified Any (core_steps db q)
written_any db q some = written_front db q Any (λ vs ws c x. tt) some (any_scope (core_form (has_named_sort db) q))
