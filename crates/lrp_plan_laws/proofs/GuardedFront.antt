-- The steps of the plan under guards, before `head`.
use Rattle.std.proofs.Common.{◌≡◌, ◌↔◌, true, List, [], ◌∷◌, filter, map, None, Contains, refl, sym, subst}
use Rattle.std.specs.List.{AllByRecursion}
use Rattle.lrp_model.specs.Texts.{Identifier}
use Rattle.lrp_model.specs.Sorts.{is_data}
use Rattle.lrp_model.specs.Formulas.{Form, Question, disjunction, exists}
use Rattle.lrp_model.specs.Variables.{Variable, free}
use Rattle.lrp_model.specs.Satisfaction.{structure}
use Rattle.lrp_model.specs.Domains.{all_texts}
use Rattle.lrp_model.specs.Core.{core_form, has_named_sort, HasElements}
use Rattle.lrp_model.specs.Steps.{Steps}
use Rattle.lrp_model.specs.declared.relations.Sort.{Sort}
use Rattle.lrp_model.specs.declared.relations.Sort.TheVariants.{Time, Data, Named}
use Rattle.lrp_model.specs.declared.relations.Relation.{Relation}
use Rattle.lrp_model.proofs.Logic.{same, then_iff}
use Rattle.lrp_plan_laws.specs.Made.{IsDataSort}
use Rattle.lrp_plan_laws.specs.Scopes.{EachScope}
use Rattle.lrp_plan_laws.specs.Projections.{PlanGround as Ground, for_each_sort}
use Rattle.lrp_plan_laws.specs.GuardedPlans.{ground, guarded_steps}
use Rattle.lrp_plan_laws.proofs.Members.{all_by}
use Rattle.lrp_plan_laws.proofs.Marks.{Mark}
use Rattle.lrp_plan_laws.proofs.Names.{Names, NamesEach, cons_named}
use Rattle.lrp_plan_laws.proofs.Standings.{kept_is}
use Rattle.lrp_plan_laws.proofs.Dropping.{Rules}
use Rattle.lrp_plan_laws.proofs.Builds.{AreUnder}
use Rattle.lrp_plan_laws.proofs.GuardedAnd.{IsBuilt}
use Rattle.lrp_plan_laws.proofs.GuardedBuilds.{built}
use Rattle.lrp_plan_laws.proofs.PlanSound.{core_of_query}
use Rattle.lrp_plan_laws.proofs.Fronts.{IsFront, head_after}
use Rattle.lrp_plan_laws.proofs.WrittenFront.{Any, any_scope, no_step}

-- ---- a drop of texts is a drop over each sort

-- a quantifier over a sort of texts names what one over `data` names
sort_named : (s : Sort) → IsDataSort s → (v : Identifier) (f : Form) (db : List Relation) (ws : List Variable) (ks : List Mark) → Names db (exists v s f) ws ks ↔ Names db (exists v Data f) ws ks
sort_named Time d v f db ws ks = absurd d
sort_named Data d v f db ws ks = same
sort_named (Named name) d v f db ws ks = same

-- so do those over each of these sorts
each_named : (sorts : List Sort) → AllByRecursion IsDataSort sorts → (v : Identifier) (f : Form) (db : List Relation) (ws : List Variable) (ks : List Mark) → Names db (exists v Data f) ws ks → NamesEach db (for_each_sort sorts v f) ws ks
each_named [] d v f db ws ks h = (tt, tt)
each_named (s ∷ sorts) d v f db ws ks h = (cons_named db ws ks (exists v s f) (for_each_sort sorts v f)).1 ((sort_named s d.0 v f db ws ks).1 h, each_named sorts d.1 v f db ws ks h)

-- the sorts of a ground are sorts of texts
data_sort : (s : Sort) → is_data s ≡ true → IsDataSort s
data_sort Time e = cc
data_sort Data e = tt
data_sort (Named name) e = tt

pub ground_sorts : (db : List Relation) (q : Question) → AllByRecursion IsDataSort (ground db q).sorts
ground_sorts db q =
    let sorts : List Sort = map (λ entry. entry.0) (all_texts db q) in
    (tt, all_by IsDataSort (filter is_data sorts) (λ s c. data_sort s (kept_is is_data sorts s c).1))

-- the formula of a drop of texts over each sort of the ground
abbrev pub DropsEach : Ground → Identifier → Form → Form → Type 0
DropsEach over v f g = g ≡ disjunction (for_each_sort over.sorts v f)

pub drop_named : (db : List Relation) (q : Question) (v : Identifier) (f g : Form) → DropsEach (ground db q) v f g → (rs : List Relation) (ws : List Variable) (ks : List Mark) → Names rs g ws ks ↔ Names rs (exists v Data f) ws ks
drop_named db q v f g e rs ws ks =
    let sorts : List Sort = filter is_data (map (λ entry. entry.0) (all_texts db q)) in
    let c = cons_named rs ws ks (exists v Data f) (for_each_sort sorts v f) in
    subst (λ h. Names rs h ws ks ↔ Names rs (exists v Data f) ws ks) (sym e) ((λ h. (c.0 h).0), λ h. c.1 (h, each_named sorts (ground_sorts db q).1 v f rs ws ks h))

-- the rules of the plan under guards
abbrev pub over_sorts : List Relation → Question → Rules
over_sorts db q = record { drops = DropsEach (ground db q); names = drop_named db q }

-- ---- the steps

-- the steps of a query's core form under guards, where the variables of each part of it fit
pub guarded_front : (db : List Relation) (q : Question) (fits : List Variable → Type 0) → ((vs ws : List Variable) → AllByRecursion (Contains ws) vs → fits ws → fits vs) → HasElements q.body → EachScope fits (core_form (has_named_sort db) q) → IsFront db q (over_sorts db q) fits (guarded_steps db q)
guarded_front db q fits down some scope =
    let front : Steps = guarded_steps db q in
    let core : Form = core_form (has_named_sort db) q in
    let b : IsBuilt (ground db q) (head_after db q front) (over_sorts db q) fits down (λ v f. refl) [] None front (λ ws ks. Unit {0} × Names db core ws ks) =
    built (ground db q) (head_after db q front) (over_sorts db q) fits down (λ v f. refl) core (core_of_query (has_named_sort db) q some) scope [] [] None tt in
    record {
      grown = b.led.first;
      names = λ ws ks. then_iff (b.names ws ks) ((λ h. h.1), λ h. (tt, h));
      made = b.led.made (no_step (structure db q) (head_after db q front) (over_sorts db q));
      under = λ n ks last. subst (AreUnder db n ks) (sym b.led.is) (b.led.under n ks last).1;
      fitting = subst (AllByRecursion (λ step. fits (free step.formula))) (sym b.led.is) b.led.fitting;
    }

-- whatever their variables
pub guarded_any : (db : List Relation) (q : Question) → HasElements q.body → IsFront db q (over_sorts db q) Any (guarded_steps db q)
guarded_any db q some = guarded_front db q Any (λ vs ws c x. tt) some (any_scope (core_form (has_named_sort db) q))
