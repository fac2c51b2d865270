-- What is taken of an `and`, one element after the other.
use Rattle.std.proofs.Common.{◌≡◌, ◌+◌, ◌<◌, ◌≤◌, ℕ, zero, suc, Bool, true, false, List, [], ◌∷◌, length, Option, Some, None, option_map, slice_get, remove, get_or, Vec, Global, Result, Ok, Err, refl, sym, ap, subst, ◌∙◌, arith}
use Rattle.std.specs.List.{AllZip}
use Rattle.std.specs.Result.{OnOk}
use Rattle.lrp_core.specs.Cores.{core_of}
use Rattle.lrp_core.specs.VariableTrees.{tree_of, free_tree}
use Rattle.lrp_core.specs.declared.core_forms.Core.{Core}
use Rattle.lrp_core.specs.declared.variable_trees.VariableTree.{VariableTree}
use Rattle.lrp_model.specs.Formulas.{Form, negation}
use Rattle.lrp_plan_laws.specs.Projections.{PlanGround as Ground}
use Rattle.lrp_plan_laws.specs.GuardedConjunctions.{GuardedPart as Part, Standing, Choice, take_other, take_one_negation as take_negation, take, next_choice, drop_spent, rounds}
use Rattle.lrp_plan_laws.specs.GuardedPlans.{build}
use Rattle.lrp_plan.specs.Elements.{CanPlan}
use Rattle.lrp_plan.proofs.Turns.{zip_get, zip_remove, zip_length}
use Rattle.lrp_guarded.specs.Making.{IsMaking}
use Rattle.lrp_guarded.specs.Choices.{choice_of}
use Rattle.lrp_guarded.specs.Standing.{IsPartOf, IsGuardedPart as IsPart, IsDeniedPart as IsDenied, AreElementsLeft as AreLeft, IsStandingOf as IsStanding, StandsInList as Stands, FollowsRule as Follows, turned, turned_so_often}
use Rattle.lrp_guarded.specs.Building.{FollowsIn, BuildsElement, part_of_form as part_of, element_step}
use Rattle.lrp_guarded.specs.declared.choices.Choice.{Choice as ProgramChoice}
use Rattle.lrp_guarded.specs.declared.elements.Elements.{Elements}
use Rattle.lrp_guarded.specs.declared.elements.Part.{Part as ProgramPart}
use Rattle.lrp_guarded.specs.declared.making.Making.{Making}
use Rattle.lrp_guarded.specs.declared.standing.Standing.{Standing as ProgramStanding}

pub in_list : {T E : Type 0} (r : Result T E) (fs : List Core) (step : Ground → Standing → Standing) (before after : Making) (old new : ProgramStanding) → OnOk r (Follows step before after old new) → OnOk r (FollowsIn fs step before after old new)
in_list (Ok x) fs step before after old new h = record { follows = λ over K at st. h.follows over K fs at st }
in_list (Err x) fs step before after old new h = tt

get_past : {X : Type 0} (xs : List X) (i : ℕ) → length xs ≤ i → slice_get xs i ≡ None
get_past [] i le = refl
get_past (x ∷ xs) zero le = absurd (omega arith)
get_past (x ∷ xs) (suc i) le = get_past xs i (omega arith)

get_below : {X : Type 0} (xs : List X) (i : ℕ) (x : X) → slice_get xs i ≡ Some x → i < length xs
get_below [] i x e = cc
get_below (y ∷ ys) zero x e = omega arith
get_below (y ∷ ys) (suc i) x e = let h : i < length ys = get_below ys i x e in omega arith

part_is : (over : Ground) (K : ℕ) (f : Form) (e : ProgramPart) (p : Part) → IsPartOf over K f e p → p ≡ part_of f
part_is over K f e p h = ap (λ r. record { formula = p.formula; rule = r }) h.rule ∙ ap part_of h.formula

same_core : (fs : List Core) (i : ℕ) (a b : Core) → slice_get fs i ≡ Some a → slice_get fs i ≡ Some b → a ≡ b
same_core fs i a b e f = let d : Some a ≡ Some b = sym e ∙ f in cc

module _ (fs : List Core) (index : ℕ) (before : Making) (old : ProgramStanding) where
  -- nothing is at the place
  pub other_past : length old.left.others.items ≤ index → FollowsIn fs (λ over at. take_other over index (slice_get at.others index) at) before before old old
  other_past le = record {
    follows = λ over K at st.
        let l : length old.left.others.items ≡ length at.others = zip_length (IsPart over K fs) old.left.others.items at.others st.standing.left.others in
        subst (λ o. Stands over K fs before old (take_other over index o at)) (sym (get_past at.others index (omega arith))) st;
  }

  pub negation_past : length old.left.negations.items ≤ index → FollowsIn fs (λ over at. take_negation over index (slice_get at.negations index) at) before before old old
  negation_past le = record {
    follows = λ over K at st.
        let l : length old.left.negations.items ≡ length at.negations = zip_length (IsDenied over K fs) old.left.negations.items at.negations st.standing.left.negations in
        subst (λ o. Stands over K fs before old (take_negation over index o at)) (sym (get_past at.negations index (omega arith))) st;
  }

  -- the other positive at the place
  pub other_taken : (e : ProgramPart) (core : Core) (after : Making) (rest : Vec ProgramPart Global) (new : ProgramStanding) → slice_get old.left.others.items index ≡ Some e → slice_get fs e.index ≡ Some core → rest.items ≡ remove old.left.others.items index
      → (tree_of e.tree.now ≡ free_tree (core_of core) → BuildsElement true (core_of core) before after (record old { left = record old.left { others = rest } }) new) → FollowsIn fs (λ over at. take_other over index (slice_get at.others index) at) before after old new
  other_taken e core after rest new there stands ex builds = record {
    follows = λ over K at st.
        let l : AreLeft over K fs old.left at = st.standing.left in
        let got = zip_get (IsPart over K fs) old.left.others.items at.others index e l.others there in
        let p : Part = got.0 in
        let is : IsPart over K fs e p = got.2 in
        let part : IsPartOf over K (core_of core) e p = subst (λ c. IsPartOf over K (core_of c) e p) (same_core fs e.index is.core core is.stands stands) is.part in
        let left : Standing = record at { others = remove at.others index } in
        let st1 : Stands over K fs before (record old { left = record old.left { others = rest } }) left = record {
          making = st.making;
          standing = record {
            some = st.standing.some;
            result = st.standing.result;
            variables = st.standing.variables;
            left = record {
              atoms = l.atoms;
              sorts = l.sorts;
              others = subst (λ xs. AllZip (IsPart over K fs) xs (remove at.others index)) (sym ex) (zip_remove (IsPart over K fs) old.left.others.items at.others index l.others);
              tests = l.tests;
              are_tests = l.are_tests;
              negations = l.negations;
            };
            block = st.standing.block;
          };
        } in
        let f = (builds (part.tree ∙ ap free_tree part.formula)).follows over K fs left (subst (CanPlan over.structure K) part.formula part.can) st1 in
        subst (λ o. Stands over K fs after new (take_other over index o at)) (sym got.1) (subst (λ q. Stands over K fs after new (element_step true q over left)) (sym (part_is over K (core_of core) e p part)) f);
  }

  -- what the negation at the place denies
  pub negation_taken : (e : ProgramPart) (core : Core) (after : Making) (rest : Vec ProgramPart Global) (new : ProgramStanding) → slice_get old.left.negations.items index ≡ Some e → slice_get fs e.index ≡ Some core → rest.items ≡ remove old.left.negations.items index
      → ((f : Form) → core_of core ≡ negation f → tree_of e.tree.now ≡ free_tree f → BuildsElement false f before after (record old { left = record old.left { negations = rest } }) new) → FollowsIn fs (λ over at. take_negation over index (slice_get at.negations index) at) before after old new
  negation_taken e core after rest new there stands ex builds = record {
    follows = λ over K at st.
        let l : AreLeft over K fs old.left at = st.standing.left in
        let got = zip_get (IsDenied over K fs) old.left.negations.items at.negations index e l.negations there in
        let p : Part = got.0 in
        let is : IsDenied over K fs e p = got.2 in
        let denies : core_of core ≡ negation p.formula = ap core_of (sym (same_core fs e.index is.core core is.stands stands)) ∙ is.denies in
        let left : Standing = record at { negations = remove at.negations index } in
        let st1 : Stands over K fs before (record old { left = record old.left { negations = rest } }) left = record {
          making = st.making;
          standing = record {
            some = st.standing.some;
            result = st.standing.result;
            variables = st.standing.variables;
            left = record {
              atoms = l.atoms;
              sorts = l.sorts;
              others = l.others;
              tests = l.tests;
              are_tests = l.are_tests;
              negations = subst (λ xs. AllZip (IsDenied over K fs) xs (remove at.negations index)) (sym ex) (zip_remove (IsDenied over K fs) old.left.negations.items at.negations index l.negations);
            };
            block = st.standing.block;
          };
        } in
        let f = (builds p.formula denies is.part.tree).follows over K fs left is.part.can st1 in
        subst (λ o. Stands over K fs after new (take_negation over index o at)) (sym got.1) (subst (λ q. Stands over K fs after new (element_step false q over left)) (sym (part_is over K p.formula e p is.part)) f);
  }

-- the element at a place of the list is there
pub other_stands : (over : Ground) (K : ℕ) (fs : List Core) (xs : List ProgramPart) (ps : List Part) (index : ℕ) (e : ProgramPart) → AllZip (IsPart over K fs) xs ps → slice_get xs index ≡ Some e → e.index < length fs
other_stands over K fs xs ps index e h there =
    let got = zip_get (IsPart over K fs) xs ps index e h there in
    get_below fs e.index got.2.core got.2.stands

pub negation_stands : (over : Ground) (K : ℕ) (fs : List Core) (xs : List ProgramPart) (ps : List Part) (index : ℕ) (e : ProgramPart) → AllZip (IsDenied over K fs) xs ps → slice_get xs index ≡ Some e → e.index < length fs
negation_stands over K fs xs ps index e h there =
    let got = zip_get (IsDenied over K fs) xs ps index e h there in
    get_below fs e.index got.2.core got.2.stands

pub get_found : {X : Type 0} (xs : List X) (i : ℕ) (x : X) → i < length xs → x ≡ get_or xs i x → slice_get xs i ≡ Some x
get_found [] i x lt e = absurd (omega arith)
get_found (y ∷ xs) zero x lt e = ap Some (sym e)
get_found (y ∷ xs) (suc i) x lt e = get_found xs i x (omega arith) e

-- ---- one round

pub idle_turn : (fs : List Core) (before : Making) (old : ProgramStanding) (choice : Option ProgramChoice) → choice ≡ None → ((over : Ground) (K : ℕ) (gs : List Core) (at : Standing) → IsStanding over K gs old at → option_map choice_of choice ≡ next_choice at)
    → FollowsIn fs (λ over at. turned over (next_choice at) at) before before old old
idle_turn fs before old choice e h = record {
  follows = λ over K at st. subst (λ o. Stands over K fs before old (turned over o at)) (ap (option_map choice_of) (sym e) ∙ h over K fs at st.standing) st;
}

pub one_turn : {T E : Type 0} (r : Result T E) (fs : List Core) (before mid after : Making) (old then new : ProgramStanding) (choice : Option ProgramChoice) (c : ProgramChoice) → choice ≡ Some c → ((over : Ground) (K : ℕ) (gs : List Core) (at : Standing) → IsStanding over K gs old at → option_map choice_of choice ≡ next_choice at)
    → FollowsIn fs (λ over at. take over (choice_of c) at) before mid old then → OnOk r (Follows drop_spent mid after then new) → OnOk r (FollowsIn fs (λ over at. turned over (next_choice at) at) before after old new)
one_turn (Ok x) fs before mid after old then new choice c e h k d = record {
  follows = λ over K at st.
      subst (λ o. Stands over K fs after new (turned over o at)) (ap (option_map choice_of) (sym e) ∙ h over K fs at st.standing)
      (d.follows over K fs (take over (choice_of c) at) (k.follows over K at st));
}
one_turn (Err x) fs before mid after old then new choice c e h k d = tt

-- ---- rounds

pub no_turns : (fs : List Core) (before : Making) (old : ProgramStanding) → FollowsIn fs (λ over at. turned_so_often over 0 at) before before old old
no_turns fs before old = record { follows = λ over K at st. st }

pub more_turns : (fs : List Core) (n : ℕ) (before mid after : Making) (old then new : ProgramStanding) → FollowsIn fs (λ over at. turned_so_often over n at) before mid old then → FollowsIn fs (λ over at. turned over (next_choice at) at) mid after then new → FollowsIn fs (λ over at. turned_so_often over (n + 1) at) before after old new
more_turns fs n before mid after old then new h k = record {
  follows = λ over K at st.
      let e : n + 1 ≡ suc n = omega arith in
      subst (λ m. Stands over K fs after new (turned_so_often over m at)) (sym e) (k.follows over K (turned_so_often over n at) (h.follows over K at st));
}

-- rounds from here are those from the start
turn_first : (over : Ground) (n : ℕ) (at : Standing) → turned_so_often over (suc n) at ≡ turned_so_often over n (turned over (next_choice at) at)
turn_first over zero at = refl
turn_first over (suc n) at = ap (λ x. turned over (next_choice x) x) (turn_first over n at)

stays : (over : Ground) (n : ℕ) (at : Standing) → next_choice at ≡ None → turned_so_often over n at ≡ at
stays over zero at e = refl
stays over (suc n) at e = ap (λ x. turned over (next_choice x) x) (stays over n at e) ∙ ap (λ o. turned over o at) e

rounds_by : (over : Ground) (n : ℕ) (o : Option Choice) (at : Standing) → next_choice at ≡ o → ((after : Standing) → rounds over n (next_choice after) after ≡ turned_so_often over n after) → rounds over (suc n) o at ≡ turned_so_often over (suc n) at
rounds_by over n None at e h = sym (stays over (suc n) at e)
rounds_by over n (Some c) at e h = h (drop_spent over (take over c at)) ∙ ap (λ o. turned_so_often over n (turned over o at)) (sym e) ∙ sym (turn_first over n at)

pub rounds_are : (over : Ground) (n : ℕ) (at : Standing) → rounds over n (next_choice at) at ≡ turned_so_often over n at
rounds_are over zero at = refl
rounds_are over (suc n) at = rounds_by over n (next_choice at) at refl (λ after. rounds_are over n after)
