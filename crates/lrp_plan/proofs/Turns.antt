-- One turn of each loop of an `and`.
use Rattle.std.proofs.Common.{◌≡◌, ◌+◌, ℕ, zero, suc, Bool, true, cond, not, ◌&&◌, List, [], ◌∷◌, ◌++◌, length, Option, Some, None, unwrap_or, slice_get, remove, map, refl, sym, ap, subst, ◌∙◌, arith, nat_lt}
use Rattle.std.specs.List.{AllZip, AllByRecursion, position_or_len}
use Rattle.std.specs.Option.{is_some}
use Rattle.lrp_core.specs.Cores.{core_of}
use Rattle.lrp_core.specs.FreeVariables.{variable_of}
use Rattle.lrp_core.specs.declared.core_forms.Core.{Core}
use Rattle.lrp_model.specs.Formulas.{Form, negation}
use Rattle.lrp_model.specs.Variables.{free, are_among, meet}
use Rattle.lrp_model.specs.Satisfaction.{Structure, Satisfies}
use Rattle.lrp_model.specs.Core.{IsCore}
use Rattle.lrp_model.specs.Steps.{Steps, Rule}
use Rattle.lrp_model.specs.Conjunctions.{Element as PlanElement, State, Taken, first_or_0, is_covered, take_in, next_positive, take_positive, take_positives, next_negation, take_negation, take_negations, take_test, take_tests}
use Rattle.lrp_model.specs.Plans.{plan_of}
use Rattle.lrp_model.specs.declared.formulas.Test.{Test}
use Rattle.lrp_plan_laws.proofs.PlanLaws.{Makes}
use Rattle.lrp_plan_laws.proofs.PlanSound.{makes}
use Rattle.lrp_plan.specs.declared.elements.Element.{Element}
use Rattle.lrp_plan.specs.declared.drafts.PlannedOperand.{PlannedOperand}
use Rattle.lrp_plan.specs.declared.drafts.Draft.{Draft}
use Rattle.lrp_plan.specs.declared.taking.Taking.{Taking}
use Rattle.lrp_plan.specs.Drafts.{IsDraft, Extends, AreTests}
use Rattle.lrp_plan.specs.Taking.{AreUncovered, HaveSame, NextTest, IsSoFar, IsTaking, IsTakenState, TakesElement, TakesIn, TakesTest, TakesOff}
use Rattle.lrp_plan.specs.Waiting.{goes_first, turn_of}
use Rattle.lrp_plan.specs.declared.elements.Kind.{Kind}
use Rattle.lrp_plan.specs.declared.elements.Kind.TheVariants.{Positive, Negation}
use Rattle.lrp_plan.specs.Elements.{element_variables, element_inner, AreInner, TakesAt, IsElement, IsDenied, IsMakingAt, CanPlan, EachCanPlan, TakesPositives, TakesTests, TakesNegations, TakesTurns, TakesNext, TurnsTest, element_of}
use Rattle.lrp_plan.proofs.Members.{are_among_same, meet_same}
use Rattle.lrp_plan.proofs.Takes.{taking_grows}

-- ---- two lists side by side

module _ {A B : Type 0} (R : A → B → Type 0) where
  pub zip_length : (xs : List A) (ys : List B) → AllZip R xs ys → length xs ≡ length ys
  zip_length [] [] h = refl
  zip_length [] (y ∷ ys) h = absurd h
  zip_length (x ∷ xs) [] h = absurd h
  zip_length (x ∷ xs) (y ∷ ys) h = ap suc (zip_length xs ys h.1)

  pub zip_get : (xs : List A) (ys : List B) (i : ℕ) (x : A) → AllZip R xs ys → slice_get xs i ≡ Some x → (y : B) × (slice_get ys i ≡ Some y) × R x y
  zip_get [] ys i x h e = cc
  zip_get (a ∷ xs) [] i x h e = absurd h
  zip_get (a ∷ xs) (b ∷ ys) zero x h e = let d : a ≡ x = cc in (b, refl, subst (λ z. R z b) d h.0)
  zip_get (a ∷ xs) (b ∷ ys) (suc i) x h e = zip_get xs ys i x h.1 e

  pub zip_remove : (xs : List A) (ys : List B) (i : ℕ) → AllZip R xs ys → AllZip R (remove xs i) (remove ys i)
  zip_remove [] [] zero h = tt
  zip_remove [] [] (suc i) h = tt
  zip_remove [] (y ∷ ys) i h = absurd h
  zip_remove (x ∷ xs) [] i h = absurd h
  zip_remove (x ∷ xs) (y ∷ ys) zero h = h.1
  zip_remove (x ∷ xs) (y ∷ ys) (suc i) h = (h.0, zip_remove xs ys i h.1)

  pub zip_front : (p : A → Bool) (q : B → Bool) → ((x : A) (y : B) → R x y → p x ≡ q y) → (xs : List A) (ys : List B) → AllZip R xs ys → position_or_len p xs ≡ position_or_len q ys
  zip_front p q agree [] [] h = refl
  zip_front p q agree [] (y ∷ ys) h = absurd h
  zip_front p q agree (x ∷ xs) [] h = absurd h
  zip_front p q agree (x ∷ xs) (y ∷ ys) h =
      let ih : position_or_len p xs ≡ position_or_len q ys = zip_front p q agree xs ys h.1 in
      ap (λ b. cond (not b) (1 + position_or_len p xs) 0) (agree x y h.0) ∙ ap (λ n. cond (not (q y)) (1 + n) 0) ih

  pub zip_first : (p : A → Bool) (q : B → Bool) → ((x : A) (y : B) → R x y → p x ≡ q y) → (xs : List A) (ys : List B) → AllZip R xs ys → first_or_0 p xs ≡ first_or_0 q ys
  zip_first p q agree xs ys h =
      let e : position_or_len p xs ≡ position_or_len q ys = zip_front p q agree xs ys h in
      let l : length xs ≡ length ys = zip_length xs ys h in
      ap (λ n. unwrap_or (cond (nat_lt n (length xs)) (Some n) None) 0) e ∙ ap (λ n. unwrap_or (cond (nat_lt (position_or_len q ys) n) (Some (position_or_len q ys)) None) 0) l

-- ---- what can be planned

got : {X : Type 0} (p : X → Type 0) (xs : List X) (i : ℕ) (x : X) → AllByRecursion p xs → slice_get xs i ≡ Some x → p x
got p [] i x h e = cc
got p (y ∷ ys) zero x h e = let d : y ≡ x = cc in subst p d h.0
got p (y ∷ ys) (suc i) x h e = got p ys i x h.1 e

-- whether there is a result is what the rules keep
some_is : (M : Structure) (K : ℕ) (steps : Steps) (o : Option PlannedOperand) (taken : Taken) → IsSoFar M.relations K steps o taken → is_some o ≡ taken.some
some_is M K steps None taken h = sym h
some_is M K steps (Some o) taken h = sym h.0

-- ---- a positive

pub positive_turn : (M : Structure) (K : ℕ) (fs : List Core) (draft mid after : Draft) (ps qs ns : List Element) (e : Element) (old new : Taking) (s : State) (i : ℕ) → IsMakingAt M K fs draft ps ns old s → EachCanPlan M K fs
    → i ≡ first_or_0 (λ x. meet (element_variables x) (map variable_of old.variables)) ps → slice_get ps i ≡ Some e → qs ≡ remove ps i
    → ((core : Core) → slice_get fs e.index ≡ Some core → AreInner (element_inner e) (core_of core) → Extends M K (plan_of (core_of core)) draft mid) → TakesIn (element_variables e) old new mid after
    → IsMakingAt M K fs after qs ns new (take_positive M (next_positive s) (slice_get s.positives (next_positive s)) s)
positive_turn M K fs draft mid after ps qs ns e old new s i at can first there left plans takes =
    let agree : (x : Element) (p : PlanElement) → IsElement fs x p → meet (element_variables x) (map variable_of old.variables) ≡ meet (free p.formula) s.taken.variables = λ x p h. meet_same _ _ _ _ h.variables at.took.variables in
    let n : i ≡ next_positive s = first ∙ zip_first (IsElement fs) (λ x. meet (element_variables x) (map variable_of old.variables)) (λ p. meet (free p.formula) s.taken.variables) agree ps s.positives at.positives in
    let g = zip_get (IsElement fs) ps s.positives i e at.positives there in
    let p : PlanElement = g.0 in
    let el : IsElement fs e p = g.2 in
    let c : CanPlan M K (core_of el.core) = got (λ x. CanPlan M K (core_of x)) fs e.index el.core can el.stands in
    let core : IsCore p.formula = subst IsCore (sym el.formula) c.core in
    let m : Makes M s.steps (plan_of p.formula M s.steps) (Satisfies p.formula M) = makes p.formula core M s.steps in
    let d1 : IsDraft M.relations K mid (plan_of (core_of el.core) M s.steps) = (plans el.core el.stands (subst (AreInner (element_inner e)) el.formula el.inner)).follows s.steps at.made in
    let d2 : IsDraft M.relations K mid (p.rule M s.steps) = subst (λ r. IsDraft M.relations K mid (r M s.steps)) (sym el.rule) (subst (λ f. IsDraft M.relations K mid (plan_of f M s.steps)) (sym el.formula) d1) in
    let grown : p.rule M s.steps ≡ s.steps ++ m.more = ap (λ (r : Rule). r M s.steps) el.rule ∙ m.is in
    let t : IsTaking M.relations K (p.rule M s.steps) old s.taken s.tests = subst (λ st. IsTaking M.relations K st old s.taken s.tests) (sym grown) (taking_grows M.relations K s.steps m.more old s.taken s.tests at.took) in
    let r : IsTakenState M.relations K after new (take_in M p.formula (p.rule M s.steps) (record s { positives = remove s.positives i })) = takes.follows M K p.formula (p.rule M s.steps) (record s { positives = remove s.positives i }) el.variables d2 t in
    let x : IsMakingAt M K fs after qs ns new (take_positive M i (Some p) s) = record {
      made = r.made;
      took = r.took;
      positives = subst (λ q. AllZip (IsElement fs) q (remove s.positives i)) (sym left) (zip_remove (IsElement fs) ps s.positives i at.positives);
      negations = at.negations;
    } in
    subst (λ j. IsMakingAt M K fs after qs ns new (take_positive M j (slice_get s.positives j) s)) n (subst (λ o. IsMakingAt M K fs after qs ns new (take_positive M i o s)) (sym g.1) x)

-- ---- a negation

pub negation_turn : (M : Structure) (K : ℕ) (fs : List Core) (draft mid after : Draft) (ps qs ns : List Element) (e : Element) (some : Bool) (old new : Taking) (s : State) (i : ℕ) → IsMakingAt M K fs draft ps ns old s → EachCanPlan M K fs → some ≡ is_some old.result
    → i ≡ first_or_0 (λ x. some && are_among (element_variables x) (map variable_of old.variables)) ns → slice_get ns i ≡ Some e → qs ≡ remove ns i
    → ((core : Core) (f : Form) → slice_get fs e.index ≡ Some core → core_of core ≡ negation f → AreInner (element_inner e) f → Extends M K (plan_of f) draft mid) → TakesOff (element_variables e) old new mid after
    → IsMakingAt M K fs after ps qs new (take_negation M (next_negation s) (slice_get s.negations (next_negation s)) s)
negation_turn M K fs draft mid after ps qs ns e some old new s i at can so first there left plans takes =
    let same : some ≡ s.taken.some = so ∙ some_is M K s.steps old.result s.taken at.took.result in
    let agree : (x : Element) (p : PlanElement) → IsDenied fs x p → (some && are_among (element_variables x) (map variable_of old.variables)) ≡ is_covered s.taken p.formula =
    λ x p h. ap (λ b. b && are_among (element_variables x) (map variable_of old.variables)) same ∙ ap (λ b. s.taken.some && b) (are_among_same _ _ _ _ h.variables at.took.variables) in
    let n : i ≡ next_negation s = first ∙ zip_first (IsDenied fs) (λ x. some && are_among (element_variables x) (map variable_of old.variables)) (λ p. is_covered s.taken p.formula) agree ns s.negations at.negations in
    let g = zip_get (IsDenied fs) ns s.negations i e at.negations there in
    let p : PlanElement = g.0 in
    let el : IsDenied fs e p = g.2 in
    let c : CanPlan M K (core_of el.core) = got (λ x. CanPlan M K (core_of x)) fs e.index el.core can el.stands in
    let core : IsCore (negation p.formula) = subst IsCore el.formula c.core in
    let m : Makes M s.steps (plan_of p.formula M s.steps) (Satisfies p.formula M) = makes p.formula core M s.steps in
    let d2 : IsDraft M.relations K mid (p.rule M s.steps) = subst (λ r. IsDraft M.relations K mid (r M s.steps)) (sym el.rule) ((plans el.core p.formula el.stands el.formula el.inner).follows s.steps at.made) in
    let grown : p.rule M s.steps ≡ s.steps ++ m.more = ap (λ (r : Rule). r M s.steps) el.rule ∙ m.is in
    let t : IsTaking M.relations K (p.rule M s.steps) old s.taken s.tests = subst (λ st. IsTaking M.relations K st old s.taken s.tests) (sym grown) (taking_grows M.relations K s.steps m.more old s.taken s.tests at.took) in
    let r = takes.follows M K p.formula (p.rule M s.steps) s.taken s.tests el.variables d2 t in
    let x : IsMakingAt M K fs after ps qs new (take_negation M i (Some p) s) = record {
      made = r.0;
      took = r.1;
      positives = at.positives;
      negations = subst (λ q. AllZip (IsDenied fs) q (remove s.negations i)) (sym left) (zip_remove (IsDenied fs) ns s.negations i at.negations);
    } in
    subst (λ j. IsMakingAt M K fs after ps qs new (take_negation M j (slice_get s.negations j) s)) n (subst (λ o. IsMakingAt M K fs after ps qs new (take_negation M i o s)) (sym g.1) x)

-- ---- a turn with nothing left

none_got : {X : Type 0} (xs : List X) (i : ℕ) → xs ≡ [] → slice_get xs i ≡ None
none_got [] i e = refl
none_got (x ∷ xs) i e = cc

zip_none : {A B : Type 0} (R : A → B → Type 0) (xs : List A) (ys : List B) → AllZip R xs ys → xs ≡ [] → ys ≡ []
zip_none R [] [] h e = refl
zip_none R [] (y ∷ ys) h e = absurd h
zip_none R (x ∷ xs) ys h e = cc

pub positive_idle : (M : Structure) (K : ℕ) (fs : List Core) (draft : Draft) (ps qs ns : List Element) (taking : Taking) (s : State) → IsMakingAt M K fs draft ps ns taking s → ps ≡ [] → qs ≡ [] → IsMakingAt M K fs draft qs ns taking (take_positive M (next_positive s) (slice_get s.positives (next_positive s)) s)
positive_idle M K fs draft ps qs ns taking s at e f =
    let n : slice_get s.positives (next_positive s) ≡ None = none_got s.positives (next_positive s) (zip_none (IsElement fs) ps s.positives at.positives e) in
    subst (λ o. IsMakingAt M K fs draft qs ns taking (take_positive M (next_positive s) o s)) (sym n) (subst (λ q. IsMakingAt M K fs draft q ns taking s) (e ∙ sym f) at)

pub negation_idle : (M : Structure) (K : ℕ) (fs : List Core) (draft : Draft) (ps qs ns : List Element) (taking : Taking) (s : State) → IsMakingAt M K fs draft ps ns taking s → ns ≡ [] → qs ≡ [] → IsMakingAt M K fs draft ps qs taking (take_negation M (next_negation s) (slice_get s.negations (next_negation s)) s)
negation_idle M K fs draft ps qs ns taking s at e f =
    let n : slice_get s.negations (next_negation s) ≡ None = none_got s.negations (next_negation s) (zip_none (IsDenied fs) ns s.negations at.negations e) in
    subst (λ o. IsMakingAt M K fs draft ps qs taking (take_negation M (next_negation s) o s)) (sym n) (subst (λ q. IsMakingAt M K fs draft ps q taking s) (e ∙ sym f) at)

-- ---- turns, one more after the others

more_positives : (turns : ℕ) (M : Structure) (s : State) → take_positives (suc turns) M s ≡ take_positive M (next_positive (take_positives turns M s)) (slice_get (take_positives turns M s).positives (next_positive (take_positives turns M s))) (take_positives turns M s)
more_positives zero M s = refl
more_positives (suc turns) M s = more_positives turns M (take_positive M (next_positive s) (slice_get s.positives (next_positive s)) s)

more_negations : (turns : ℕ) (M : Structure) (s : State) → take_negations (suc turns) M s ≡ take_negation M (next_negation (take_negations turns M s)) (slice_get (take_negations turns M s).negations (next_negation (take_negations turns M s))) (take_negations turns M s)
more_negations zero M s = refl
more_negations (suc turns) M s = more_negations turns M (take_negation M (next_negation s) (slice_get s.negations (next_negation s)) s)

more_tests : (turns : ℕ) (M : Structure) (s : State) → take_tests (suc turns) M s ≡ take_test M (take_tests turns M s).tests (take_tests turns M s)
more_tests zero M s = refl
more_tests (suc turns) M s = more_tests turns M (take_test M s.tests s)

add_one : (n : ℕ) → n + 1 ≡ suc n
add_one n = omega arith

pub positives_more : (M : Structure) (turns : ℕ) (fs : List Core) (ps qs rs : List Element) (before mid last after : Draft) (e : Element) (old now new : Taking) → TakesPositives M turns fs ps qs before mid old now
    → TakesAt (first_or_0 (λ x. meet (element_variables x) (map variable_of now.variables)) qs) qs rs (Some e) → ((K : ℕ) (core : Core) → slice_get fs e.index ≡ Some core → AreInner (element_inner e) (core_of core) → CanPlan M K (core_of core) → Extends M K (plan_of (core_of core)) mid last) → TakesIn (element_variables e) now new last after
    → TakesPositives M (turns + 1) fs ps rs before after old new
positives_more M turns fs ps qs rs before mid last after e old now new h t plans takes = record {
  follows = λ K ns s can at.
      let st : State = take_positives turns M s in
      subst (λ n. IsMakingAt M K fs after rs ns new (take_positives n M s)) (sym (add_one turns)) (subst (IsMakingAt M K fs after rs ns new) (sym (more_positives turns M s))
      (positive_turn M K fs mid last after qs rs ns e now new st _ (h.follows K ns s can at) can refl t.0 t.1 (λ core is inner. plans K core is inner (got (λ x. CanPlan M K (core_of x)) fs e.index core can is)) takes));
}

pub positives_idle : (M : Structure) (turns : ℕ) (fs : List Core) (ps qs rs : List Element) (before mid : Draft) (old now : Taking) (i : ℕ) → TakesPositives M turns fs ps qs before mid old now → TakesAt i qs rs None → TakesPositives M (turns + 1) fs ps rs before mid old now
positives_idle M turns fs ps qs rs before mid old now i h t = record {
  follows = λ K ns s can at.
      subst (λ n. IsMakingAt M K fs mid rs ns now (take_positives n M s)) (sym (add_one turns)) (subst (IsMakingAt M K fs mid rs ns now) (sym (more_positives turns M s)) (positive_idle M K fs mid qs rs ns now (take_positives turns M s) (h.follows K ns s can at) t.0 t.1));
}

pub negations_more : (M : Structure) (turns : ℕ) (fs : List Core) (ns qs rs : List Element) (before mid last after : Draft) (e : Element) (some : Bool) (old now new : Taking) → TakesNegations M turns fs ns qs before mid old now → some ≡ is_some now.result
    → TakesAt (first_or_0 (λ x. some && are_among (element_variables x) (map variable_of now.variables)) qs) qs rs (Some e) → ((K : ℕ) (core : Core) (f : Form) → slice_get fs e.index ≡ Some core → core_of core ≡ negation f → AreInner (element_inner e) f → CanPlan M K f → Extends M K (plan_of f) mid last) → TakesOff (element_variables e) now new last after
    → TakesNegations M (turns + 1) fs ns rs before after old new
negations_more M turns fs ns qs rs before mid last after e some old now new h so t plans takes = record {
  follows = λ K ps s can at.
      let st : State = take_negations turns M s in
      subst (λ n. IsMakingAt M K fs after ps rs new (take_negations n M s)) (sym (add_one turns)) (subst (IsMakingAt M K fs after ps rs new) (sym (more_negations turns M s))
      (negation_turn M K fs mid last after ps rs qs e some now new st _ (h.follows K ps s can at) can so refl t.0 t.1
      (λ core f is denies inner. plans K core f is denies inner (let c : CanPlan M K (core_of core) = got (λ x. CanPlan M K (core_of x)) fs e.index core can is in let d : CanPlan M K (negation f) = subst (CanPlan M K) denies c in record { core = d.core; divides = d.divides })) takes));
}

pub negations_idle : (M : Structure) (turns : ℕ) (fs : List Core) (ns qs rs : List Element) (before mid : Draft) (old now : Taking) (i : ℕ) → TakesNegations M turns fs ns qs before mid old now → TakesAt i qs rs None → TakesNegations M (turns + 1) fs ns rs before mid old now
negations_idle M turns fs ns qs rs before mid old now i h t = record {
  follows = λ K ps s can at.
      subst (λ n. IsMakingAt M K fs mid ps rs now (take_negations n M s)) (sym (add_one turns)) (subst (IsMakingAt M K fs mid ps rs now) (sym (more_negations turns M s)) (negation_idle M K fs mid ps rs qs now (take_negations turns M s) (h.follows K ps s can at) t.0 t.1));
}

-- tests
pub tests_idle : (turns : ℕ) (before mid : Draft) (old now new : Taking) → TakesTests turns before mid old now → NextTest now new None → TakesTests (turns + 1) before mid old new
tests_idle turns before mid old now new h n = record {
  follows = λ M K fs ps ns s at.
      let st : State = take_tests turns M s in
      let a : IsMakingAt M K fs mid ps ns now st = h.follows M K fs ps ns s at in
      let e : st.tests ≡ [] = sym a.took.remain ∙ n.0 in
      subst (λ k. IsMakingAt M K fs mid ps ns new (take_tests k M s)) (sym (add_one turns)) (subst (IsMakingAt M K fs mid ps ns new) (sym (more_tests turns M s)) (subst (λ ts. IsMakingAt M K fs mid ps ns new (take_test M ts st)) (sym e) (subst (λ t. IsMakingAt M K fs mid ps ns t st) (sym n.1) a)));
}

pub tests_more : (turns : ℕ) (before mid after : Draft) (t : Test) (old now next new : Taking) → TakesTests turns before mid old now → NextTest now next (Some t) → TakesTest t next new mid after → TakesTests (turns + 1) before after old new
tests_more turns before mid after t old now next new h n takes = record {
  follows = λ M K fs ps ns s at.
      let st : State = take_tests turns M s in
      let a : IsMakingAt M K fs mid ps ns now st = h.follows M K fs ps ns s at in
      let e : st.tests ≡ t ∷ next.tests = sym a.took.remain ∙ n.0 in
      let ok : AreTests (t ∷ next.tests) = subst AreTests n.0 a.took.tests in
      let uncovered : next.settled ≡ true → AreUncovered (map variable_of next.variables) (t ∷ next.tests) = λ y. subst (AreUncovered (map variable_of next.variables)) n.0 (subst (λ vs. AreUncovered (map variable_of vs) now.tests) (sym n.2) (a.took.settled (sym n.3 ∙ y))) in
      let w : IsTaking M.relations K st.steps next st.taken next.tests = record { result = subst (λ o. IsSoFar M.relations K st.steps o st.taken) (sym n.1) a.took.result; variables = subst (λ vs. HaveSame (map variable_of vs) st.taken.variables) (sym n.2) a.took.variables; remain = refl; tests = ok.1; settled = λ y. (uncovered y).1 } in
      let r : IsTakenState M.relations K after new (take_test M (t ∷ next.tests) (record st { tests = t ∷ next.tests })) = takes.follows M K st next.tests a.made w (ok.0, tt) in
      let x : IsMakingAt M K fs after ps ns new (take_test M (t ∷ next.tests) (record st { tests = t ∷ next.tests })) = record { made = r.made; took = r.took; positives = a.positives; negations = a.negations } in
      subst (λ k. IsMakingAt M K fs after ps ns new (take_tests k M s)) (sym (add_one turns)) (subst (IsMakingAt M K fs after ps ns new) (sym (more_tests turns M s)) (subst (λ ts. IsMakingAt M K fs after ps ns new (take_test M ts st)) (sym e) x));
}

-- ---- single turns, and none

pub turns_next : (kind : Kind) (M : Structure) (fs : List Core) (qs rs : List Element) (mid last after : Draft) (e : Element) (now new : Taking) → TakesAt (first_or_0 (goes_first (turn_of kind (is_some now.result)) now.variables) qs) qs rs (Some e)
    → ((K : ℕ) (core : Core) (f : Form) → slice_get fs e.index ≡ Some core → core_of core ≡ element_of kind f → AreInner (element_inner e) f → CanPlan M K f → Extends M K (plan_of f) mid last) → TakesElement kind (element_variables e) now new last after → TakesNext kind M fs qs rs mid after now new
turns_next Positive M fs qs rs mid last after e now new t plans takes = record { next = λ turns es before old h. positives_more M turns fs es qs rs before mid last after e old now new h t (λ K core is inner can. plans K core (core_of core) is refl inner can) takes }
turns_next Negation M fs qs rs mid last after e now new t plans takes = record { next = λ turns es before old h. negations_more M turns fs es qs rs before mid last after e (is_some now.result) old now new h refl t plans takes }

pub idles_next : (kind : Kind) (M : Structure) (fs : List Core) (qs rs : List Element) (mid : Draft) (now : Taking) (i : ℕ) → TakesAt i qs rs None → TakesNext kind M fs qs rs mid mid now now
idles_next Positive M fs qs rs mid now i t = record { next = λ turns es before old h. positives_idle M turns fs es qs rs before mid old now i h t }
idles_next Negation M fs qs rs mid now i t = record { next = λ turns es before old h. negations_idle M turns fs es qs rs before mid old now i h t }

pub turns_test : (mid after : Draft) (t : Test) (now next new : Taking) → NextTest now next (Some t) → TakesTest t next new mid after → TurnsTest mid after now new
turns_test mid after t now next new n takes = record { next = λ turns before old h. tests_more turns before mid after t old now next new h n takes }

pub idles_test : (mid : Draft) (now new : Taking) → NextTest now new None → TurnsTest mid mid now new
idles_test mid now new n = record { next = λ turns before old h. tests_idle turns before mid old now new h n }

pub no_tests : (before : Draft) (old : Taking) → TakesTests 0 before before old old
no_tests before old = record { follows = λ M K fs ps ns s at. at }

pub no_turns : (kind : Kind) (M : Structure) (fs : List Core) (es : List Element) (before : Draft) (old : Taking) → TakesTurns kind M 0 fs es es before before old old
no_turns Positive M fs es before old = record { follows = λ K ns s can at. at }
no_turns Negation M fs es before old = record { follows = λ K ps s can at. at }
