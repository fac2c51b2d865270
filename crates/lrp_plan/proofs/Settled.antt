-- Tests that are settled: no variable that was taken in covers them.
use Rattle.std.proofs.Common.{◌≡◌, Bool, true, false, cond, not, ◌&&◌, if◌then◌else◌, List, [], ◌∷◌, ◌++◌, filter, Result, Ok, Err, refl, sym, ap, subst, ◌∙◌}
use Rattle.std.specs.List.{AllByRecursion}
use Rattle.std.specs.Result.{IfOk}
use Rattle.std.proofs.lemmas.Bool.{false≢true}
use Rattle.lrp_core.specs.FreeVariables.{with_variable, with_variables}
use Rattle.lrp_model.specs.Variables.{Variable, is_among, are_among}
use Rattle.lrp_model.specs.declared.formulas.Test.{Test}
use Rattle.lrp_plan.specs.Taking.{covers, AreUncovered, Splits}

module _ {X : Type 0} (p : X → Bool) where
  none_pass : (xs : List X) → AllByRecursion (λ x. p x ≡ false) xs → filter p xs ≡ []
  none_pass [] h = refl
  none_pass (x ∷ xs) h = ap (λ b. cond b (x ∷ filter p xs) (filter p xs)) h.0 ∙ none_pass xs h.1

  all_fail : (xs : List X) → AllByRecursion (λ x. p x ≡ false) xs → filter (λ x. not (p x)) xs ≡ xs
  all_fail [] h = refl
  all_fail (x ∷ xs) h = ap (λ b. cond (not b) (x ∷ filter (λ y. not (p y)) xs) (filter (λ y. not (p y)) xs)) h.0 ∙ ap (λ ys. x ∷ ys) (all_fail xs h.1)

  fail_at : (x : X) (b : Bool) (ys : List X) → p x ≡ b → AllByRecursion (λ y. p y ≡ false) ys → AllByRecursion (λ y. p y ≡ false) (cond (not b) (x ∷ ys) ys)
  fail_at x true ys e h = h
  fail_at x false ys e h = (e, h)

  -- those that do not pass
  pub left_fail : (xs : List X) → AllByRecursion (λ x. p x ≡ false) (filter (λ x. not (p x)) xs)
  left_fail [] = tt
  left_fail (x ∷ xs) = fail_at x (p x) (filter (λ y. not (p y)) xs) refl (left_fail xs)

-- settled tests are all left
pub splits_settled : (settled : Bool) (vs : List Variable) (tests none : List Test) → settled ≡ true → none ≡ [] → Splits settled vs tests none tests
splits_settled settled vs tests none e n = record {
  carries = λ u. n ∙ sym (none_pass (covers vs) tests (u e));
  leaves = λ u. sym (all_fail (covers vs) tests (u e));
}

-- tests that were looked at, whether they were settled or not
pub splits_looked : {E : Type 0} (r : Result (List Test × List Test) E) (settled : Bool) (vs : List Variable) (tests : List Test) → IfOk r (λ made. made.0 ≡ filter (covers vs) tests) → IfOk r (λ made. made.1 ≡ filter (λ t. not (covers vs t)) tests) → IfOk r (λ made. Splits settled vs tests made.0 made.1)
splits_looked (Ok made) settled vs tests c o = record { carries = λ u. c; leaves = λ u. o }
splits_looked (Err x) settled vs tests c o = tt

-- ---- variables that are there already

both : (a b : Bool) → (a && b) ≡ true → (a ≡ true) × (b ≡ true)
both true b e = (refl, e)
both false b e = absurd (false≢true e)

pub adds_none : (vs ws : List Variable) → are_among ws vs ≡ true → with_variables vs ws ≡ vs
adds_none vs [] e = refl
adds_none vs (w ∷ ws) e =
    let h = both (is_among vs w) (are_among ws vs) e in
    let one : with_variable vs w ≡ vs = ap (λ b. if b then vs else (vs ++ w ∷ [])) h.0 in
    ap (λ us. with_variables us ws) one ∙ adds_none vs ws h.1

-- what was settled is settled where no variable is further
pub still_uncovered : (settled was : Bool) (old new vs : List Variable) (tests : List Test) → settled ≡ (was && are_among vs old) → new ≡ with_variables old vs → (was ≡ true → AreUncovered old tests) → settled ≡ true → AreUncovered new tests
still_uncovered settled was old new vs tests s e h y =
    let t = both was (are_among vs old) (sym s ∙ y) in
    subst (λ us. AreUncovered us tests) (sym (e ∙ adds_none old vs t.1)) (h t.0)
