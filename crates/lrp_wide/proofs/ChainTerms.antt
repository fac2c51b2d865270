-- Terms that are variables, one by one.
use Rattle.std.proofs.Common.{◌≡◌, ℕ, suc, zero, ◌+◌, ◌<◌, ◌≤◌, Bool, true, false, cond, Option, Some, None, List, [], ◌∷◌, ◌++◌, min, map, length, take, drop, refl, ap, ap₂, sym, ◌∙◌, arith, append_assoc, append-nil}
use Rattle.std.proofs.lemmas.List.{length-append}
use Rattle.lrp_model.specs.Texts.{Identifier}
use Rattle.lrp_model.specs.declared.raw.RawTerm.{RawTerm}
use Rattle.lrp_model.specs.declared.relations.Column.{Column}
use Rattle.lrp_model.specs.declared.tokens.Place.{Place}
use Rattle.lrp_wide.specs.Chains.{AreVariables, as_themselves}
use Rattle.lrp_wide.specs.Inlining.{Passed, UseSetting, itself, pass_variable, passed, plain_variable, star_total, star_variable}
use Rattle.lrp_wide.specs.Meaning.{is_star}

-- the first terms are these variables
pub record AreVariablesTo (cs : List Column) (ts : List RawTerm) (i : ℕ) (vs : List Identifier) : Type 0 where
  pub many : length vs ≡ i
  pub stars : star_total cs ts ≡ star_total (drop i cs) (drop i ts)
  pub passed : (s : UseSetting) (p : Place) (k j : ℕ) → passed s p k j cs ts ≡ as_themselves s.name cs vs ++ passed s p k j (drop i cs) (drop i ts)

-- without variables there are none
themselves_none : (name : Identifier → Identifier) (cs : List Column) → as_themselves name cs [] ≡ []
themselves_none name [] = refl
themselves_none name (c ∷ cs) = refl

-- with more of the columns, as many are variables
themselves_more : (name : Identifier → Identifier) (cs : List Column) (vs : List Identifier) (c : Column) (v : Identifier) → drop (length vs) cs ≡ c ∷ drop (length vs + 1) cs
    → as_themselves name cs (vs ++ v ∷ []) ≡ as_themselves name cs vs ++ itself c.name (name v) ∷ []
themselves_more name [] [] c v e = absurd cc
themselves_more name [] (w ∷ vs) c v e = absurd cc
themselves_more name (b ∷ cs) [] c v e = let same : b ≡ c = cc in ap (λ l. itself b.name (name v) ∷ l) (themselves_none name cs) ∙ ap (λ (x : Column). itself x.name (name v) ∷ []) same
themselves_more name (b ∷ cs) (w ∷ vs) c v e =
    let next : suc (length vs) + 1 ≡ suc (length vs + 1) = omega arith in
    ap (λ l. itself b.name (name w) ∷ l) (themselves_more name cs vs c v (e ∙ ap (λ m. c ∷ drop m (b ∷ cs)) next))

-- one of two lists is at its end
data AreEnded {A B : Type 0} (xs : List A) (ys : List B) : Type 0 where
  left_ended : xs ≡ [] → AreEnded xs ys
  right_ended : ys ≡ [] → AreEnded xs ys

ended : {A B : Type 0} (xs : List A) (ys : List B) (i : ℕ) → min (length xs) (length ys) ≤ i → AreEnded (drop i xs) (drop i ys)
ended [] ys zero le = left_ended refl
ended [] ys (suc i) le = left_ended refl
ended (x ∷ xs) [] zero le = right_ended refl
ended (x ∷ xs) [] (suc i) le = right_ended refl
ended (x ∷ xs) (y ∷ ys) zero le = absurd (omega (arith, le))
ended (x ∷ xs) (y ∷ ys) (suc i) le = ended xs ys i (omega (arith, le))

none_left : (cs : List Column) (ts : List RawTerm) → AreEnded cs ts → star_total cs ts ≡ 0
none_left cs ts (left_ended e) = ap (λ l. star_total l ts) e
none_left [] ts (right_ended e) = refl
none_left (c ∷ cs) ts (right_ended e) = ap (star_total (c ∷ cs)) e

none_passed : (s : UseSetting) (p : Place) (k j : ℕ) (cs : List Column) (ts : List RawTerm) → AreEnded cs ts → passed s p k j cs ts ≡ []
none_passed s p k j cs ts (left_ended e) = ap (λ l. passed s p k j l ts) e
none_passed s p k j [] ts (right_ended e) = refl
none_passed s p k j (c ∷ cs) ts (right_ended e) = ap (passed s p k j (c ∷ cs)) e

module _ (cs : List Column) (ts : List RawTerm) where
  pub variables-none : AreVariablesTo cs ts 0 []
  variables-none = record { many = refl; stars = refl; passed = λ s p k j. ap (λ l. l ++ passed s p k j cs ts) (sym (themselves_none s.name cs)) }

  pub variables-more : (i : ℕ) (vs : List Identifier) (c : Column) (t : RawTerm) (v : Identifier) → drop i cs ≡ c ∷ drop (i + 1) cs → drop i ts ≡ t ∷ drop (i + 1) ts → is_star t ≡ false → plain_variable t.kind ≡ Some v
      → AreVariablesTo cs ts i vs → AreVariablesTo cs ts (i + 1) (vs ++ v ∷ [])
  variables-more i vs c t v dc dt star kind h = record {
    many = length-append vs (v ∷ []) ∙ ap (λ n. n + 1) h.many;
    stars = h.stars ∙ ap₂ star_total dc dt ∙ ap (λ b. cond b (suc (star_total (drop (i + 1) cs) (drop (i + 1) ts))) (star_total (drop (i + 1) cs) (drop (i + 1) ts))) star;
    passed = λ s p k j.
        let here : passed s p k j (drop i cs) (drop i ts) ≡ itself c.name (s.name v) ∷ passed s p k j (drop (i + 1) cs) (drop (i + 1) ts) =
        ap₂ (passed s p k j) dc dt
        ∙ ap₂ (λ b o. cond b (itself c.name (star_variable j) ∷ passed s p k (suc j) (drop (i + 1) cs) (drop (i + 1) ts)) (pass_variable s p k c t o ∷ passed s p k j (drop (i + 1) cs) (drop (i + 1) ts))) star kind in
        let more : drop (length vs) cs ≡ c ∷ drop (length vs + 1) cs = ap (λ n. drop n cs) h.many ∙ dc ∙ ap (λ n. c ∷ drop (n + 1) cs) (sym h.many) in
        h.passed s p k j ∙ ap (λ l. as_themselves s.name cs vs ++ l) here
        ∙ sym (append_assoc (as_themselves s.name cs vs) (itself c.name (s.name v) ∷ []) (passed s p k j (drop (i + 1) cs) (drop (i + 1) ts)))
        ∙ ap (λ l. l ++ passed s p k j (drop (i + 1) cs) (drop (i + 1) ts)) (sym (themselves_more s.name cs vs c v more));
  }

  pub variables-all : (i : ℕ) (vs : List Identifier) → min (length cs) (length ts) ≤ i → AreVariablesTo cs ts i vs → AreVariables cs ts vs
  variables-all i vs le h = record {
    stars = h.stars ∙ none_left (drop i cs) (drop i ts) (ended cs ts i le);
    passed = λ s p k j. h.passed s p k j ∙ ap (λ l. as_themselves s.name cs vs ++ l) (none_passed s p k j (drop i cs) (drop i ts) (ended cs ts i le)) ∙ append-nil (as_themselves s.name cs vs);
  }
