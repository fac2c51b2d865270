-- Things that have one of few codes each, and of which no two of one code differ, are few.
use Rattle.std.proofs.Common.{◌≡◌, ℕ, zero, suc, ◌+◌, ◌<◌, ◌≤◌, true, false, List, [], ◌∷◌, length, get_or, eqb, refl, ap, subst, arith, inl, inr}
use Rattle.std.specs.Prelude.{AllPairs}
use Rattle.std.specs.List.{AllByRecursion, Any, list_any}
use Rattle.std.proofs.lemmas.Bool.{eqb-true}
use Rattle.std.proofs.lemmas.Bool.Decides.{eqb_tells}
use Rattle.std.proofs.lemmas.List.Folds.{Any-from_list_any}
use Rattle.std.proofs.lemmas.Map.Keys.{IsDistinct-from_apart}
use Rattle.std.proofs.lemmas.Map.Steps.{length-le_from_distinct_below}
use Rattle.lrp_model.specs.Cells.{Many}

-- each thing has the code at its place, which is below n
record AreCoded {C : Type 0} (has_code : C → ℕ → Type 0) (n : ℕ) (things : List C) (codes : List ℕ) : Type 0 where
  count : length codes ≡ length things
  each : (i e : ℕ) (d : C) → i < length things → (get_or codes i e < n) × has_code (get_or things i d) (get_or codes i e)

-- the thing cannot fail to have a code below n
abbrev pub HasSome : {C : Type 0} → (C → ℕ → Type 0) → ℕ → C → Type 0
HasSome has_code n c = ((k : ℕ) → k < n → has_code c k → ⊥) → ⊥

module _ {C : Type 0} (has_code : C → ℕ → Type 0) (n : ℕ) where
  one_more : (k : ℕ) (c : C) (cs : List C) (codes : List ℕ) → k < n → has_code c k → AreCoded has_code n cs codes → AreCoded has_code n (c ∷ cs) (k ∷ codes)
  one_more k c cs codes l r h = record { count = ap suc h.count; each = at }
    where
      at : (i e : ℕ) (d : C) → i < length (c ∷ cs) → (get_or (k ∷ codes) i e < n) × has_code (get_or (c ∷ cs) i d) (get_or (k ∷ codes) i e)
      at zero e d lt = (l, r)
      at (suc i) e d lt = h.each i e d (omega arith)

  -- where none of them can fail to have a code, all of them together cannot
  coded : (cs : List C) → AllByRecursion (HasSome has_code n) cs → ((codes : List ℕ) → AreCoded has_code n cs codes → ⊥) → ⊥
  coded [] h none = none [] (record { count = refl; each = λ i e d lt. absurd (omega arith) })
  coded (c ∷ cs) h none = h.0 (λ k l r. coded cs h.1 (λ codes g. none (k ∷ codes) (one_more k c cs codes l r g)))

  -- codes of things that differ are different, so there are at most n
  at_most : (differ : C → C → Type 0) → ((a b : C) (k : ℕ) → has_code a k → has_code b k → differ a b → ⊥)
      → (d : C) (cs : List C) (codes : List ℕ) → AllPairs differ cs → AreCoded has_code n cs codes → length codes ≤ n
  at_most differ same d cs codes apart h = length-le_from_distinct_below codes n (IsDistinct-from_apart eqb codes different) below
    where
      different : (i j e : ℕ) → i < j → j < length codes → eqb (get_or codes i e) (get_or codes j e) ≡ false
      different i j e l m =
          let m' : j < length cs = omega (arith, h.count) in
          let first = (h.each i e d (omega arith)).1 in
          let second = (h.each j e d m').1 in
          elim (eqb_tells (get_or codes i e) (get_or codes j e)) [
            | inl t ↦ absurd (same (get_or cs i d) (get_or cs j d) (get_or codes j e) (subst (has_code (get_or cs i d)) t.1 first) second (apart i j d l m'))
            | inr f ↦ f.0
          ]

      below : (q : ℕ) → list_any (eqb q) codes ≡ true → q < n
      below q e =
          let a : Any (λ x. eqb q x ≡ true) codes = Any-from_list_any (eqb q) codes e in
          let l : get_or codes a.0 a.1 < n = (h.each a.0 a.1 d (omega (arith, a.2, h.count))).0 in
          omega (arith, eqb-true q a.1 a.4, l, a.3)

  few_of : (differ : C → C → Type 0) → ((a b : C) (k : ℕ) → has_code a k → has_code b k → differ a b → ⊥)
      → (cap : ℕ) → n ≤ cap → (cs : List C) → length cs ≡ cap + 1 → AllPairs differ cs → AllByRecursion (HasSome has_code n) cs → ⊥
  few_of differ same cap le [] e apart each = omega arith
  few_of differ same cap le (c ∷ cs) e apart each =
      coded (c ∷ cs) each (λ codes h. let l : length codes ≤ n = at_most differ same c (c ∷ cs) codes apart h in omega (arith, h.count))

  -- no more than n things differ from each other
  pub few : (differ : C → C → Type 0) (inhabited : C → Type 0) → ((a b : C) (k : ℕ) → has_code a k → has_code b k → differ a b → ⊥)
      → ((c : C) → inhabited c → HasSome has_code n c) → (cap : ℕ) → n ≤ cap → Many differ inhabited cap → ⊥
  few differ inhabited same each cap le many = few_of differ same cap le many.cells many.count many.apart (all many.cells many.each)
    where
      all : (cs : List C) → AllByRecursion inhabited cs → AllByRecursion (HasSome has_code n) cs
      all [] h = tt
      all (c ∷ cs) h = (each c h.0, all cs h.1)
