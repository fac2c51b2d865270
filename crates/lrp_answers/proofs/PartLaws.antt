-- Answers in parts: the first parts and one more, and what parts with one head have in common.
use Rattle.std.proofs.Common.{◌≡◌, ◌↔◌, ◌⊎◌, inl, inr, ℕ, zero, suc, ◌+◌, List, [], ◌∷◌, length, take, Some, Contains, arith, sym, ap, ap₂, subst, ◌∙◌}
use Rattle.std.specs.Prelude.{slice_get}
use Rattle.lrp_model.specs.Rows.{Tuple}
use Rattle.lrp_model.specs.Sorts.{time_count}
use Rattle.lrp_model.proofs.Decided.{cons_cases, contains_first, contains_later, contains_none}
use Rattle.lrp_store.specs.Tables.{InAnswer}
use Rattle.lrp_answers.specs.declared.answer.Answer.{Answer}
use Rattle.lrp_answers.specs.Parts.{IsInSomePart}

-- ---- fronts of lists

taken_before : {X : Type 0} (xs : List X) (n : ℕ) (y : X) → Contains (take n xs) y → Contains (take (suc n) xs) y
taken_before xs zero y h = absurd (contains_none y h)
taken_before [] (suc n) y h = absurd (contains_none y h)
taken_before (x ∷ xs) (suc n) y h = by (taken_before xs n y) (cons_cases x y (take n xs) h)
  where
    by : (Contains (take n xs) y → Contains (take (suc n) xs) y) → (x ≡ y) ⊎ Contains (take n xs) y → Contains (x ∷ take (suc n) xs) y
    by f (inl e) = subst (λ z. Contains (x ∷ take (suc n) xs) z) e (contains_first x (take (suc n) xs))
    by f (inr k) = contains_later x y (take (suc n) xs) (f k)

taken_here : {X : Type 0} (xs : List X) (n : ℕ) (y : X) → slice_get xs n ≡ Some y → Contains (take (suc n) xs) y
taken_here [] n y e = cc
taken_here (x ∷ xs) zero y e = let same : x ≡ y = cc in subst (λ z. Contains (x ∷ []) z) same (contains_first x [])
taken_here (x ∷ xs) (suc n) y e = contains_later x y (take (suc n) xs) (taken_here xs n y e)

taken_cases : {X : Type 0} (xs : List X) (n : ℕ) (x y : X) → slice_get xs n ≡ Some x → Contains (take (suc n) xs) y → Contains (take n xs) y ⊎ (x ≡ y)
taken_cases [] n x y e h = cc
taken_cases (z ∷ zs) zero x y e h = by (cons_cases z y [] h)
  where
    by : (z ≡ y) ⊎ Contains [] y → Contains [] y ⊎ (x ≡ y)
    by (inl f) = inr (let same : z ≡ x = cc in sym same ∙ f)
    by (inr k) = inl k
taken_cases (z ∷ zs) (suc n) x y e h = by (taken_cases zs n x y e) (cons_cases z y (take (suc n) zs) h)
  where
    later : Contains (take n zs) y ⊎ (x ≡ y) → Contains (z ∷ take n zs) y ⊎ (x ≡ y)
    later (inl k) = inl (contains_later z y (take n zs) k)
    later (inr f) = inr f

    by : (Contains (take (suc n) zs) y → Contains (take n zs) y ⊎ (x ≡ y)) → (z ≡ y) ⊎ Contains (take (suc n) zs) y → Contains (z ∷ take n zs) y ⊎ (x ≡ y)
    by g (inl f) = inl (subst (λ w. Contains (z ∷ take n zs) w) f (contains_first z (take n zs)))
    by g (inr k) = later (g k)

-- answers with one head have one shape
pub same_shape : (a b : Answer) → a.head.columns ≡ b.head.columns → a.store.shape ≡ b.store.shape
same_shape a b e =
    let times : a.store.shape.times ≡ b.store.shape.times = sym a.times_are ∙ ap time_count e ∙ b.times_are in
    let count : a.store.shape.times + a.store.shape.texts ≡ b.store.shape.times + b.store.shape.texts = sym a.columns_are ∙ ap (λ cs. length cs) e ∙ b.columns_are in
    let texts : a.store.shape.texts ≡ b.store.shape.texts = omega arith in
    ap₂ (λ m n. record { times = m; texts = n }) times texts

-- ---- one part more

module _ (parts : List Answer) (n : ℕ) (part : Answer) (here : slice_get parts n ≡ Some part) where
  more_have : (tuple : Tuple) → IsInSomePart (take n parts) tuple ⊎ InAnswer part.head.columns part.domain part.store tuple → IsInSomePart (take (suc n) parts) tuple
  more_have tuple (inl h) = record { part = h.part; listed = taken_before parts n h.part h.listed; is = h.is }
  more_have tuple (inr h) = record { part = part; listed = taken_here parts n part here; is = h }

  either : (tuple : Tuple) → IsInSomePart (take (suc n) parts) tuple → IsInSomePart (take n parts) tuple ⊎ InAnswer part.head.columns part.domain part.store tuple
  either tuple h = by (taken_cases parts n part h.part here h.listed)
    where
      by : Contains (take n parts) h.part ⊎ (part ≡ h.part) → IsInSomePart (take n parts) tuple ⊎ InAnswer part.head.columns part.domain part.store tuple
      by (inl k) = inl (record { part = h.part; listed = k; is = h.is })
      by (inr e) = inr (subst (λ (a : Answer). InAnswer a.head.columns a.domain a.store tuple) (sym e) h.is)

  -- the answers of the first n parts and of the next one are those of one more
  pub one_more : (tuple : Tuple) → IsInSomePart (take (suc n) parts) tuple ↔ (IsInSomePart (take n parts) tuple ⊎ InAnswer part.head.columns part.domain part.store tuple)
  one_more tuple = (either tuple, more_have tuple)

-- no part has no answer
pub none_in_none : (tuple : Tuple) → IsInSomePart [] tuple → ⊥
none_in_none tuple h = contains_none h.part h.listed
