-- Cells that are remembered stay held whole.
use Rattle.std.proofs.Common.{◌≡◌, ◌≢◌, ℕ, ◌⊎◌, inl, inr, List, [], ◌∷◌, ◌++◌, replicate, Option, Some, None, refl, sym, ap, subst, ◌∙◌, arith, Contains}
use Rattle.std.specs.Prelude.{ℤ, IsSome, slice_get, unwrap_or}
use Rattle.std.specs.FinMap as finite
use Rattle.std.specs.FinMap.{get}
use Rattle.lrp_model.specs.declared.tuples.Cell.{Cell}
use Rattle.lrp_slots.specs.Lists.{list_at, with_last}
use Rattle.lrp_store.specs.Remembered.{BeginUnbounded}
use Rattle.lrp_store.specs.Stores.{StoreView}
use Rattle.lrp_store.specs.Growing.{IsAdded}
use Rattle.lrp_store.proofs.Held.{Table, Tables, get_put}

-- none is remembered
pub none_remembered : (m : Tables) (cells : List Cell) → cells ≡ [] → BeginUnbounded m cells
none_remembered m cells e = λ cell held. absurd (nowhere cell (subst (λ l. Contains l cell) e held))
  where
    nowhere : (cell : Cell) → Contains [] cell → ⊥
    nowhere cell h = let low = h.1 in omega (arith, low)

-- nothing is not something
pub held_is_some : {X : Type 0} (o : Option X) → o ≡ None → IsSome o → ⊥
held_is_some None e some = cc
held_is_some (Some x) e some = cc

-- the tables are as they were
pub same_remembered : (m n : Tables) (cells : List Cell) → n ≡ m → BeginUnbounded m cells → BeginUnbounded n cells
same_remembered m n cells e whole = subst (λ k. BeginUnbounded k cells) (sym e) whole

-- the first table of a list stays first
first_stays : (ts us : List Table) (t : Table) → slice_get ts 0 ≡ Some t → slice_get (ts ++ us) 0 ≡ Some t
first_stays [] us t e = cc
first_stays (u ∷ ts) us t e = e

-- a table was appended
pub appended_remembered : (m n : Tables) (cells : List Cell) (c : Cell) (t : Table) → n ≡ finite.insert m c (list_at m c ++ t ∷ []) → BeginUnbounded m cells → BeginUnbounded n cells
appended_remembered m n cells c t e whole = λ q held.
    subst (λ k. slice_get (list_at k q) 0 ≡ Some (replicate 81 None)) (sym e) (elim (get_put m c (list_at m c ++ t ∷ []) q) [
      | inl f ↦ ap (λ o. slice_get (unwrap_or o []) 0) f.1 ∙ first_stays (list_at m c) (t ∷ []) (replicate 81 None) (subst (λ d. slice_get (list_at m d) 0 ≡ Some (replicate 81 None)) f.0 (whole q held))
      | inr f ↦ ap (λ o. slice_get (unwrap_or o []) 0) f.1 ∙ whole q held
    ])

-- what begins a list was appended to the list of a cell that was not held
pub begun_as : (m n : Tables) (c : Cell) (t : Table) → n ≡ finite.insert m c (t ∷ []) → get m c ≡ None → n ≡ finite.insert m c (list_at m c ++ t ∷ [])
begun_as m n c t e none = e ∙ ap (λ o. finite.insert m c (unwrap_or o [] ++ t ∷ [])) (sym none)

-- and stands first in it
pub begun_first : (m n : Tables) (c : Cell) (t : Table) → n ≡ finite.insert m c (t ∷ []) → t ≡ replicate 81 None → slice_get (list_at n c) 0 ≡ Some (replicate 81 None)
begun_first m n c t e free = subst (λ k. slice_get (list_at k c) 0 ≡ Some (replicate 81 None)) (sym e) (elim (get_put m c (t ∷ []) c) [
  | inl f ↦ ap (λ o. slice_get (unwrap_or o []) 0) f.1 ∙ ap Some free
  | inr f ↦ absurd (f.0 refl)
])

-- one cell more is remembered
pub one_remembered : (m : Tables) (old new : List Cell) (c : Cell) → ((other : Cell) → Contains new other → (other ≡ c) ⊎ Contains old other) → slice_get (list_at m c) 0 ≡ Some (replicate 81 None) → BeginUnbounded m old → BeginUnbounded m new
one_remembered m old new c more first whole = λ q held. elim (more q held) [
  | inl e ↦ subst (λ d. slice_get (list_at m d) 0 ≡ Some (replicate 81 None)) (sym e) first
  | inr before ↦ whole q before
]

-- the last table of a list that begins with a bound was replaced
pub replaced_remembered : (m n : Tables) (cells : List Cell) (c : Cell) (t : Table) → n ≡ finite.insert m c (with_last (list_at m c) t) → slice_get (list_at m c) 0 ≢ Some (replicate 81 None) → BeginUnbounded m cells → BeginUnbounded n cells
replaced_remembered m n cells c t e first whole = λ q held.
    subst (λ k. slice_get (list_at k q) 0 ≡ Some (replicate 81 None)) (sym e) (elim (get_put m c (with_last (list_at m c) t) q) [
      | inl f ↦ absurd (first (subst (λ d. slice_get (list_at m d) 0 ≡ Some (replicate 81 None)) f.0 (whole q held)))
      | inr f ↦ ap (λ o. slice_get (unwrap_or o []) 0) f.1 ∙ whole q held
    ])

-- what was added to a store with other spare slots was added to it
pub added_from_spare : (set : List ℤ → List ℕ → Type 0) (cap high n : ℕ) (s new : StoreView) → IsAdded set cap high (record s { spare = n }) new → IsAdded set cap high s new
added_from_spare set cap high n s new a = record {
  grown = record {
    valid = a.grown.valid;
    shape = a.grown.shape;
    period = a.grown.period;
    kept = λ xs ns h. a.grown.kept xs ns (record { cell = h.cell; table = h.table; held = h.held; named = h.named; inside = h.inside });
    sound = λ xs ns h. elim (a.grown.sound xs ns h) [
      | inl i ↦ inl (record { cell = i.cell; table = i.table; held = i.held; named = i.named; inside = i.inside })
      | inr i ↦ inr i
    ];
    few = a.grown.few;
    reach = λ h l r. a.grown.reach h l (record { each = λ c t i. r.each c t i });
  };
  whole = a.whole;
}
