-- By how many zones the list of a cell grows.
use Rattle.std.proofs.Common.{◌≡◌, ℕ, ◌+◌, ◌-◌, ◌≤◌, List, [], ◌∷◌, ◌++◌, length, take, Ok, Err, Result, OnOk, inl, inr, refl, ap, ◌∙◌, arith, length-append}
use Rattle.std.specs.FinMap as finite
use Rattle.std.proofs.lemmas.List.{length-take-le}
use Rattle.lrp_model.specs.declared.tuples.Cell.{Cell}
use Rattle.lrp_slots.specs.Lists.{list_at, with_last}
use Rattle.lrp_store.specs.Stores.{StoreView, tables_at}
use Rattle.lrp_store.specs.Growing.{GrowsByAtMost}
use Rattle.lrp_store.proofs.Held.{Table, list_put}

-- where no list changes, none grows
pub grows_none : (n : ℕ) (c : Cell) (old new : StoreView) → new.tables ≡ old.tables → GrowsByAtMost n c old new
grows_none n c old new e = record {
  few = let same : length (tables_at new c) ≡ length (tables_at old c) = ap (λ m. length (list_at m c)) e in omega (arith, same);
  others = λ q _. ap (λ m. list_at m q) e;
}

-- another list is put in the place of a cell's
pub grows_put : (c : Cell) (old new : StoreView) (list : List Table) → new.tables ≡ finite.insert old.tables c list → length list ≤ length (tables_at old c) + 1 → GrowsByAtMost 1 c old new
grows_put c old new list e few = record {
  few = elim (list_put old.tables c list c) [
    | inl f ↦ let same : length (tables_at new c) ≡ length list = ap (λ m. length (list_at m c)) e ∙ ap (λ l. length l) f.1 in omega (arith, same, few)
    | inr f ↦ absurd (f.0 refl)
  ];
  others = λ q apart. elim (list_put old.tables c list q) [
    | inl f ↦ absurd (apart f.0)
    | inr f ↦ ap (λ m. list_at m q) e ∙ f.1
  ];
}

-- a zone is appended
pub grows_push : (c : Cell) (old new : StoreView) (t : Table) → new.tables ≡ finite.insert old.tables c (tables_at old c ++ t ∷ []) → GrowsByAtMost 1 c old new
grows_push c old new t e = grows_put c old new (tables_at old c ++ t ∷ []) e (let size : length (tables_at old c ++ t ∷ []) ≡ length (tables_at old c) + 1 = length-append (tables_at old c) (t ∷ []) in omega (arith, size))

-- a zone is the only one of a new cell
pub grows_begun : (c : Cell) (old new : StoreView) (t : Table) → new.tables ≡ finite.insert old.tables c (t ∷ []) → GrowsByAtMost 1 c old new
grows_begun c old new t e = grows_put c old new (t ∷ []) e (omega arith)

-- the last zone gives way to another one
pub grows_last : (c : Cell) (old new : StoreView) (t : Table) → new.tables ≡ finite.insert old.tables c (with_last (tables_at old c) t) → GrowsByAtMost 1 c old new
grows_last c old new t e =
    let front : length (take (length (tables_at old c) - 1) (tables_at old c)) ≡ length (tables_at old c) - 1 = length-take-le (length (tables_at old c) - 1) (tables_at old c) (omega arith) in
    let size : length (with_last (tables_at old c) t) ≡ length (take (length (tables_at old c) - 1) (tables_at old c)) + 1 = length-append (take (length (tables_at old c) - 1) (tables_at old c)) (t ∷ []) in
    grows_put c old new (with_last (tables_at old c) t) e (omega (arith, front, size))

-- a call that appends a zone on success
pub grows_on_ok : {T F : Type 0} (c : Cell) (old new : StoreView) (t : Table) (r : Result T F) → OnOk r (new.tables ≡ finite.insert old.tables c (tables_at old c ++ t ∷ [])) → OnOk r (GrowsByAtMost 1 c old new)
grows_on_ok c old new t (Ok x) e = grows_push c old new t e
grows_on_ok c old new t (Err x) e = tt

-- the number of spare slots plays no part
pub grows_from_spare : (n : ℕ) (c : Cell) (spare : ℕ) (old new : StoreView) → GrowsByAtMost n c (record old { spare = spare }) new → GrowsByAtMost n c old new
grows_from_spare n c spare old new g = record { few = g.few; others = g.others }
