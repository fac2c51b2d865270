-- What a formula without sort faults shows of its parts and its terms.
use Rattle.std.proofs.Common.{◌≡◌, Bool, true, false, not, List, [], ◌∷◌, ◌++◌, Option, Some, None, refl, ap, subst, sym}
use Rattle.std.specs.Cmp.Lexicographic.{bytes_decides}
use Rattle.lrp_model.specs.Texts.{Identifier}
use Rattle.lrp_model.specs.Sorts.{same_sort, is_time, is_data}
use Rattle.lrp_model.specs.Faults.{fault_if}
use Rattle.lrp_model.specs.RawQueries.{RawForm}
use Rattle.lrp_model.specs.Sorting.{Binders, binder_sort, TermSort, of_sort, any_data, unsorted, alone_sort, shifted_sort, kind_sort, is_data_term, unlike, variable_faults, kind_faults, binder_faults, free_names, widened, too_many, place_of, query_fault}
use Rattle.lrp_model.specs.declared.tokens.Place.{Place}
use Rattle.lrp_model.specs.declared.relations.Relation.{Relation}
use Rattle.lrp_model.specs.declared.relations.Sort.{Sort}
use Rattle.lrp_model.specs.declared.relations.Sort.TheVariants.{Time, Data, Named}
use Rattle.lrp_model.specs.declared.raw.RawColumn.{RawColumn}
use Rattle.lrp_model.specs.declared.raw.RawTermKind.{RawTermKind}
use Rattle.lrp_model.specs.declared.raw.RawTermKind.TheVariants.{Int, Text, Var, Shifted}
use Rattle.lrp_model.specs.declared.faults.QueryFault.{QueryFault}
use Rattle.lrp_model.specs.declared.faults.QueryKind.TheVariants.{Wide}

-- ---- lists without an element

-- two lists that are nothing together
pub both_none : {F : Type 0} (xs ys : List F) → xs ++ ys ≡ [] → (xs ≡ []) × (ys ≡ [])
both_none [] ys e = (refl, e)
both_none (x ∷ xs) ys e = cc

-- what is not false is true
pub not_false : (b : Bool) → not b ≡ false → b ≡ true
not_false true e = refl
not_false false e = cc

-- where there is no fault, its test is false
pub none_if : {F : Type 0} (b : Bool) (f : F) → fault_if b f ≡ [] → b ≡ false
none_if true f e = cc
none_if false f e = refl

-- ---- widths

-- a formula with no fault is not too wide, and has none inside
pub not_wide : (bs : Binders) (bound : List Identifier) (f : RawForm) (inside : List QueryFault) → widened bs bound f inside ≡ [] → (too_many bs (bound ++ free_names f) ≡ false) × (inside ≡ [])
not_wide bs bound f inside e =
    let x = both_none (fault_if (too_many bs (bound ++ free_names f)) (query_fault Wide (place_of f))) inside e in
    (none_if (too_many bs (bound ++ free_names f)) (query_fault Wide (place_of f)) x.0, x.1)

-- and so is the formula of a quantifier, with the quantifier's variable
pub not_wide_inside : (db : List Relation) (bs : Binders) (c : RawColumn) (f : RawForm) (inside : List QueryFault) → binder_faults db bs c ++ widened (c ∷ bs) (c.name ∷ []) f inside ≡ [] → (too_many (c ∷ bs) (c.name ∷ free_names f) ≡ false) × (inside ≡ [])
not_wide_inside db bs c f inside e = not_wide (c ∷ bs) (c.name ∷ []) f inside (both_none (binder_faults db bs c) (widened (c ∷ bs) (c.name ∷ []) f inside) e).1

-- ---- sorts

-- sorts that pass as the same are the same
pub same_sorts : (s t : Sort) → same_sort s t ≡ true → s ≡ t
same_sorts Time Time e = refl
same_sorts Time Data e = cc
same_sorts Time (Named n) e = cc
same_sorts Data Time e = cc
same_sorts Data Data e = refl
same_sorts Data (Named n) e = cc
same_sorts (Named m) Time e = cc
same_sorts (Named m) Data e = cc
same_sorts (Named m) (Named n) e = ap Named ((bytes_decides m n).0 e)

-- and are of one kind
pub same_kind : (s t : Sort) → not (same_sort t s) ≡ false → is_data s ≡ is_data t
same_kind s t e = ap is_data (sym (same_sorts t s (not_false (same_sort t s) e)))

-- a sort that is not that of times is a data sort
pub no_time : (s : Sort) → is_time s ≡ false → is_data s ≡ true
no_time Time e = cc
no_time Data e = refl
no_time (Named n) e = refl

-- ---- terms

-- a sort that is known
abbrev pub IsKnown : TermSort → Type 0
IsKnown (of_sort s) = Unit {0}
IsKnown any_data = Unit {0}
IsKnown unsorted = ⊥

-- a name that has a binder has a sort
alone_known : (o : Option Sort) (p : Place) → variable_faults o false p ≡ [] → IsKnown (alone_sort o)
alone_known None p f = cc
alone_known (Some s) p f = tt

-- one with an offset has the sort of times
pub shifted_known : (o : Option Sort) (p : Place) → variable_faults o true p ≡ [] → shifted_sort o ≡ of_sort Time
shifted_known None p f = cc
shifted_known (Some s) p f = refl

-- a term without a fault has a sort
pub kind_known : (bs : Binders) (p : Place) (k : RawTermKind) → kind_faults bs k p ≡ [] → IsKnown (kind_sort bs k)
kind_known bs p (Int x) f = tt
kind_known bs p (Text t) f = tt
kind_known bs p (Var n) f = alone_known (binder_sort bs n) p f
kind_known bs p (Shifted n plus) f = subst IsKnown (sym (shifted_known (binder_sort bs n) p f)) tt

-- the sides of a well-sorted `=` are both data terms, or both time terms
pub alike : (a b : TermSort) → IsKnown a → IsKnown b → unlike a b ≡ false → is_data_term a ≡ is_data_term b
alike (of_sort s) (of_sort t) h k e = same_kind s t e
alike (of_sort s) any_data h k e = no_time s e
alike (of_sort s) unsorted h k e = absurd k
alike any_data (of_sort t) h k e = sym (no_time t e)
alike any_data any_data h k e = refl
alike any_data unsorted h k e = absurd k
alike unsorted b h k e = absurd h
