-- Texts in order of bytes, each once: such a list is fixed by its members, and a search by halving finds them.
use Rattle.std.proofs.Common.{◌≡◌, ◌⊎◌, inl, inr, ⊎_elim, ℕ, zero, suc, ◌<◌, ◌≤◌, ◌+◌, List, [], ◌∷◌, length, get_or, Contains, false, Ordering, Less, Equal, Greater, refl, sym, ap, subst, ◌∙◌, arith}
use Rattle.std.specs.Prelude.{bytes_eq, slice_get, Some}
use Rattle.std.specs.Ordering.{is_lt, ordering_reverse, ordering_index}
use Rattle.std.specs.List.{AllByRecursion, dedup}
use Rattle.std.specs.List.Retain.{IsFiltered, DiffersFromLast}
use Rattle.std.specs.List.Sorted.{IsSorted, IsSortedBy, IsStrictlySortedBy, IsPermutation, IsNonDecreasingBy, IsPartitionPoint}
use Rattle.std.specs.Cmp.Lexicographic.{bytes_decides, texts_ties}
use Rattle.std.proofs.lemmas.Cmp.{nat_list_cmp_total}
use Rattle.std.proofs.lemmas.List.Filters.{dedup_is}
use Rattle.std.proofs.lemmas.List.Kept.{IsStrictlySortedBy-dedup, Contains-dedup, Contains-from_dedup}
use Rattle.std.proofs.lemmas.List.Sorted.{Contains-permutation, IsPermutation-sym, searchable_from_sorted}
use Rattle.std.specs.Cmp.Lexicographic.{nat_list_eq_equiv}
use Rattle.std.proofs.lemmas.Map.Lookups.{exact_bytes}
use Rattle.std.proofs.lemmas.Option.{slice_get_read}
use Rattle.lrp_model.specs.Texts.{Text, Ascends, text_cmp, in_order}
use Rattle.lrp_model.proofs.Decided.{cons_cases, contains_first, contains_later, contains_none}
use Rattle.lrp_model.proofs.DomainLaws.{contains_in_order, in_order_ascends}

-- what holds of each element holds of a member
pub all_at : {X : Type 0} (p : X → Type 0) (xs : List X) (x : X) → AllByRecursion p xs → Contains xs x → p x
all_at p [] x h c = absurd (contains_none x c)
all_at p (y ∷ ys) x h c = ⊎_elim (λ e. subst p e h.0) (λ later. all_at p ys x h.1 later) (cons_cases y x ys c)

by_self : (o : Ordering) → o ≡ ordering_reverse o → o ≡ Less → ⊥
by_self Less e h = let x : Less ≡ Greater = e in cc
by_self Equal e h = cc
by_self Greater e h = cc

-- no text comes before itself
pub not_before_itself : (t : Text) → text_cmp t t ≡ Less → ⊥
not_before_itself t = by_self (text_cmp t t) (nat_list_cmp_total.antisymm t t)

-- nor do two texts come before each other
pub not_both : (t u : Text) → text_cmp t u ≡ Less → text_cmp u t ≡ Less → ⊥
not_both t u h k = not_before_itself t (nat_list_cmp_total.trans t u t h k)

-- ---- fixed by its members

first_same : (t u : Text) (ts us : List Text) → Ascends (t ∷ ts) → Ascends (u ∷ us) → Contains (u ∷ us) t → Contains (t ∷ ts) u → t ≡ u
first_same t u ts us a b c d =
    ⊎_elim (λ e. sym e) (λ later. ⊎_elim (λ e. e) (λ after. absurd (not_both t u (all_at (λ w. text_cmp t w ≡ Less) ts u a.0 after) (all_at (λ w. text_cmp u w ≡ Less) us t b.0 later))) (cons_cases t u ts d))
    (cons_cases u t us c)

in_rest : (t u w : Text) (ts us : List Text) → t ≡ u → Ascends (t ∷ ts) → Contains ts w → Contains (u ∷ us) w → Contains us w
in_rest t u w ts us e a c d = ⊎_elim (λ same. absurd (not_before_itself t (subst (λ v. text_cmp t v ≡ Less) (sym (e ∙ same)) (all_at (λ v. text_cmp t v ≡ Less) ts w a.0 c)))) (λ later. later) (cons_cases u w us d)

-- two ascending lists with the same members are one
pub same_ascending : (ts us : List Text) → Ascends ts → Ascends us → ((w : Text) → Contains ts w → Contains us w) → ((w : Text) → Contains us w → Contains ts w) → ts ≡ us
same_ascending [] [] a b f g = refl
same_ascending [] (u ∷ us) a b f g = absurd (contains_none u (g u (contains_first u us)))
same_ascending (t ∷ ts) [] a b f g = absurd (contains_none t (f t (contains_first t ts)))
same_ascending (t ∷ ts) (u ∷ us) a b f g =
    let e : t ≡ u = first_same t u ts us a b (f t (contains_first t ts)) (g u (contains_first u us)) in
    let rest : ts ≡ us = same_ascending ts us a.1 b.1 (λ w c. in_rest t u w ts us e a c (f w (contains_later t w ts c))) (λ w c. in_rest u t w us ts (sym e) b c (g w (contains_later u w us c))) in
    ap (λ v. v ∷ ts) e ∙ ap (λ vs. u ∷ vs) rest

ascends_from : (ts : List Text) → IsStrictlySortedBy text_cmp ts → Ascends ts
unfolding IsStrictlySortedBy
ascends_from [] h = tt
ascends_from (t ∷ ts) h = (h.0, ascends_from ts h.1)

-- what is left of a sorted list without its doubles are the texts in order
pub sorted_once : (xs ys zs : List Text) → IsPermutation xs ys → IsSorted text_cmp ys → IsFiltered (DiffersFromLast bytes_eq) [] ys zs → zs ≡ in_order xs
sorted_once xs ys zs moved sorted kept =
    let is : zs ≡ dedup bytes_eq ys = dedup_is bytes_eq ys zs kept in
    let rises : Ascends (dedup bytes_eq ys) = ascends_from (dedup bytes_eq ys) (IsStrictlySortedBy-dedup nat_list_cmp_total texts_ties ys sorted) in
    is ∙ same_ascending (dedup bytes_eq ys) (in_order xs) rises (in_order_ascends xs)
    (λ w c. (contains_in_order xs w).1 (Contains-permutation ys xs w (IsPermutation-sym xs ys moved) (Contains-from_dedup bytes_eq ys w c)))
    (λ w c. Contains-dedup nat_list_eq_equiv (λ x y. (bytes_decides x y).0) ys w (Contains-permutation xs ys w moved ((contains_in_order xs w).0 c)))

-- ---- found by halving

next_later : (xs : List Text) (k : ℕ) (d : Text) → Ascends xs → suc k < length xs → text_cmp (get_or xs k d) (get_or xs (suc k) d) ≡ Less
next_later [] k d a lt = absurd (omega (arith, lt))
next_later (t ∷ []) k d a lt = absurd (omega (arith, lt))
next_later (t ∷ u ∷ us) zero d a lt = a.0.0
next_later (t ∷ u ∷ us) (suc k) d a lt = next_later (u ∷ us) k d a.1 (omega (arith, lt))

turned : (t u : Text) → text_cmp t u ≡ Less → is_lt (text_cmp u t) ≡ false
turned t u h = ap is_lt (nat_list_cmp_total.antisymm u t ∙ ap ordering_reverse h)

is_sorted : (xs : List Text) → Ascends xs → IsSortedBy (λ a b. is_lt (text_cmp a b)) xs
is_sorted xs a k d low high =
    let e : k + 1 ≡ suc k = omega arith in
    let lt : suc k < length xs = omega (arith, high) in
    turned (get_or xs k d) (get_or xs (k + 1) d) (subst (λ i. text_cmp (get_or xs k d) (get_or xs i d) ≡ Less) (sym e) (next_later xs k d a lt))

pub searchable : (xs : List Text) (t : Text) → Ascends xs → IsNonDecreasingBy (λ u. ordering_index (text_cmp u t)) xs
searchable xs t a = searchable_from_sorted nat_list_cmp_total (λ u. u) xs t (is_sorted xs a)

greater_is : (t : Text) → text_cmp t t ≡ Greater → ⊥
greater_is t h = not_before_itself t (nat_list_cmp_total.antisymm t t ∙ ap ordering_reverse h)

-- what a search finds equal is the text
pub found_at : (xs : List Text) (t : Text) (i : ℕ) → i < length xs → ((d : Text) → text_cmp (get_or xs i d) t ≡ Equal) → slice_get xs i ≡ Some t
found_at xs t i lt h = slice_get_read xs (length xs) i t refl lt (sym (exact_bytes (get_or xs i t) t (h t)))

-- a text is not where all before a place come before it, and all from there on come after it
pub not_there : (xs : List Text) (t : Text) (i : ℕ) → IsPartitionPoint (λ u. text_cmp u t ≡ Less) (λ u. text_cmp u t ≡ Greater) xs i → Contains xs t → ⊥
not_there xs t i p c =
    elim (split c.0 i) [
      | inl lt ↦ not_before_itself t (subst (λ u. text_cmp u t ≡ Less) c.2 (p.0 c.0 t (omega arith) lt))
      | inr le ↦ greater_is t (subst (λ u. text_cmp u t ≡ Greater) c.2 (p.1 c.0 t le c.1))
    ]
  where
    split : (k i : ℕ) → (k < i) ⊎ (i ≤ k)
    split k i = grind arith
