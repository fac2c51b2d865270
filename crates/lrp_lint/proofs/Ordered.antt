-- Findings in order, each once.
use Rattle.std.proofs.Common.{◌≡◌, ℕ, ◌<◌, Bool, true, List, refl, sym, ap, subst, ◌∙◌}
use Rattle.std.specs.Prelude.{◌↔◌, Contains}
use Rattle.std.specs.Cmp.{IsEquivalence, IsTotalOrder}
use Rattle.std.specs.List.{dedup}
use Rattle.std.specs.List.Sorted.{IsPermutation, IsSorted, IsStrictlySortedBy}
use Rattle.std.specs.Ordering.{eq_by_cmp, is_eq, nat_cmp, ordering_then, MatchOrdering}
use Rattle.std.specs.declared.cmp.Ordering.{Ordering}
use Rattle.std.specs.declared.cmp.Ordering.TheVariants.{Less, Equal, Greater}
use Rattle.std.proofs.lemmas.Cmp.{eq_by_cmp_equiv, ranked}
use Rattle.std.proofs.lemmas.List.Kept.{Contains-from_dedup, Contains-dedup, IsStrictlySortedBy-dedup}
use Rattle.std.proofs.lemmas.List.Sorted.{Contains-permutation, IsPermutation-sym}
use Rattle.std.proofs.lemmas.Map.Lookups.{CmpEqualImpliesEq}
use Rattle.lrp_lint.specs.Listed.{IsListOfAll, AreEachOnce, flaw_at, query_order, row_order}
use Rattle.lrp_lint.specs.contracts.flaws.QueryFlawOrd.TheImpl as by_query_flaw
use Rattle.lrp_lint.specs.contracts.flaws.RowFlawOrd.TheImpl as by_row_flaw
use Rattle.lrp_lint.specs.declared.flaws.QueryFinding.{QueryFinding}
use Rattle.lrp_lint.specs.declared.flaws.QueryFlaw.{QueryFlaw}
use Rattle.lrp_lint.specs.declared.flaws.QueryFlaw.TheVariants.{UnknownText, EmptyRelation}
use Rattle.lrp_lint.specs.declared.flaws.RowFinding.{RowFinding}
use Rattle.lrp_lint.specs.declared.flaws.RowFlaw.{RowFlaw}
use Rattle.lrp_lint.specs.declared.flaws.RowFlaw.TheVariants.{EmptyRow, UntiedTimes, RowLimit}

both_equal : (a b : Ordering) → ordering_then a b ≡ Equal → (a ≡ Equal) × (b ≡ Equal)
both_equal Less b e = absurd (let d : Less ≡ Equal = e in cc)
both_equal Equal b e = (refl, e)
both_equal Greater b e = absurd (let d : Greater ≡ Equal = e in cc)

same_ranked : (x y : ℕ) → nat_cmp x y ≡ Equal → x ≡ y
same_ranked x y e = subst (λ o. MatchOrdering o (x < y) (x ≡ y) (y < x)) e (ranked x y (nat_cmp x y) refl)

-- sorted, and each once
pub in_order : {F : Type 0} (order : F → F → Ordering) → IsTotalOrder order → CmpEqualImpliesEq order → (old sorted new : List F) (E : F → F → Bool) → IsPermutation old sorted → IsSorted order sorted → new ≡ dedup E sorted → ((x y : F) → E x y ≡ eq_by_cmp order x y) → AreEachOnce order old new
in_order {F} order total exact old sorted new E moved up is ties = record {
  same = λ f. (
    λ h. Contains-permutation sorted old f (IsPermutation-sym old sorted moved) (Contains-from_dedup E sorted f (subst (λ xs. Contains xs f) is h)),
    λ h. subst (λ xs. Contains xs f) (sym is) (Contains-dedup equiv (λ x y q. one x y (sym (ties x y) ∙ q)) sorted f (Contains-permutation old sorted f moved h)),
  );
  ascending = subst (IsStrictlySortedBy order) (sym is) (IsStrictlySortedBy-dedup total ties sorted up);
}
  where
    laws : IsEquivalence (eq_by_cmp order)
    laws = eq_by_cmp_equiv total

    equiv : IsEquivalence E
    equiv = record {
      refl = λ x. ties x x ∙ laws.refl x;
      symm = λ x y. ties x y ∙ laws.symm x y ∙ sym (ties y x);
      congr = λ x y z h. ties x z ∙ laws.congr x y z (sym (ties x y) ∙ h) ∙ sym (ties y z);
    }

    equal : (o : Ordering) → is_eq o ≡ true → o ≡ Equal
    equal Less h = cc
    equal Equal h = refl
    equal Greater h = cc

    one : (x y : F) → eq_by_cmp order x y ≡ true → x ≡ y
    one x y h = exact x y (equal (order x y) h)

-- those of a list, by what is in it
pub listed_as : {F : Type 0} (order : F → F → Ordering) (P : F → Type 0) (all found : List F) → AreEachOnce order all found → ((f : F) → Contains all f ↔ P f) → IsListOfAll order P found
listed_as order P all found listed is = record {
  same = λ f. (λ c. (is f).0 ((listed.same f).0 c), λ h. (listed.same f).1 ((is f).1 h));
  ascending = listed.ascending;
}

-- ---- findings that compare alike are one

abbrev row_flaw_order : RowFlaw → RowFlaw → Ordering
row_flaw_order = (by_row_flaw.ghosts).cmp

same_row_flaw : (x y : RowFlaw) → row_flaw_order x y ≡ Equal → x ≡ y
same_row_flaw EmptyRow EmptyRow e = refl
same_row_flaw EmptyRow UntiedTimes e = absurd (let d : Less ≡ Equal = e in cc)
same_row_flaw EmptyRow RowLimit e = absurd (let d : Less ≡ Equal = e in cc)
same_row_flaw UntiedTimes EmptyRow e = absurd (let d : Greater ≡ Equal = e in cc)
same_row_flaw UntiedTimes UntiedTimes e = refl
same_row_flaw UntiedTimes RowLimit e = absurd (let d : Less ≡ Equal = e in cc)
same_row_flaw RowLimit EmptyRow e = absurd (let d : Greater ≡ Equal = e in cc)
same_row_flaw RowLimit UntiedTimes e = absurd (let d : Greater ≡ Equal = e in cc)
same_row_flaw RowLimit RowLimit e = refl

rebuilt_row : (r s n m : ℕ) (a b : RowFlaw) → r ≡ s → n ≡ m → a ≡ b → flaw_at r n a ≡ flaw_at s m b
rebuilt_row r s n m a b p q t = ap (λ x. flaw_at x n a) p ∙ ap (λ x. flaw_at s x a) q ∙ ap (λ x. flaw_at s m x) t

pub rows_exact : CmpEqualImpliesEq row_order
rows_exact x y e =
    let first = both_equal (nat_cmp x.relation y.relation) (ordering_then (nat_cmp x.row y.row) (row_flaw_order x.flaw y.flaw)) e in
    let second = both_equal (nat_cmp x.row y.row) (row_flaw_order x.flaw y.flaw) first.1 in
    rebuilt_row x.relation y.relation x.row y.row x.flaw y.flaw (same_ranked x.relation y.relation first.0) (same_ranked x.row y.row second.0) (same_row_flaw x.flaw y.flaw second.1)

abbrev query_flaw_order : QueryFlaw → QueryFlaw → Ordering
query_flaw_order = (by_query_flaw.ghosts).cmp

same_query_flaw : (x y : QueryFlaw) → query_flaw_order x y ≡ Equal → x ≡ y
same_query_flaw UnknownText UnknownText e = refl
same_query_flaw UnknownText EmptyRelation e = absurd (let d : Less ≡ Equal = e in cc)
same_query_flaw EmptyRelation UnknownText e = absurd (let d : Greater ≡ Equal = e in cc)
same_query_flaw EmptyRelation EmptyRelation e = refl

abbrev found_in : ℕ → ℕ → QueryFlaw → QueryFinding
found_in line column flaw = record { line = line; column = column; flaw = flaw }

rebuilt_query : (r s n m : ℕ) (a b : QueryFlaw) → r ≡ s → n ≡ m → a ≡ b → found_in r n a ≡ found_in s m b
rebuilt_query r s n m a b p q t = ap (λ x. found_in x n a) p ∙ ap (λ x. found_in s x a) q ∙ ap (λ x. found_in s m x) t

pub queries_exact : CmpEqualImpliesEq query_order
queries_exact x y e =
    let first = both_equal (nat_cmp x.line y.line) (ordering_then (nat_cmp x.column y.column) (query_flaw_order x.flaw y.flaw)) e in
    let second = both_equal (nat_cmp x.column y.column) (query_flaw_order x.flaw y.flaw) first.1 in
    rebuilt_query x.line y.line x.column y.column x.flaw y.flaw (same_ranked x.line y.line first.0) (same_ranked x.column y.column second.0) (same_query_flaw x.flaw y.flaw second.1)
