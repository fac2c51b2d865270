-- Edges that are sorted, and each once, are in order.
use Rattle.std.proofs.Common.{◌≡◌, ℕ, ◌<◌, inl, inr, List, [], ◌∷◌, Option, Some, None, Ordering, Less, Equal, Greater, Bool, true, ◌&&◌, eqb, ap, refl, sym, subst, ◌∙◌}
use Rattle.std.specs.Prelude.{ℤ, ◌<ℤ◌, AllPairs, Contains}
use Rattle.std.specs.Cmp.{IsEquivalence, IsTotalOrder, int_ranks, ranks}
use Rattle.std.specs.List.Sorted.{IsPermutation, IsSorted, IsStrictlySortedBy}
use Rattle.std.specs.List.{dedup}
use Rattle.std.specs.Option.{option_cmp, option_eq}
use Rattle.std.specs.Ordering.{eq_by_cmp, int_cmp, int_eq, nat_cmp, is_eq, ordering_reverse, ordering_then, MatchOrdering}
use Rattle.std.proofs.lemmas.Cmp.{eq_by_cmp_equiv, int_cmp_total, nat_cmp_total, on_total, then_total, tied_itself}
use Rattle.std.proofs.lemmas.Bool.Decides.{Decides-eqb, same_from_decides}
use Rattle.std.proofs.lemmas.List.Elements.{All-from_recursion, All-weaker}
use Rattle.std.proofs.lemmas.List.Kept.{AllPairs-cons, Contains-from_dedup, Contains-dedup, IsStrictlySortedBy-dedup}
use Rattle.std.proofs.lemmas.List.Sorted.{Contains-permutation, IsPermutation-sym}
use Rattle.lrp_spans.proofs.Lists.{pairs_none}
use Rattle.lrp_canon.specs.declared.edges.Edge.{Edge}
use Rattle.lrp_canon.specs.Edges.{AreInOrder, IsEarlierEdge, IsSooner}

abbrev pub number_cmp : Option ℤ → Option ℤ → Ordering
number_cmp e f = option_cmp int_cmp e f

number_total : IsTotalOrder number_cmp
number_total = record { antisymm = antisymm; trans = trans; congr = congr }
  where
    antisymm : (x y : Option ℤ) → number_cmp x y ≡ ordering_reverse (number_cmp y x)
    antisymm None None = refl
    antisymm None (Some b) = refl
    antisymm (Some a) None = refl
    antisymm (Some a) (Some b) = int_cmp_total.antisymm a b

    trans : (x y z : Option ℤ) → number_cmp x y ≡ Less → number_cmp y z ≡ Less → number_cmp x z ≡ Less
    trans None None z h g = g
    trans None (Some b) None h g = absurd (cc)
    trans None (Some b) (Some c) h g = refl
    trans (Some a) None z h g = absurd (cc)
    trans (Some a) (Some b) None h g = absurd (cc)
    trans (Some a) (Some b) (Some c) h g = int_cmp_total.trans a b c h g

    congr : (x y z : Option ℤ) → number_cmp x y ≡ Equal → number_cmp x z ≡ number_cmp y z
    congr None None z h = refl
    congr None (Some b) z h = absurd (cc)
    congr (Some a) None z h = absurd (cc)
    congr (Some a) (Some b) None h = refl
    congr (Some a) (Some b) (Some c) h = int_cmp_total.congr a b c h

abbrev pub edge_cmp : Edge → Edge → Ordering
edge_cmp e f = ordering_then (nat_cmp e.residue f.residue) (number_cmp e.number f.number)

pub edge_total : IsTotalOrder edge_cmp
edge_total = then_total (on_total (λ (e : Edge). e.residue) nat_cmp_total) (on_total (λ (e : Edge). e.number) number_total)

sooner : (e f : Option ℤ) → number_cmp e f ≡ Less → IsSooner e f
sooner None None h = cc
sooner None (Some b) h = tt
sooner (Some a) None h = cc
sooner (Some a) (Some b) h = subst (λ o. MatchOrdering o (a <ℤ b) (a ≡ b) (b <ℤ a)) h (int_ranks a b)

earlier : (e f : Edge) → edge_cmp e f ≡ Less → IsEarlierEdge e f
earlier e f h = by (nat_cmp e.residue f.residue) (ranks e.residue f.residue) h
  where
    by : (o : Ordering) → MatchOrdering o (e.residue < f.residue) (e.residue ≡ f.residue) (f.residue < e.residue) → ordering_then o (number_cmp e.number f.number) ≡ Less → IsEarlierEdge e f
    by Less r g = inl r
    by Equal r g = inr (r, sooner e.number f.number g)
    by Greater r g = absurd (cc)

strictly : (edges : List Edge) → IsStrictlySortedBy edge_cmp edges → AllPairs IsEarlierEdge edges
unfolding IsStrictlySortedBy
strictly [] h = pairs_none IsEarlierEdge
strictly (e ∷ edges) h = AllPairs-cons IsEarlierEdge e edges (All-weaker (λ f. edge_cmp e f ≡ Less) (IsEarlierEdge e) (λ f l. earlier e f l) edges (All-from_recursion (λ f. edge_cmp e f ≡ Less) edges h.0)) (strictly edges h.1)

-- equal in order is equal
same_number : (e f : Option ℤ) → number_cmp e f ≡ Equal → e ≡ f
same_number None None h = refl
same_number None (Some b) h = absurd (cc)
same_number (Some a) None h = absurd (cc)
same_number (Some a) (Some b) h = let r : a ≡ b = subst (λ o. MatchOrdering o (a <ℤ b) (a ≡ b) (b <ℤ a)) h (int_ranks a b) in cc

same_edge : (e f : Edge) → edge_cmp e f ≡ Equal → e ≡ f
same_edge e f h = by (nat_cmp e.residue f.residue) (ranks e.residue f.residue) h
  where
    eta : (a b : ℕ) (x y : Option ℤ) → a ≡ b → x ≡ y → ◌≡◌ {A = Edge} (record { residue = a; number = x }) (record { residue = b; number = y })
    eta a b x y p q = rw (p, q) refl

    by : (o : Ordering) → MatchOrdering o (e.residue < f.residue) (e.residue ≡ f.residue) (f.residue < e.residue) → ordering_then o (number_cmp e.number f.number) ≡ Equal → e ≡ f
    by Less r g = absurd (cc)
    by Equal r g = eta e.residue f.residue e.number f.number r (same_number e.number f.number g)
    by Greater r g = absurd (cc)

-- the test for equal edges, part by part
then_tie : (o q : Ordering) → is_eq (ordering_then o q) ≡ is_eq o && is_eq q
then_tie Less q = refl
then_tie Equal q = refl
then_tie Greater q = refl

number_tie : (e f : Option ℤ) → option_eq int_eq e f ≡ is_eq (number_cmp e f)
number_tie None None = refl
number_tie None (Some b) = refl
number_tie (Some a) None = refl
number_tie (Some a) (Some b) = refl

residue_tie : (m n : ℕ) → eqb m n ≡ is_eq (nat_cmp m n)
residue_tie m n = same_from_decides (eqb m n) (is_eq (nat_cmp m n)) (Decides-eqb m n) (λ h. to (nat_cmp m n) (ranks m n) h, λ e. subst (λ k. is_eq (nat_cmp m k) ≡ true) e (ap is_eq (tied_itself nat_cmp_total m)))
  where
    to : (o : Ordering) → MatchOrdering o (m < n) (m ≡ n) (n < m) → is_eq o ≡ true → m ≡ n
    to Less r h = absurd (cc)
    to Equal r h = r
    to Greater r h = absurd (cc)

pub ties : (x y : Edge) → eqb x.residue y.residue && option_eq int_eq x.number y.number ≡ eq_by_cmp edge_cmp x y
ties x y = ap (λ b. b && option_eq int_eq x.number y.number) (residue_tie x.residue y.residue) ∙ ap (λ b. is_eq (nat_cmp x.residue y.residue) && b) (number_tie x.number y.number) ∙ sym (then_tie (nat_cmp x.residue y.residue) (number_cmp x.number y.number))

-- sorted, and each once
pub in_order : (old sorted new : List Edge) (E : Edge → Edge → Bool) → IsPermutation old sorted → IsSorted edge_cmp sorted → new ≡ dedup E sorted → ((x y : Edge) → E x y ≡ eq_by_cmp edge_cmp x y) → AreInOrder old new
in_order old sorted new E moved up is ties = record {
  apart = strictly new (subst (IsStrictlySortedBy edge_cmp) (sym is) (IsStrictlySortedBy-dedup edge_total ties sorted up));
  to = λ e h. Contains-permutation sorted old e (IsPermutation-sym old sorted moved) (Contains-from_dedup E sorted e (subst (λ xs. Contains xs e) is h));
  from = λ e h. subst (λ xs. Contains xs e) (sym is) (Contains-dedup equiv (λ x y q. exact x y (sym (ties x y) ∙ q)) sorted e (Contains-permutation old sorted e moved h));
}
  where
    laws : IsEquivalence (eq_by_cmp edge_cmp)
    laws = eq_by_cmp_equiv edge_total

    equiv : IsEquivalence E
    equiv = record {
      refl = λ x. ties x x ∙ laws.refl x;
      symm = λ x y. ties x y ∙ laws.symm x y ∙ sym (ties y x);
      congr = λ x y z h. ties x z ∙ laws.congr x y z (sym (ties x y) ∙ h) ∙ sym (ties y z);
    }

    equal : (o : Ordering) → is_eq o ≡ true → o ≡ Equal
    equal Less h = cc
    equal Equal h = refl
    equal Greater h = cc

    exact : (x y : Edge) → eq_by_cmp edge_cmp x y ≡ true → x ≡ y
    exact x y h = same_edge x y (equal (edge_cmp x y) h)
