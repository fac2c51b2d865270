-- A stable sort by rank is the ranking of the rules.
use Rattle.std.proofs.Common.{◌≡◌, ◌<◌, ◌≤◌, ℕ, Bool, true, false, cond, nat_le, ◌^◌, take, List, [], ◌∷◌, length, Option, Some, None, filter, refl, sym, ap, subst, ◌∙◌, arith}
use Rattle.std.specs.List.{AllZip}
use Rattle.std.specs.List.Sorted.{IsNonDecreasingBy, ties}
use Rattle.std.specs.Ordering.{is_lt, nat_cmp}
use Rattle.std.proofs.lemmas.Bool.{leb-true, leb-false}
use Rattle.lrp_core.specs.declared.core_forms.Core.{Core}
use Rattle.lrp_model.specs.Satisfaction.{Structure}
use Rattle.lrp_model.specs.Conjunctions.{Element as PlanElement, fewer, put_ranked, ranked}
use Rattle.lrp_plan.specs.declared.elements.Element.{Element}
use Rattle.lrp_plan.specs.Splits.{IsRank, IsRanked, IsParts}
use Rattle.lrp_plan.specs.Elements.{IsElement, IsDenied, IsSplitOf}
use Rattle.lrp_plan.specs.declared.elements.Split.{Split}
use Rattle.lrp_plan.specs.declared.splits.Parts.{Parts}
use Rattle.lrp_plan.proofs.Planned.{take_all_of}
use Rattle.lrp_plan.proofs.Ranks.{put_key, by_rank, sorted_by_rank}
use Rattle.lrp_core.specs.Cores.{cores_of}
use Rattle.lrp_model.specs.Plans.{positives_in, negations_in}

abbrev rank : Element → ℕ
rank e = e.rank

le_by : (b : Bool) (m n : ℕ) → nat_le m n ≡ b → m ≤ n → b ≡ true
le_by true m n e h = refl
le_by false m n e h = let lt : n < m = leb-false m n e in absurd (omega arith)

gt_by : (b : Bool) (m n : ℕ) → nat_le m n ≡ b → n < m → b ≡ false
gt_by true m n e h = let le : m ≤ n = leb-true m n e in absurd (omega arith)
gt_by false m n e h = refl

fewer_is : (o p : Option ℕ) (m n : ℕ) → IsRank o m → IsRank p n → fewer o p ≡ nat_le m n
fewer_is (Some a) (Some b) m n h k = ap (λ x. nat_le x b) (sym h.0) ∙ ap (nat_le m) (sym k.0)
fewer_is (Some a) None m n h k = sym (le_by (nat_le m n) m n refl (let l : a < 2 ^ 64 = h.1 in let e : m ≡ a = h.0 in let f : n ≡ 2 ^ 64 = k in omega arith))
fewer_is None (Some b) m n h k = sym (gt_by (nat_le m n) m n refl (let l : b < 2 ^ 64 = k.1 in let e : n ≡ b = k.0 in let f : m ≡ 2 ^ 64 = h in omega arith))
fewer_is None None m n h k = sym (le_by (nat_le m n) m n refl (let e : m ≡ 2 ^ 64 = h in let f : n ≡ 2 ^ 64 = k in omega arith))

zip_by : (R : Element → PlanElement → Type 0) (b : Bool) (x y : Element) (p q : PlanElement) (xs us : List Element) (ps vs : List PlanElement) → R x p → R y q → AllZip R xs ps → AllZip R us vs → AllZip R (cond b (x ∷ y ∷ xs) (y ∷ us)) (cond b (p ∷ q ∷ ps) (q ∷ vs))
zip_by R true x y p q xs us ps vs h k l m = (h, (k, l))
zip_by R false x y p q xs us ps vs h k l m = (k, m)

zip_put : (M : Structure) (fs : List Core) (x : Element) (p : PlanElement) (xs : List Element) (ps : List PlanElement) → IsRanked M fs x p → AllZip (IsRanked M fs) xs ps → AllZip (IsRanked M fs) (put_key rank x xs) (put_ranked M p ps)
zip_put M fs x p [] [] h k = (h, tt)
zip_put M fs x p [] (q ∷ ps) h k = absurd k
zip_put M fs x p (y ∷ xs) [] h k = absurd k
zip_put M fs x p (y ∷ xs) (q ∷ ps) h k =
    subst (λ b. AllZip (IsRanked M fs) (cond (nat_le x.rank y.rank) (x ∷ y ∷ xs) (y ∷ put_key rank x xs)) (cond b (p ∷ q ∷ ps) (q ∷ put_ranked M p ps))) (sym (fewer_is (p.rows M) (q.rows M) x.rank y.rank h.ranks k.0.ranks))
    (zip_by (IsRanked M fs) (nat_le x.rank y.rank) x y p q xs (put_key rank x xs) ps (put_ranked M p ps) h k.0 k.1 (zip_put M fs x p xs ps h k.1))

zip_ranked : (M : Structure) (fs : List Core) (xs : List Element) (ps : List PlanElement) → AllZip (IsRanked M fs) xs ps → AllZip (IsRanked M fs) (by_rank rank xs) (ranked M ps)
zip_ranked M fs [] [] h = tt
zip_ranked M fs [] (p ∷ ps) h = absurd h
zip_ranked M fs (x ∷ xs) [] h = absurd h
zip_ranked M fs (x ∷ xs) (p ∷ ps) h = zip_put M fs x p (by_rank rank xs) (ranked M ps) h.0 (zip_ranked M fs xs ps h.1)

elements_of : (M : Structure) (fs : List Core) (xs : List Element) (ps : List PlanElement) → AllZip (IsRanked M fs) xs ps → AllZip (IsElement fs) xs ps
elements_of M fs [] [] h = tt
elements_of M fs [] (p ∷ ps) h = absurd h
elements_of M fs (x ∷ xs) [] h = absurd h
elements_of M fs (x ∷ xs) (p ∷ ps) h = (h.0.element, elements_of M fs xs ps h.1)

-- a stable sort by rank
pub sorted_ranks : (M : Structure) (fs : List Core) (xs ys : List Element) (ps : List PlanElement) → AllZip (IsRanked M fs) xs ps → IsNonDecreasingBy (λ e. e.rank) ys → ((x : Element) → filter (ties (λ a b. is_lt (nat_cmp a.rank b.rank)) x) ys ≡ filter (ties (λ a b. is_lt (nat_cmp a.rank b.rank)) x) xs) → AllZip (IsElement fs) ys (ranked M ps)
sorted_ranks M fs xs ys ps h r s =
    let e : ys ≡ by_rank rank xs = sorted_by_rank rank xs ys r s in
    subst (λ l. AllZip (IsElement fs) l (ranked M ps)) (sym e) (elements_of M fs (by_rank rank xs) (ranked M ps) (zip_ranked M fs xs ps h))

pub split_of : (M : Structure) (fs : List Core) (i : ℕ) (parts : Parts) (split : Split) (ys : List Element) → length fs ≤ i → IsParts M fs (cores_of (take i fs)) parts → split.positives.items ≡ ys → split.tests ≡ parts.tests → split.negations.items ≡ parts.negations.items
    → IsNonDecreasingBy (λ e. e.rank) ys → ((x : Element) → filter (ties (λ a b. is_lt (nat_cmp a.rank b.rank)) x) ys ≡ filter (ties (λ a b. is_lt (nat_cmp a.rank b.rank)) x) parts.positives.items) → IsSplitOf M fs split
split_of M fs i parts split ys le h e t n r s =
    let p : IsParts M fs (cores_of fs) parts = subst (λ xs. IsParts M fs (cores_of xs) parts) (take_all_of fs i le) h in
    record {
      ranks = subst (λ l. AllZip (IsElement fs) l (ranked M (positives_in (cores_of fs)))) (sym e) (sorted_ranks M fs parts.positives.items ys (positives_in (cores_of fs)) p.ranked_ones r s);
      checks = t ∙ p.checks;
      denials = subst (λ l. AllZip (IsDenied fs) l (negations_in (cores_of fs))) (sym n) p.denials;
    }
