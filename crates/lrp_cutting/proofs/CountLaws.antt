-- How many disjoint zones there are that no bound of a cutter divides: at most one for each choice of a place among the thresholds of each pair.
use Rattle.std.proofs.Common.{◌≡◌, ℕ, zero, suc, ◌+◌, ◌*◌, ◌<◌, ◌≤◌, inl, inr, List, [], ◌∷◌, true, false, cond, Ordering, Less, Equal, Greater, length, get_or, arith, refl, sym, subst, ◌∙◌, ap, map}
use Rattle.std.specs.Prelude.{ℤ, pos, ◌-ℤ◌, ◌≤ℤ◌, ◌<ℤ◌, Contains, AllPairs, flat_map}
use Rattle.std.specs.List.{range_with_len}
use Rattle.std.specs.Ordering.{int_cmp, int_eq, is_lt, MatchOrdering}
use Rattle.std.specs.Cmp.{int_ranks}
use Rattle.std.proofs.lemmas.Cmp.{int_eq_equiv}
use Rattle.std.proofs.lemmas.Bool.Decides.{Decides-int_eq}
use Rattle.std.proofs.lemmas.Int.{ints, by_lt_z}
use Rattle.std.proofs.lemmas.List.{get_or-map, length-map}
use Rattle.std.proofs.lemmas.List.Elements.{Contains-get_or}
use Rattle.std.proofs.lemmas.List.FromFn.{length-range_with_len}
use Rattle.std.proofs.lemmas.Map.Made.{length-le_from_is_member, IsDistinct-from_AllPairs}
use Rattle.std.proofs.lemmas.Map.Views.{Contains-from_any, list_any-from_Contains}
use Rattle.lrp_theory.specs.Entries.{node}
use Rattle.lrp_model.specs.Cuts.{threshold, distinct}
use Rattle.lrp_zone.specs.Zones.{ZoneView, IsZone, IsMember, columns_of}
use Rattle.lrp_zone.specs.Pairs.{IsWithin, HaveNoCommon}
use Rattle.lrp_cutting.specs.declared.pairs.NodePair.{NodePair}
use Rattle.lrp_cutting.specs.Cutting.{IsPairOf, lower_side}
use Rattle.lrp_cutting.specs.Differences.{AreOfCell, IsDifference}
use Rattle.lrp_cutting.specs.Halves.{IsWithinBound}
use Rattle.lrp_cutting.specs.Leaving.{AreLeftOf, IsUndivided, LieAlike}
use Rattle.lrp_cutting.specs.Thresholds.{all_thresholds, stored_bounds, parts_along, most_parts, most_pieces, pairs_below}
use Rattle.lrp_cutting.proofs.Lists.{below_or, from_map, head_in, in_cons, in_map, in_none, in_range, in_this, later, this_has}
use Rattle.lrp_cutting.proofs.PairLists.{in_pairs}
use Rattle.lrp_cutting.proofs.ThresholdLaws.{counted, in_distinct}

-- ---- how many thresholds are below a number
abbrev pub below : List ℤ → ℤ → ℕ
below [] d = 0
below (t ∷ ts) d = cond (is_lt (int_cmp t d)) (suc (below ts d)) (below ts d)

is_less : (t d : ℤ) → t <ℤ d → is_lt (int_cmp t d) ≡ true
is_less t d l = by_match (int_cmp t d) (int_ranks t d)
  where
    by_match : (o : Ordering) → MatchOrdering o (t <ℤ d) (t ≡ d) (d <ℤ t) → is_lt o ≡ true
    by_match Less m = refl
    by_match Equal m = absurd (omega (arith, ints))
    by_match Greater m = absurd (omega (arith, ints))

not_less : (t d : ℤ) → d ≤ℤ t → is_lt (int_cmp t d) ≡ false
not_less t d l = by_match (int_cmp t d) (int_ranks t d)
  where
    by_match : (o : Ordering) → MatchOrdering o (t <ℤ d) (t ≡ d) (d <ℤ t) → is_lt o ≡ false
    by_match Less m = absurd (omega (arith, ints))
    by_match Equal m = refl
    by_match Greater m = refl

below_few : (ts : List ℤ) (d : ℤ) → below ts d ≤ length ts
below_few [] d = omega arith
below_few (t ∷ ts) d = let b : below ts d ≤ length ts = below_few ts d in by_lt_z t d
    (λ l. rw (is_less t d l) (omega arith))
    (λ l. rw (not_less t d l) (omega arith))

below_more : (ts : List ℤ) (d e : ℤ) → d ≤ℤ e → below ts d ≤ below ts e
below_more [] d e le = omega arith
below_more (t ∷ ts) d e le = let b : below ts d ≤ below ts e = below_more ts d e le in by_lt_z t d
    (λ l. rw (is_less t d l, is_less t e (omega (arith, ints))) (omega arith))
    (λ l. by_lt_z t e
    (λ k. rw (not_less t d l, is_less t e k) (omega arith))
    (λ k. rw (not_less t d l, not_less t e k) (omega arith)))

-- numbers with as many thresholds below them are on the same sides of all
same_side : (ts : List ℤ) (d e : ℤ) → d ≤ℤ e → below ts d ≡ below ts e → (t : ℤ) → Contains ts t → t <ℤ e → t <ℤ d
same_side [] d e le q t h l = absurd (in_none t h)
same_side (s ∷ ts) d e le q t h l =
    let b : below ts d ≤ below ts e = below_more ts d e le in
    by_lt_z s d
    (λ k. let r : below ts d ≡ below ts e = (let r : suc (below ts d) ≡ suc (below ts e) = (let a : below (s ∷ ts) d ≡ suc (below ts d) = (rw (is_less s d k) refl) in let c : below (s ∷ ts) e ≡ suc (below ts e) = (rw (is_less s e (omega (arith, ints))) refl) in sym a ∙ q ∙ c) in omega arith) in
    elim (in_cons s ts t h) [
      | inl same ↦ subst (λ y. y <ℤ d) same k
      | inr m ↦ same_side ts d e le r t m l
    ])
    (λ k. by_lt_z s e
    (λ j. absurd (let a : below (s ∷ ts) d ≡ below ts d = (rw (not_less s d k) refl) in let c : below (s ∷ ts) e ≡ suc (below ts e) = (rw (is_less s e j) refl) in let r : below ts d ≡ suc (below ts e) = sym a ∙ q ∙ c in omega arith))
    (λ j. let r : below ts d ≡ below ts e = (let a : below (s ∷ ts) d ≡ below ts d = (rw (not_less s d k) refl) in let c : below (s ∷ ts) e ≡ below ts e = (rw (not_less s e j) refl) in sym a ∙ q ∙ c) in
    elim (in_cons s ts t h) [
      | inl same ↦ absurd (let g : e ≤ℤ t = subst (λ y. e ≤ℤ y) same j in omega (arith, ints))
      | inr m ↦ same_side ts d e le r t m l
    ]))

pub same_sides : (ts : List ℤ) (d e : ℤ) → below ts d ≡ below ts e → (t : ℤ) → Contains ts t → t <ℤ d → t <ℤ e
same_sides ts d e q t h l = by_lt_z e d
    (λ k. same_side ts e d (omega (arith, ints)) (sym q) t h l)
    (λ k. omega (arith, ints))

-- ---- the place of a tuple among the thresholds of each pair, as one number
-- the different thresholds along a pair
abbrev pub marks : ℕ → List ZoneView → NodePair → List ℤ
marks k cutters p = distinct (flat_map (λ bounds. flat_map (threshold (pos k) p.left p.right) bounds) (map stored_bounds cutters))

abbrev pub place_on : ℕ → List ZoneView → NodePair → List ℤ → ℕ
place_on k cutters p xs = below (marks k cutters p) (node xs p.left -ℤ node xs p.right)

abbrev pub code : ℕ → List ZoneView → List NodePair → List ℤ → ℕ
code k cutters [] xs = 0
code k cutters (p ∷ ps) xs = place_on k cutters p xs + parts_along k cutters p * code k cutters ps xs

place_low : (k : ℕ) (cutters : List ZoneView) (p : NodePair) (xs : List ℤ) → place_on k cutters p xs < parts_along k cutters p
unfolding parts_along
place_low k cutters p xs = let b : below (marks k cutters p) (node xs p.left -ℤ node xs p.right) ≤ length (marks k cutters p) = below_few (marks k cutters p) (node xs p.left -ℤ node xs p.right) in omega arith

times_more : (c m n : ℕ) → m ≤ n → c * m ≤ c * n
times_more zero m n l = omega arith
times_more (suc c) m n l = let t : c * m ≤ c * n = times_more c m n l in omega arith

digit_low : (s c k m : ℕ) → s < c → k < m → s + c * k < c * m
digit_low s c k m a b = let t : c * (k + 1) ≤ c * m = times_more c (k + 1) m (omega arith) in let u : c * (k + 1) ≡ c * k + c = omega arith in omega arith

pub code_low : (k : ℕ) (cutters : List ZoneView) (ps : List NodePair) (xs : List ℤ) → code k cutters ps xs < most_parts k cutters ps
code_low k cutters [] xs = omega arith
code_low k cutters (p ∷ ps) xs = digit_low (place_on k cutters p xs) (parts_along k cutters p) (code k cutters ps xs) (most_parts k cutters ps) (place_low k cutters p xs) (code_low k cutters ps xs)

digits : (c s t m n : ℕ) → s < c → t < c → s + c * m ≡ t + c * n → (s ≡ t) × (m ≡ n)
digits c s t m n a b e = elim (below_or m n) [
  | inl lt ↦ absurd (let u : c * (m + 1) ≤ c * n = times_more c (m + 1) n (omega arith) in let v : c * (m + 1) ≡ c * m + c = omega arith in omega arith)
  | inr ge ↦ elim (below_or n m) [
    | inl lt ↦ absurd (let u : c * (n + 1) ≤ c * m = times_more c (n + 1) m (omega arith) in let v : c * (n + 1) ≡ c * n + c = omega arith in omega arith)
    | inr le ↦ (let same : m ≡ n = omega arith in (let f : c * m ≡ c * n = ap (λ x. c * x) same in omega arith, same))
  ]
]

pub code_tells : (k : ℕ) (cutters : List ZoneView) (ps : List NodePair) (xs ys : List ℤ) → code k cutters ps xs ≡ code k cutters ps ys → (p : NodePair) → Contains ps p → place_on k cutters p xs ≡ place_on k cutters p ys
code_tells k cutters [] xs ys e p h = absurd (in_none p h)
code_tells k cutters (q ∷ ps) xs ys e p h =
    let d = digits (parts_along k cutters q) _ _ _ _ (place_low k cutters q xs) (place_low k cutters q ys) e in
    elim (in_cons q ps p h) [
      | inl same ↦ subst (λ r. place_on k cutters r xs ≡ place_on k cutters r ys) same d.0
      | inr m ↦ code_tells k cutters ps xs ys d.1 p m
    ]

-- ---- tuples with different numbers
exact : (x y : ℤ) → int_eq x y ≡ true → x ≡ y
exact x y h = (Decides-int_eq x y).0 h

pub few_codes : (k : ℕ) (cutters : List ZoneView) (ps : List NodePair) (xss : List (List ℤ)) → AllPairs (λ xs ys. code k cutters ps xs ≡ code k cutters ps ys → ⊥) xss → length xss ≤ most_parts k cutters ps
few_codes k cutters ps xss apart =
    let n : ℕ = most_parts k cutters ps in
    let f : List ℤ → ℤ = λ xs. pos (code k cutters ps xs) in
    let few : length (map f xss) ≤ length (map pos (range_with_len 0 (most_parts k cutters ps))) = length-le_from_is_member int_eq_equiv (map f xss) (map pos (range_with_len 0 (most_parts k cutters ps)))
    (IsDistinct-from_AllPairs Decides-int_eq (map f xss) (λ i j d il jl e.
    let b : length (map f xss) ≡ length xss = length-map xss f in
    let q : pos (code k cutters ps (get_or xss i [])) ≡ pos (code k cutters ps (get_or xss j [])) = sym (get_or-map f xss i [] d (omega arith)) ∙ e ∙ get_or-map f xss j [] d (omega arith) in
    apart i j [] il (omega arith) (omega (arith, ints))))
    (λ q h.
    let r : (xs : List ℤ) × Contains xss xs × (f xs ≡ q) = from_map f xss q (Contains-from_any exact q (map f xss) h) in
    list_any-from_Contains int_eq_equiv q (map pos (range_with_len 0 (most_parts k cutters ps))) (subst (Contains (map pos (range_with_len 0 (most_parts k cutters ps)))) r.2 (in_map pos (range_with_len 0 (most_parts k cutters ps)) (code k cutters ps r.0) (in_range (most_parts k cutters ps) (code k cutters ps r.0) (code_low k cutters ps r.0))))) in
    let a : length (map f xss) ≡ length xss = length-map xss f in
    let b : length (map pos (range_with_len 0 (most_parts k cutters ps))) ≡ length (range_with_len 0 (most_parts k cutters ps)) = length-map (range_with_len 0 (most_parts k cutters ps)) pos in
    let c : length (range_with_len 0 (most_parts k cutters ps)) ≡ most_parts k cutters ps = length-range_with_len 0 (most_parts k cutters ps) in
    omega arith

-- a tuple of each zone
points : (ws : List ZoneView) → ((w : ZoneView) → Contains ws w → IsZone w) → (xss : List (List ℤ)) × (length xss ≡ length ws) × ((i : ℕ) (d : List ℤ) (e : ZoneView) → i < length ws → IsMember (get_or ws i e) (get_or xss i d))
points [] valid = ([], refl, λ i d e l. absurd (omega arith))
points (w ∷ ws) valid =
    let rest = points ws (λ v l. valid v (later w ws v l)) in
    let own : IsZone w = valid w (head_in w ws) in
    (own.some.member ∷ rest.0, ap suc rest.1, at_all rest.0 own.some.member own.some.is rest.2)
  where
    at_all : (xss : List (List ℤ)) (xs : List ℤ) → IsMember w xs → ((i : ℕ) (d : List ℤ) (e : ZoneView) → i < length ws → IsMember (get_or ws i e) (get_or xss i d)) → (i : ℕ) (d : List ℤ) (e : ZoneView) → i < length (w ∷ ws) → IsMember (get_or (w ∷ ws) i e) (get_or (xs ∷ xss) i d)
    at_all xss xs m f zero d e l = m
    at_all xss xs m f (suc i) d e l = f i d e (omega arith)

-- ---- tuples with one number are alike
module _ (z : ZoneView) (cutters : List ZoneView) (cells : AreOfCell z cutters) where
  keeps : (xs ys : List ℤ) → code z.period cutters (pairs_below (columns_of z + 1)) xs ≡ code z.period cutters (pairs_below (columns_of z + 1)) ys → (p : NodePair) → IsPairOf z p → (t : ℤ) → Contains (all_thresholds z.period p cutters) t → IsWithinBound (lower_side p t) xs → IsWithinBound (lower_side p t) ys
  keeps xs ys e p is t l h =
      let high : p.right ≤ columns_of z = is.high in
      let q = code_tells z.period cutters (pairs_below (columns_of z + 1)) xs ys e p (in_pairs (columns_of z + 1) p is.rising (omega arith)) in
      by_lt_z t (node ys p.left -ℤ node ys p.right)
      (λ lt. absurd (let g : t <ℤ (node xs p.left -ℤ node xs p.right) = same_sides _ _ _ (sym q) t (in_distinct _ t (counted z p cutters cells is t l)) lt in omega (arith, ints)))
      (λ le. le)

  pub alike : (xs ys : List ℤ) → code z.period cutters (pairs_below (columns_of z + 1)) xs ≡ code z.period cutters (pairs_below (columns_of z + 1)) ys → LieAlike z cutters xs ys
  alike xs ys e = record { each = λ p is t l. (keeps xs ys e p is t l, keeps ys xs (sym e) p is t l) }

  -- disjoint zones within z that no threshold divides are few
  pub few_pieces : (pieces : List ZoneView) → ((w : ZoneView) → Contains pieces w → IsZone w) → ((w : ZoneView) → Contains pieces w → IsWithin w z) → AllPairs HaveNoCommon pieces → ((w : ZoneView) → Contains pieces w → IsUndivided z cutters w) → length pieces ≤ most_pieces z cutters
  few_pieces pieces valid_pieces within apart whole =
      let p = points pieces valid_pieces in
      let len : length p.0 ≡ length pieces = p.1 in
      let few : length p.0 ≤ most_parts z.period cutters (pairs_below (columns_of z + 1)) = few_codes z.period cutters (pairs_below (columns_of z + 1)) p.0 (λ i j d il jl e.
      let il_in : i < length pieces = omega arith in
      let jl_in : j < length pieces = omega arith in
      let mi : IsMember (get_or pieces i z) (get_or p.0 i d) = p.2 i d z il_in in
      let mj : IsMember (get_or pieces j z) (get_or p.0 j d) = p.2 j d z jl_in in
      let li : Contains pieces (get_or pieces i z) = Contains-get_or pieces i z il_in in
      let lj : Contains pieces (get_or pieces j z) = Contains-get_or pieces j z jl_in in
      let zj : IsMember z (get_or p.0 j d) = (within _ lj).each _ mj in
      (apart i j z il jl_in).none (get_or p.0 j d) ((whole _ li).each _ _ mi zj (alike _ _ e)) mj) in
      omega arith

-- ---- what is left of a zone
-- it is a difference
pub difference_of : (z : ZoneView) (cutters : List ZoneView) (h : ℕ) (made : List ZoneView) → AreLeftOf z (z ∷ []) cutters h made → IsDifference z cutters made
difference_of z cutters h made left = record {
  zones = left.zones;
  disjoint = left.disjoint;
  to = λ xs s. (this_has z xs (left.to xs s).0, (left.to xs s).1);
  from = λ xs m out. left.from xs (in_this z xs m) out;
}

-- in few pieces
pub few_left : (z : ZoneView) (cutters : List ZoneView) (h : ℕ) (made : List ZoneView) → AreOfCell z cutters → AreLeftOf z (z ∷ []) cutters h made → length made ≤ most_pieces z cutters
few_left z cutters h made cells left = few_pieces z cutters cells made (λ w l. (left.zones w l).0)
    (λ w l. record { each = λ xs m. this_has z xs (left.to xs (record { zone = w; listed = l; inside = m })).0 }) left.disjoint left.undivided
