-- What zones at their places, and known texts, leave to each variable.
use Rattle.std.proofs.Common.{◌≡◌, ◌≢◌, ◌<◌, ◌≤◌, ◌+◌, ◌-◌, ℕ, zero, suc, ◌⊎◌, inl, inr, List, [], ◌∷◌, ◌++◌, length, map, take, get_or, replicate, Option, Some, None, refl, sym, ap, subst, ◌∙◌, arith}
use Rattle.std.specs.Prelude.{◌↔◌, ℤ, pos, neg_ℤ, ◌-ℤ◌, ◌≤ℤ◌, All, SomeIff, slice_get, slice_set, slice_index, slice_index_or}
use Rattle.std.proofs.lemmas.Int.{ints}
use Rattle.std.proofs.lemmas.Bool.{cases_lt}
use Rattle.std.proofs.lemmas.List.{get_or-set_other, get_or-set_same, get_or_past, length-replicate, length-set, take_more, map-append}
use Rattle.std.proofs.lemmas.Option.{slice_get-get_or, slice_get_within}
use Rattle.lrp_theory.specs.Bounds.{Within}
use Rattle.lrp_theory.specs.Divides.{Divides, IsPointMember as IsMemberOf}
use Rattle.lrp_point.specs.Points.{IsIn, PointView}
use Rattle.lrp_theory.specs.Entries.{node}
use Rattle.lrp_zone.specs.Zones.{ZoneView, IsMember, columns_of}
use Rattle.lrp_zone.proofs.Cases.{eq_or}
use Rattle.lrp_systems.specs.Parts.{InPart}
use Rattle.lrp_steps.specs.Patterns.{AreKnown, IsKnown, part_of}
use Rattle.lrp_steps.specs.declared.pattern.Pattern.{Pattern}
use Rattle.lrp_steps.specs.declared.pattern.Placed.{Placed}
use Rattle.lrp_steps.proofs.Found.{all_last, all_left}
use Rattle.lrp_kept.specs.Outlines.{AreFirstKnown, AreNarrowed, IsOutlineOf}
use Rattle.lrp_kept.specs.Spans.{AreInSpans, IsAtLeast, IsAtMost, IsInSpan, IsOfPoint}
use Rattle.lrp_kept.specs.declared.outlines.Outline.{Outline}
use Rattle.lrp_kept.specs.declared.spans.ColumnSpan.{ColumnSpan}
use Rattle.lrp_kept.proofs.JoinedUp.{same_some}

pub within_most : (o : Option ℤ) (x y : ℤ) → x ≡ y → Within x o → IsAtMost o y
within_most None x y e h = tt
within_most (Some b) x y e h = subst (λ z. z ≤ℤ b) e h

pub minus_zero : (x : ℤ) → x -ℤ pos 0 ≡ x
minus_zero x = omega (arith, ints)

-- the negation of a bound, where it fits
pub negated_is : (o : Option ℤ) (P : Type 0) (most x : ℤ) → SomeIff o P (neg_ℤ most) → (pos 0 -ℤ x) ≤ℤ most → IsAtLeast o x
negated_is None P most x h l = tt
negated_is (Some v) P most x h l = let e : v ≡ neg_ℤ most = h.1 in omega (arith, ints, e, l)

pub above_zero : (n : ℕ) → (n ≡ 0 → ⊥) → 0 < n
above_zero zero h = absurd (h refl)
above_zero (suc n) h = omega arith

-- ---- spans

-- the point of a column's residue has the column's integers
pub point_is : (z : ZoneView) (i : ℕ) (residue period : ℤ) (p : PointView) → i ≤ columns_of z → residue ≡ node z.residues i → period ≡ pos z.period → ((x : ℤ) → IsIn p x ↔ IsMemberOf residue period x) → (ys : List ℤ) → IsMember z ys → IsIn p (node ys i)
point_is z i residue period p high r k members ys m = (members (node ys i)).1 (subst (λ c. Divides period (node ys i -ℤ c)) (sym r) (subst (λ n. Divides n (node ys i -ℤ node z.residues i)) (sym k) (m.cell.each i high)))

pub not_narrowed : (spans : List ColumnSpan) (placed : Placed) (count : ℕ) → length spans ≡ 8 → AreNarrowed spans placed count spans
not_narrowed spans placed count size = record { size = size; is = λ xs more e h s. s }

pub narrowed_twice : (a b c : List ColumnSpan) (placed : Placed) (count : ℕ) → AreNarrowed a placed count b → AreNarrowed b placed count c → AreNarrowed a placed count c
narrowed_twice a b c placed count h k = record { size = k.size; is = λ xs more e i s. k.is xs more e i (h.is xs more e i s) }

node_mapped : (xs : List ℤ) (ps : List ℕ) (i : ℕ) → i < length ps → node (map (node xs) ps) (suc i) ≡ node xs (get_or ps i 0)
node_mapped xs [] i lt = absurd (omega (arith, lt))
node_mapped xs (p ∷ ps) zero lt = refl
node_mapped xs (p ∷ ps) (suc i) lt = node_mapped xs ps i (omega (arith, lt))

taken : (ps : List ℕ) (n i : ℕ) → i < length (take n ps) → get_or (take n ps) i 0 ≡ get_or ps i 0
taken [] zero i lt = absurd (omega (arith, lt))
taken [] (suc n) i lt = absurd (omega (arith, lt))
taken (p ∷ ps) zero i lt = absurd (omega (arith, lt))
taken (p ∷ ps) (suc n) zero lt = refl
taken (p ∷ ps) (suc n) (suc i) lt = taken ps n i (omega (arith, lt))

mapped_length : (xs : List ℤ) (ps : List ℕ) → length (map (node xs) ps) ≡ length ps
mapped_length xs [] = refl
mapped_length xs (p ∷ ps) = ap suc (mapped_length xs ps)

next_is : (i : ℕ) → i + 1 ≡ suc i
next_is i = omega arith

-- one column has narrowed the span at its place
pub narrowed_one : (spans new : List ColumnSpan) (placed : Placed) (i place count : ℕ) (span old : ColumnSpan) → length spans ≡ 8 → count ≤ 8 → i < columns_of placed.zone → place ≡ get_or placed.places i 0 → 0 < place → place ≤ count
    → old ≡ get_or spans (place - 1) old → ((ys : List ℤ) → IsMember placed.zone ys → IsInSpan old (node ys (i + 1)) → IsInSpan span (node ys (i + 1))) → new ≡ slice_set spans (place - 1) span
    → AreNarrowed spans placed count new
narrowed_one spans new placed i place count span old size few low at positive high was narrows e = subst (λ ss. AreNarrowed spans placed count ss) (sym e) (record {
  size = length-set spans (place - 1) span ∙ size;
  is = λ xs more continues inside held. record { each = λ k s is. by xs more continues inside held k s is (eq_or k (place - 1)) };
})
  where
    stands : place - 1 < length spans
    stands = omega (arith, size, few, positive, high)

    by : (xs : List ℤ) (more : ℕ → ℤ) → ((k : ℕ) → k < count → more k ≡ node xs (k + 1)) → InPart (part_of placed) xs → AreInSpans spans more → (k : ℕ) (s : ColumnSpan) → slice_get (slice_set spans (place - 1) span) k ≡ Some s → (k ≡ place - 1) ⊎ (k ≢ place - 1) → IsInSpan s (more k)
    by xs more continues inside held k s is (inr other) =
        let in_new : k < length (slice_set spans (place - 1) span) = slice_get_within (slice_set spans (place - 1) span) k s is in
        let in_old : k < length spans = omega (arith, in_new, length-set spans (place - 1) span) in
        let a : get_or (slice_set spans (place - 1) span) k s ≡ s = same_some (get_or (slice_set spans (place - 1) span) k s) s (sym (slice_get-get_or (slice_set spans (place - 1) span) k s in_new) ∙ is) in
        held.each k s (slice_get-get_or spans k s in_old ∙ ap (λ x. Some x) (sym (get_or-set_other spans (place - 1) k span s other) ∙ a))
    by xs more continues inside held k s is (inl same) =
        let in_new : k < length (slice_set spans (place - 1) span) = slice_get_within (slice_set spans (place - 1) span) k s is in
        let a : get_or (slice_set spans (place - 1) span) k s ≡ s = same_some (get_or (slice_set spans (place - 1) span) k s) s (sym (slice_get-get_or (slice_set spans (place - 1) span) k s in_new) ∙ is) in
        let here : span ≡ s = sym (get_or-set_same spans (place - 1) span s stands) ∙ ap (λ j. get_or (slice_set spans (place - 1) span) j s) (sym same) ∙ a in
        let ys : List ℤ = map (node xs) (take (columns_of placed.zone) placed.places) in
        let many : length ys ≡ columns_of placed.zone = inside.cell.count in
        let long : i < length (take (columns_of placed.zone) placed.places) = omega (arith, many, mapped_length xs (take (columns_of placed.zone) placed.places), low) in
        let value : node ys (i + 1) ≡ node xs place = ap (node ys) (next_is i) ∙ node_mapped xs (take (columns_of placed.zone) placed.places) i long ∙ ap (node xs) (taken placed.places (columns_of placed.zone) i long ∙ sym at) in
        let next : place - 1 + 1 ≡ place = omega (arith, positive) in
        let is_more : node ys (i + 1) ≡ more k = value ∙ ap (node xs) (sym next) ∙ sym (continues (place - 1) (omega (arith, positive, high))) ∙ ap more (sym same) in
        let before : IsInSpan old (node ys (i + 1)) = subst (λ x. IsInSpan old x) (sym is_more) (held.each k old (ap (λ j. slice_get spans j) same ∙ slice_get-get_or spans (place - 1) old stands ∙ ap (λ x. Some x) (sym was))) in
        subst (λ t. IsInSpan t (more k)) here (subst (λ x. IsInSpan span x) is_more (narrows ys inside before))

-- what begins with a tuple of so many times that is of the first zones is in the spans
pub record AreSpansOf (zones : List Placed) (count : ℕ) (spans : List ColumnSpan) : Type 0 where
  pub size : length spans ≡ 8
  pub is : (xs : List ℤ) (more : ℕ → ℤ) → ((i : ℕ) → i < count → more i ≡ node xs (i + 1)) → All (λ part. InPart part xs) (map part_of zones) → AreInSpans spans more

pub one_zone_more : (zones : List Placed) (i : ℕ) (placed : Placed) (count : ℕ) (old new : List ColumnSpan) → i < length zones → placed ≡ get_or zones i placed → AreSpansOf (take i zones) count old → AreNarrowed old placed count new → AreSpansOf (take (i + 1) zones) count new
one_zone_more zones i placed count old new lt is h w = record {
  size = w.size;
  is = λ xs more continues inside.
      let both = subst (λ ps. All (λ part. InPart part xs) ps) (ap (map part_of) (take_more zones i placed lt ∙ ap (λ x. take i zones ++ x ∷ []) (sym is)) ∙ map-append part_of (take i zones) (placed ∷ [])) inside in
      w.is xs more continues (all_last (λ part. InPart part xs) (map part_of (take i zones)) (part_of placed) both) (h.is xs more continues (all_left (λ part. InPart part xs) (map part_of (take i zones)) (part_of placed ∷ []) both));
}

-- every integer is in a span of which nothing is known
open_span : (s : ColumnSpan) (x : ℤ) → s.least ≡ None → s.most ≡ None → s.point ≡ None → IsInSpan s x
open_span s x l m p = record {
  least = subst (λ o. IsAtLeast o x) (sym l) tt;
  most = subst (λ o. IsAtMost o x) (sym m) tt;
  point = subst (λ o. IsOfPoint o x) (sym p) tt;
}

repeated : (n i : ℕ) (s t : ColumnSpan) → slice_get (replicate n s) i ≡ Some t → t ≡ s
repeated zero i s t e = absurd (let l : i < 0 = slice_get_within [] i t e in omega (arith, l))
repeated (suc n) zero s t e = sym (same_some s t e)
repeated (suc n) (suc i) s t e = repeated n i s t e

pub open_spans : (n : ℕ) (s : ColumnSpan) (xs : ℕ → ℤ) → s.least ≡ None → s.most ≡ None → s.point ≡ None → AreInSpans (replicate n s) xs
open_spans n s xs l m p = record { each = λ i t e. subst (λ u. IsInSpan u (xs i)) (sym (repeated n i s t e)) (open_span s (xs i) l m p) }

pub no_zones : (count n : ℕ) (s : ColumnSpan) → n ≡ 8 → s.least ≡ None → s.most ≡ None → s.point ≡ None → AreSpansOf [] count (replicate n s)
no_zones count n s e l m p = record { size = length-replicate {A = ColumnSpan} n s ∙ e; is = λ xs more continues all. open_spans n s more l m p }

-- ---- texts

-- of the first so many texts it is known what was known, and of the others nothing
pub record AreCopied (known : List (Option ℕ)) (count : ℕ) (new : List (Option ℕ)) : Type 0 where
  pub size : length new ≡ 8
  pub first : (i : ℕ) → i < count → slice_index_or new i None ≡ slice_index_or known i None
  pub others : (i : ℕ) → count ≤ i → slice_index_or new i None ≡ None

none_at : (n i : ℕ) (o : Option ℕ) → o ≡ None → get_or (replicate n o) i None ≡ None
none_at zero i o e = get_or_past [] i None (omega arith)
none_at (suc n) zero o e = e
none_at (suc n) (suc i) o e = none_at n i o e

pub none_copied : (known new : List (Option ℕ)) → new ≡ replicate 8 None → AreCopied known 0 new
none_copied known new e = subst (λ k. AreCopied known 0 k) (sym e) (record { size = refl; first = λ i lt. absurd (omega (arith, lt)); others = λ i le. none_at 8 i None refl })

below : (k i : ℕ) → k < i + 1 → k ≢ i → k < i
below k i lt other = grind (arith, lt, other)

pub open_texts : (n : ℕ) (o : Option ℕ) (ns : List ℕ) → o ≡ None → AreKnown (replicate n o) ns
open_texts n o ns e = record { each = λ i. subst (λ k. IsKnown k (slice_index ns i)) (sym (none_at n i o e)) tt }

pub one_copied : (known old new : List (Option ℕ)) (i : ℕ) (o : Option ℕ) → i < 8 → o ≡ slice_index_or known i None → AreCopied known i old → new ≡ slice_set old i o → AreCopied known (i + 1) new
one_copied known old new i o low is h e = subst (λ k. AreCopied known (i + 1) k) (sym e) (record {
  size = length-set old i o ∙ h.size;
  first = λ k lt. by k lt (eq_or k i);
  others = λ k le. get_or-set_other old i k o None (λ same. let l : i + 1 ≤ k = le in omega (arith, l, same)) ∙ h.others k (omega (arith, le));
})
  where
    by : (k : ℕ) → k < i + 1 → (k ≡ i) ⊎ (k ≢ i) → slice_index_or (slice_set old i o) k None ≡ slice_index_or known k None
    by k lt (inl same) = ap (λ j. get_or (slice_set old i o) j None) same ∙ get_or-set_same old i o None (omega (arith, low, h.size)) ∙ is ∙ ap (λ j. get_or known j None) (sym same)
    by k lt (inr other) = get_or-set_other old i k o None other ∙ h.first k (below k i lt other)

pub first_are_known : (known new : List (Option ℕ)) (count : ℕ) → AreCopied known count new → AreFirstKnown known count new
first_are_known known new count h = record { size = h.size; is = λ ns further k same. record { each = λ i. by ns further k same i (cases_lt i count) } }
  where
    by : (ns further : List ℕ) → AreKnown known ns → ((i : ℕ) → i < count → slice_index further i ≡ slice_index ns i) → (i : ℕ) → (i < count) ⊎ (count ≤ i) → IsKnown (slice_index_or new i None) (slice_index further i)
    by ns further k same i (inl lt) = subst (λ o. IsKnown o (slice_index further i)) (sym (h.first i lt)) (subst (λ n. IsKnown (slice_index_or known i None) n) (sym (same i lt)) (k.each i))
    by ns further k same i (inr le) = subst (λ o. IsKnown o (slice_index further i)) (sym (h.others i le)) tt

-- ---- outlines

pub outlined : (pattern : Pattern) (times texts : ℕ) (o : Outline) → AreSpansOf pattern.zones times o.times → AreFirstKnown pattern.texts texts o.texts → IsOutlineOf pattern times texts o
outlined pattern times texts o h k = record {
  full = record { times = h.size; texts = k.size };
  is = λ xs ns more further suits continues. record { times = h.is xs more continues.integers suits.zones; texts = k.is ns further suits.known continues.numbers };
}
