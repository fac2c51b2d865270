-- The first tuple of a zone in a window.
use Rattle.std.proofs.Common.{◌≡◌, ℕ, zero, suc, ◌+◌, ◌-◌, ◌<◌, ◌≤◌, List, Option, Some, None, arith, refl, sym, subst, ◌∙◌, inl, inr, ◌⊎◌, below_more, length, set, get_or-set_same, get_or-set_other, true, false}
use Rattle.std.specs.Prelude.{ℤ, pos, ◌≤ℤ◌, ◌<ℤ◌, IfSome, IfNone, is_some}
use Rattle.std.proofs.lemmas.Int.{ints, by_lt_z}
use Rattle.lrp_zone.specs.Zones.{ZoneView, columns_of}
use Rattle.lrp_zone.specs.Windows.{IsInBox, IsBoxEmpty, IsBoxLeast, HasNoStep, IsLeastFollowing, IsNextInWindow, HasNoneFrom, IsLowOf, IsHighOf}
use Rattle.lrp_zone.specs.Order.{at, IsFrom, IsNotBefore, IsInWindow, IsFirstFrom, HasNoneNotBefore, IsNextIn, HasNoneAfter}

module _ (z : ZoneView) (columns : columns_of z ≤ 8) (from to : ℤ) (xs low high : List ℤ) (p : ℕ) (lows : (i : ℕ) → i < 8 → IsLowOf from (at xs i) i p (at low i)) (highs : (i : ℕ) → i < 8 → IsHighOf to (at xs i) i p (at high i)) where
  -- a tuple in the window that follows xs from place p is in the box
  into_box : (ys : List ℤ) → IsInWindow (columns_of z) from to ys → IsFrom (columns_of z) p xs ys → IsInBox (columns_of z) low high ys
  into_box ys w f = record {
    each = λ i il.
        let v = w.each i il in (
          (lows i (omega arith)).least (at ys i) v.0 (λ h. let e : at ys i ≡ at xs i = f.same i h in omega (arith, ints)) (λ e. subst (λ j. at xs j <ℤ at ys j) (sym e) (f.more (omega arith))),
          (highs i (omega arith)).greatest (at ys i) v.1 (λ h. let e : at ys i ≡ at xs i = f.same i h in omega (arith, ints)),
        );
  }

  -- a tuple in the box is in the window
  box_window : (ys : List ℤ) → IsInBox (columns_of z) low high ys → IsInWindow (columns_of z) from to ys
  box_window ys b = record {
    each = λ i il.
        let h = b.each i il in
        let a : from ≤ℤ at low i = (lows i (omega arith)).window in
        let c : at high i ≤ℤ to = (highs i (omega arith)).window in
        let d : at low i ≤ℤ at ys i = h.0 in
        let e : at ys i ≤ℤ at high i = h.1 in
        (omega (arith, ints), omega (arith, ints));
  }

  -- and it follows xs from place p
  box_from : (ys : List ℤ) → p ≤ columns_of z → IsInBox (columns_of z) low high ys → IsFrom (columns_of z) p xs ys
  box_from ys pl b = record {
    same = λ i h.
        let v = b.each i (omega arith) in
        let a : at xs i ≤ℤ at low i = (lows i (omega arith)).before h in
        let c : at high i ≤ℤ at xs i = (highs i (omega arith)).before h in
        let d : at low i ≤ℤ at ys i = v.0 in
        let e : at ys i ≤ℤ at high i = v.1 in
        omega (arith, ints);
    more = λ h.
        let v = b.each p h in
        let a : at xs p <ℤ at low p = (lows p (omega arith)).here refl in
        let d : at low p ≤ℤ at ys p = v.0 in
        omega (arith, ints);
  }

  -- where the box is empty, no tuple follows
  pub step_none : (o : Option (List ℤ)) → IfNone o (IsBoxEmpty z low high) → IfNone o (HasNoStep z from to xs p)
  step_none None h = record { none = λ ys m w f. h.none ys m (into_box ys w f) }
  step_none (Some zs) h = tt

  -- the least tuple in the box is the least that follows
  pub step_some : (o : Option (List ℤ)) → p ≤ columns_of z → IfSome o (λ zs. IsBoxLeast z low high zs) → IfSome o (λ zs. IsLeastFollowing z from to xs p zs)
  step_some None pl h = tt
  step_some (Some zs) pl h = record {
    holds = h.holds;
    window = box_window zs h.box;
    follows = box_from zs pl h.box;
    least = λ ys m w f i il. h.least ys m (into_box ys w f) i il;
  }

-- tuples whose values are each at most those of others are not after them
first_difference : (n : ℕ) (xs ys : List ℤ) → ((i : ℕ) → i < n → at xs i ≤ℤ at ys i) → ((i : ℕ) → i < n → at ys i ≡ at xs i) ⊎ ((p : ℕ) × (p < n) × ((i : ℕ) → i < p → at ys i ≡ at xs i) × (at xs p <ℤ at ys p))
first_difference zero xs ys h = inl (λ i l. absurd (omega arith))
first_difference (suc n) xs ys h = by (first_difference n xs ys (λ i l. h i (omega arith)))
  where
    up : (i : ℕ) → i < suc n → i < n + 1
    up i l = omega arith

    by : ((i : ℕ) → i < n → at ys i ≡ at xs i) ⊎ ((p : ℕ) × (p < n) × ((i : ℕ) → i < p → at ys i ≡ at xs i) × (at xs p <ℤ at ys p))
        → ((i : ℕ) → i < suc n → at ys i ≡ at xs i) ⊎ ((p : ℕ) × (p < suc n) × ((i : ℕ) → i < p → at ys i ≡ at xs i) × (at xs p <ℤ at ys p))
    by (inr d) = inr (d.0, (let l : d.0 < n = d.1 in omega arith), d.2, d.3)
    by (inl same) = by_lt_z (at xs n) (at ys n)
        (λ lt. inr (n, (omega arith), same, lt))
        (λ le. inl (λ i l. below_more (λ j. at ys j ≡ at xs j) n same (let g : at xs n ≤ℤ at ys n = h n (omega arith) in omega (arith, ints)) i (up i l)))

-- tuples whose values are each no less are not before
not_before : (n : ℕ) (xs ys : List ℤ) → ((i : ℕ) → i < n → at xs i ≤ℤ at ys i) → IsNotBefore n xs ys
not_before n xs ys h = elim (first_difference n xs ys h) [
  | inl same ↦ record { place = n; low = omega arith; from = record { same = same; more = λ l. absurd (omega arith) } }
  | inr d ↦ record { place = d.0; low = (let l : d.0 < n = d.1 in omega arith); from = record { same = d.2; more = λ l. d.3 } }
]

-- one number is less than, equal to or greater than another
three : (p q : ℕ) → (q < p) ⊎ ((q ≡ p) ⊎ (p < q))
three p q = grind arith

-- the first step that there is, from the top down, gives the first member
pub first_is : (z : ZoneView) (from to : ℤ) (xs zs : List ℤ) (top p : ℕ) → p ≤ top → top ≤ columns_of z → ((q : ℕ) → p < q → q ≤ top → HasNoStep z from to xs q) → IsLeastFollowing z from to xs p zs → IsNextInWindow z from to xs top zs
first_is z from to xs zs top p pl tl above s = record {
  holds = s.holds;
  window = s.window;
  place = p;
  low = pl;
  follows = s.follows;
  first = λ ys m w q ql f. elim (three p q) [
    | inl l ↦ record {
      place = q;
      low = omega arith;
      from = record {
        same = λ i h. f.same i h ∙ sym (s.follows.same i (omega arith));
        more = λ h. subst (λ v. v <ℤ at ys q) (sym (s.follows.same q l)) (f.more h);
      };
    }
    | inr r ↦ elim r [
      | inl e ↦ not_before (columns_of z) zs ys (s.least ys m w (subst (λ j. IsFrom (columns_of z) j xs ys) e f))
      | inr g ↦ absurd ((above q g ql).none ys m w f)
    ]
  ];
}

-- where no tuple follows from any place, none follows
pub none_from : (z : ZoneView) (from to : ℤ) (xs : List ℤ) (top : ℕ) → ((q : ℕ) → q ≤ top → HasNoStep z from to xs q) → HasNoneFrom z from to xs top
none_from z from to xs top h = record { none = λ ys m w p pl f. (h p pl).none ys m w f }

-- one more end is written
pub ends_more : (P : ℕ → ℤ → Type 0) (out : List ℤ) (i : ℕ) (v w : ℤ) → i < length out → w ≡ v → P i v → ((j : ℕ) → j < i → P j (at out j)) → (j : ℕ) → j < i + 1 → P j (at (set out i w) j)
ends_more P out i v w l e h old = below_more (λ j. P j (at (set out i w) j)) i
    (λ j jl. subst (λ y. P j y) (sym (get_or-set_other out i j w (pos 0) (omega arith))) (old j jl))
    (subst (λ y. P i y) (sym (get_or-set_same out i w (pos 0) l ∙ e)) h)

-- the same for the result of a call
pub first_some : (z : ZoneView) (from to : ℤ) (xs : List ℤ) (top p : ℕ) → p ≤ top → top ≤ columns_of z → ((q : ℕ) → p < q → q ≤ top → HasNoStep z from to xs q) → (o : Option (List ℤ)) → IfSome o (λ zs. IsLeastFollowing z from to xs p zs) → IfSome o (λ zs. IsNextInWindow z from to xs top zs)
first_some z from to xs top p pl tl above None h = tt
first_some z from to xs top p pl tl above (Some zs) h = first_is z from to xs zs top p pl tl above h

-- what holds of None holds where the result is none
pub none_of : (A : Type 0) (o : Option (List ℤ)) → is_some o ≡ false → IfNone o A → A
none_of A None e h = h
none_of A (Some zs) e h = absurd (let f : true ≡ false = e in cc)

-- one more place from which no tuple follows
pub more_none : (z : ZoneView) (from to : ℤ) (xs : List ℤ) (top back : ℕ) → ((q : ℕ) → q ≤ top → top < q + back → HasNoStep z from to xs q) → HasNoStep z from to xs (top - back) → (q : ℕ) → q ≤ top → top < q + (back + 1) → HasNoStep z from to xs q
more_none z from to xs top back old here q ql l = elim (three q (top - back)) [
  | inl g ↦ old q ql (omega arith)
  | inr r ↦ elim r [ inl e ↦ subst (λ p. HasNoStep z from to xs p) e here | inr g ↦ absurd (omega arith) ]
]

-- ---- a window from f to t whose ends stand as g and u

-- the first tuple that is not before xs follows from some place
pub from_some : (z : ZoneView) (f t g u : ℤ) → g ≡ f → u ≡ t → (n : ℕ) → n ≡ columns_of z → (xs : List ℤ) (o : Option (List ℤ)) → IfSome o (λ zs. IsNextInWindow z g u xs n zs) → IfSome o (λ zs. IsFirstFrom z f t xs zs)
from_some z f t g u d c n e xs None h = tt
from_some z f t g u d c n e xs (Some zs) h = rw (← d, ← c) (record {
  holds = h.holds;
  window = h.window;
  not_before = record { place = h.place; low = (let l : h.place ≤ n = h.low in omega arith); from = h.follows };
  first = λ ys k w b. h.first ys k w b.place (let l : b.place ≤ columns_of z = b.low in omega arith) b.from;
})

-- where none follows, none is not before xs
pub from_none : (z : ZoneView) (f t g u : ℤ) → g ≡ f → u ≡ t → (n : ℕ) → n ≡ columns_of z → (xs : List ℤ) (o : Option (List ℤ)) → IfNone o (HasNoneFrom z g u xs n) → IfNone o (HasNoneNotBefore z f t xs)
from_none z f t g u d c n e xs None h = rw (← d, ← c) (record { none = λ ys k w b. h.none ys k w b.place (let l : b.place ≤ columns_of z = b.low in omega arith) b.from })
from_none z f t g u d c n e xs (Some zs) h = tt

-- the first tuple after xs follows from a place of a column
pub next_some : (z : ZoneView) (f t g u : ℤ) → g ≡ f → u ≡ t → (n : ℕ) → n + 1 ≡ columns_of z → (xs : List ℤ) (o : Option (List ℤ)) → IfSome o (λ zs. IsNextInWindow z g u xs n zs) → IfSome o (λ zs. IsNextIn z f t xs zs)
next_some z f t g u d c n e xs None h = tt
next_some z f t g u d c n e xs (Some zs) h = rw (← d, ← c) (record {
  holds = h.holds;
  window = h.window;
  after = record { place = h.place; low = (let l : h.place ≤ n = h.low in omega arith); from = h.follows };
  first = λ ys k w b. h.first ys k w b.place (let l : b.place < columns_of z = b.low in omega arith) b.from;
})

-- where none follows, none is after xs
pub next_none : (z : ZoneView) (f t g u : ℤ) → g ≡ f → u ≡ t → (n : ℕ) → n + 1 ≡ columns_of z → (xs : List ℤ) (o : Option (List ℤ)) → IfNone o (HasNoneFrom z g u xs n) → IfNone o (HasNoneAfter z f t xs)
next_none z f t g u d c n e xs None h = rw (← d, ← c) (record { none = λ ys k w b. h.none ys k w b.place (let l : b.place < columns_of z = b.low in omega arith) b.from })
next_none z f t g u d c n e xs (Some zs) h = tt
