-- Intervals in order, merged one after another.
use Rattle.std.proofs.Common.{◌≡◌, ℕ, suc, get_or, take, ◌+◌, ◌<◌, ◌≤◌, ◌⊎◌, ◌^◌, inl, inr, List, [], ◌∷◌, ◌++◌, Option, Some, None, length, arith, refl, sym, subst, ◌∙◌, ap}
use Rattle.std.specs.Prelude.{ℤ, pos, ◌+ℤ◌, ◌≤ℤ◌, ◌<ℤ◌, nat_abs, Contains, All, AllPairs, IfSome}
use Rattle.std.proofs.lemmas.Int.{ints}
use Rattle.std.proofs.Math.Seq.{take-length}
use Rattle.std.proofs.lemmas.List.{take_more, get_or_default}
use Rattle.std.proofs.lemmas.List.Elements.{All-contains, Contains-get_or, Contains-append_cases, Contains-append_left, Contains-append_right}
use Rattle.lrp_theory.specs.Bounds.{Within}
use Rattle.lrp_matrix.specs.Ranges.{Above}
use Rattle.lrp_zone.specs.Zones.{ZoneView, IsZone, IsMember, reach_of}
use Rattle.lrp_zone.specs.Pairs.{IsOfCell}
use Rattle.lrp_store.specs.Settled.{InSome}
use Rattle.lrp_cutting.specs.declared.intervals.Interval.{Interval}
use Rattle.lrp_cutting.specs.Intervals.{IsIntervalEnd, IsNumber, IsInterval, HasSmallEnds, BeginsBy, LiesApart, IsJoinedInterval, IsIntervalZone, InInterval, IsFarBelow, AreMerged}
use Rattle.lrp_cutting.proofs.Lists.{before, head_in, later, in_none, in_one, one_in, pairs_append, pairs_one, pairs_none, in_left, in_right, in_either, in_this, this_has, in_nothing}

-- the intervals so far, of which the last may still grow
pub record AreMerging (z : ZoneView) (vs : List Interval) (made : List ZoneView) (last : Interval) : Type 0 where
  pub valid : (w : ZoneView) → Contains made w → IsZone w × IsOfCell z w
  pub far : AllPairs IsFarBelow made
  pub begun : Interval
  pub listed : Contains vs begun
  pub begins : last.least ≡ begun.least
  pub interval : IsInterval z last
  pub below : (w : ZoneView) → Contains made w → (x y : ℤ) → IsMember w (x ∷ []) → Above y last.least → (x +ℤ pos z.period) <ℤ y
  pub to_made : (x : ℤ) → InSome made (x ∷ []) → InInterval z vs x
  pub to_last : (x : ℤ) → IsNumber z last x → InInterval z vs x
  pub from : (x : ℤ) → InInterval z vs x → InSome made (x ∷ []) ⊎ IsNumber z last x
  pub reach : (h : ℕ) → ((v : Interval) → Contains vs v → HasSmallEnds h v) → ((w : ZoneView) → Contains made w → reach_of w ≤ h) × HasSmallEnds h last

-- a number of the intervals is one of more of them
pub interval_left : (z : ZoneView) (vs ws : List Interval) (x : ℤ) → InInterval z vs x → InInterval z (vs ++ ws) x
interval_left z vs ws x i = record { interval = i.interval; listed = Contains-append_left vs ws i.interval i.listed; is = i.is }

pub interval_new : (z : ZoneView) (vs : List Interval) (v : Interval) (x : ℤ) → IsNumber z v x → InInterval z (vs ++ v ∷ []) x
interval_new z vs v x n = record { interval = v; listed = Contains-append_right vs (v ∷ []) v (one_in v); is = n }

pub interval_either : (z : ZoneView) (vs : List Interval) (v : Interval) (x : ℤ) → InInterval z (vs ++ v ∷ []) x → InInterval z vs x ⊎ IsNumber z v x
interval_either z vs v x i = elim (Contains-append_cases vs (v ∷ []) i.interval i.listed) [
  | inl k ↦ inl (record { interval = i.interval; listed = k; is = i.is })
  | inr k ↦ inr (subst (λ y. IsNumber z y x) (sym (in_one v i.interval k)) i.is)
]

-- the first interval
pub merging_start : (z : ZoneView) (v : Interval) → IsInterval z v → AreMerging z (v ∷ []) [] v
merging_start z v i = record {
  valid = λ w l. absurd (in_none w l);
  far = pairs_none IsFarBelow;
  begun = v;
  listed = one_in v;
  begins = refl;
  interval = i;
  below = λ w l. absurd (in_none w l);
  to_made = λ x s. absurd (in_nothing (x ∷ []) s);
  to_last = λ x n. record { interval = v; listed = one_in v; is = n };
  from = λ x n. inr (subst (λ y. IsNumber z y x) (sym (in_one v n.interval n.listed)) n.is);
  reach = λ h s. (λ w l. absurd (in_none w l), s v (one_in v));
}

module _ (z : ZoneView) (vs : List Interval) (made : List ZoneView) (last next : Interval) (m : AreMerging z vs made last) where
  -- the last one begins by the next
  pub last_begins : ((u : Interval) → Contains vs u → BeginsBy u next) → BeginsBy last next
  last_begins b = record { each = λ x h. subst (λ e. Above x e) (sym m.begins) ((b m.begun m.listed).each x h) }

  -- the next one joins the last
  pub merging_joined : (j : Interval) → IsJoinedInterval z last next j → AreMerging z (vs ++ next ∷ []) made j
  merging_joined j is = record {
    valid = m.valid;
    far = m.far;
    begun = m.begun;
    listed = Contains-append_left vs (next ∷ []) m.begun m.listed;
    begins = is.begins ∙ m.begins;
    interval = is.interval;
    below = λ w l x y a b. m.below w l x y a (subst (λ e. Above y e) is.begins b);
    to_made = λ x s. interval_left z vs (next ∷ []) x (m.to_made x s);
    to_last = λ x n. elim (is.to x n) [ inl a ↦ interval_left z vs (next ∷ []) x (m.to_last x a) | inr b ↦ interval_new z vs next x b ];
    from = λ x n. elim (interval_either z vs next x n) [
      | inl a ↦ elim (m.from x a) [ inl s ↦ inl s | inr l ↦ inr (is.from x (inl l)) ]
      | inr b ↦ inr (is.from x (inr b))
    ];
    reach = λ h s. (
      (m.reach h (λ v l. s v (Contains-append_left vs (next ∷ []) v l))).0,
      is.small h (m.reach h (λ v l. s v (Contains-append_left vs (next ∷ []) v l))).1 (s next (Contains-append_right vs (next ∷ []) next (one_in next))),
    );
  }

  -- the zone of the last one is after the others
  module _ (w : ZoneView) (is : IsIntervalZone z last w) where
    valid_more : (v : ZoneView) → Contains (made ++ w ∷ []) v → IsZone v × IsOfCell z v
    valid_more v l = elim (Contains-append_cases made (w ∷ []) v l) [
      | inl k ↦ m.valid v k
      | inr k ↦ subst (λ y. IsZone y × IsOfCell z y) (in_one w v k) (is.valid, is.cell)
    ]

    far_more : AllPairs IsFarBelow (made ++ w ∷ [])
    far_more = pairs_append IsFarBelow made (w ∷ []) m.far (pairs_one IsFarBelow w) (λ u v ul vl. record {
      far = λ x y a b.
          let n : IsNumber z last y = is.to y (subst (λ q. IsMember q (y ∷ [])) (sym (in_one w v vl)) b) in
          subst (λ k. (x +ℤ pos k) <ℤ y) (sym (m.valid u ul).1.period) (m.below u ul x y a n.low);
    })

    reach_more : (h : ℕ) → ((v : Interval) → Contains vs v → HasSmallEnds h v) → (v : ZoneView) → Contains (made ++ w ∷ []) v → reach_of v ≤ h
    reach_more h s v l = elim (Contains-append_cases made (w ∷ []) v l) [
      | inl k ↦ (m.reach h s).0 v k
      | inr k ↦ subst (λ y. reach_of y ≤ h) (in_one w v k) (is.reach h (m.reach h s).1)
    ]

    in_made : (x : ℤ) → InSome (made ++ w ∷ []) (x ∷ []) → InInterval z vs x
    in_made x s = elim (in_either made (w ∷ []) (x ∷ []) s) [
      | inl a ↦ m.to_made x a
      | inr b ↦ m.to_last x (is.to x (this_has w (x ∷ []) b))
    ]

    of_made : (x : ℤ) → InInterval z vs x → InSome (made ++ w ∷ []) (x ∷ [])
    of_made x n = elim (m.from x n) [
      | inl a ↦ in_left made (w ∷ []) (x ∷ []) a
      | inr b ↦ in_right made (w ∷ []) (x ∷ []) (in_this w (x ∷ []) (is.from x b))
    ]

    -- the next one lies apart
    pub merging_apart : LiesApart z.period last next → ((u : Interval) → Contains vs u → BeginsBy u next) → IsInterval z next → AreMerging z (vs ++ next ∷ []) (made ++ w ∷ []) next
    merging_apart apart begins i = record {
      valid = valid_more;
      far = far_more;
      begun = next;
      listed = Contains-append_right vs (next ∷ []) next (one_in next);
      begins = refl;
      interval = i;
      below = λ v l x y a b. elim (Contains-append_cases made (w ∷ []) v l) [
        | inl k ↦ m.below v k x y a ((last_begins begins).each y b)
        | inr k ↦ (let n : IsNumber z last x = is.to x (subst (λ q. IsMember q (x ∷ [])) (sym (in_one w v k)) a) in
            let top : x ≤ℤ apart.end = subst (λ e. Within x e) apart.ends n.high in
            let low : apart.start ≤ℤ y = subst (λ e. Above y e) apart.starts b in
            let gap : (apart.end +ℤ pos z.period) <ℤ apart.start = apart.gap in
            omega (arith, ints))
      ];
      to_made = λ x s. interval_left z vs (next ∷ []) x (in_made x s);
      to_last = λ x n. interval_new z vs next x n;
      from = λ x n. elim (interval_either z vs next x n) [
        | inl a ↦ inl (of_made x a)
        | inr b ↦ inr b
      ];
      reach = λ h s. (reach_more h (λ v l. s v (Contains-append_left vs (next ∷ []) v l)), s next (Contains-append_right vs (next ∷ []) next (one_in next)));
    }

    -- there is no other one
    pub merging_end : AreMerged z vs (made ++ w ∷ [])
    merging_end = record { valid = valid_more; far = far_more; to = in_made; from = of_made; reach = reach_more }

-- ---- the list of intervals
-- those before the next one begin by it
pub before_next : (first : Interval) (rest : List Interval) (k : ℕ) (d : Interval) → AllPairs BeginsBy (first ∷ rest) → k < length rest → (u : Interval) → Contains (first ∷ take k rest) u → BeginsBy u (get_or rest k d)
before_next first rest k d all l u h = before BeginsBy (first ∷ rest) (suc k) (get_or rest k d) all (omega arith) (get_or_default rest k d (get_or rest k d) l) u h

pub more_taken : (first : Interval) (rest : List Interval) (k : ℕ) (d : Interval) → k < length rest → first ∷ take (k + 1) rest ≡ (first ∷ take k rest) ++ get_or rest k d ∷ []
more_taken first rest k d l = ap (λ xs. first ∷ xs) (take_more rest k d l)

pub all_taken : (first : Interval) (rest : List Interval) (k : ℕ) → k ≡ length rest → first ∷ take k rest ≡ first ∷ rest
all_taken first rest k e = rw e (ap (λ xs. first ∷ xs) (take-length rest))

pub next_is : (z : ZoneView) (first : Interval) (rest : List Interval) (k : ℕ) (d : Interval) → All (IsInterval z) (first ∷ rest) → k < length rest → IsInterval z (get_or rest k d)
next_is z first rest k d all l = All-contains (IsInterval z) (first ∷ rest) (get_or rest k d) all (later first rest _ (Contains-get_or rest k d l))

pub first_is : (z : ZoneView) (first : Interval) (rest : List Interval) → All (IsInterval z) (first ∷ rest) → IsInterval z first
first_is z first rest all = All-contains (IsInterval z) (first ∷ rest) first all (head_in first rest)

-- an end leaves room for a period
pub end_room : (z : ZoneView) (e : Option ℤ) (p : ℤ) → p ≡ pos z.period → IsIntervalEnd z e → IfSome e (λ most. nat_abs most + nat_abs p ≤ 2 ^ 62)
end_room z None p q h = tt
end_room z (Some a) p q h = let l : nat_abs a + z.period ≤ 2 ^ 62 = h.1 in omega (arith, ints)
