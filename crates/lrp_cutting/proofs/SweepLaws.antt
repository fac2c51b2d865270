-- An interval is swept: what is in none of other intervals, which are in order.
use Rattle.std.proofs.Common.{◌≡◌, ℕ, get_or, take, ◌+◌, ◌<◌, ◌≤◌, ◌^◌, ◌⊎◌, inl, inr, List, [], ◌∷◌, ◌++◌, Option, Some, None, length, arith, refl, sym, subst, ◌∙◌, ap}
use Rattle.std.specs.Prelude.{ℤ, pos, ◌-ℤ◌, ◌≤ℤ◌, ◌↔◌, Contains, All, AllPairs, map}
use Rattle.std.specs.List.Sorted.{IsPermutation}
use Rattle.std.proofs.lemmas.Int.{ints, by_lt_z}
use Rattle.std.proofs.lemmas.List.{get_or-take, get_or_default, length-take, take_more}
use Rattle.std.proofs.lemmas.List.Elements.{All-contains, Contains-append_cases, Contains-append_left, Contains-append_right, Contains-get_or}
use Rattle.lrp_theory.specs.Bounds.{Within}
use Rattle.lrp_theory.specs.Entries.{entry}
use Rattle.lrp_matrix.specs.Ranges.{Above, negation}
use Rattle.lrp_model.specs.declared.relations.Bound.{Bound}
use Rattle.lrp_zone.specs.Zones.{ZoneView, IsZone, IsMember, columns_of, reach_of}
use Rattle.lrp_zone.specs.Pairs.{IsOfCell}
use Rattle.lrp_store.specs.Settled.{InSome}
use Rattle.lrp_store.proofs.Unions.{one_number}
use Rattle.lrp_cutting.specs.declared.intervals.Interval.{Interval}
use Rattle.lrp_cutting.specs.Differences.{AreOfCell, greatest_reach}
use Rattle.lrp_cutting.specs.Gaps.{AppendsSpan, AreGaps, HasNoEndWithin, HaveNoNumber, IsPartAbove, IsPartBelow, LieOnOneSide}
use Rattle.lrp_cutting.specs.Intervals.{BeginsBy, HasSmallEnds, InInterval, IsInterval, IsNumber, IsIntervalZone, IsStoredInterval, span_of}
use Rattle.lrp_cutting.specs.Halves.{CanBeStored, IsWithinBound}
use Rattle.lrp_cutting.specs.Leaving.{AreLeftOf, IsStoredBound, LieAlike}
use Rattle.lrp_cutting.proofs.LeavingLaws.{both_stored}
use Rattle.lrp_cutting.proofs.LineLaws.{ends_small, number_from, number_to, span_in}
use Rattle.lrp_cutting.proofs.Lists.{below_or, in_either, in_left, in_none, in_nothing, in_one, in_right, in_this, one_in, pairs_append, pairs_none, pairs_one, reach_below, this_has}
use Rattle.lrp_cutting.proofs.MergeLaws.{interval_either, interval_left, interval_new}
use Rattle.lrp_cutting.proofs.SpanLaws.{low_from, low_to, span_from, span_small, span_to}
use Rattle.lrp_cutting.proofs.UndividedLaws.{alike_back, alike_fewer, same_inner}

-- of the numbers of v those that are in none of the intervals swept so far: what is made of them, and what is left
pub record AreSwept (z : ZoneView) (v : Interval) (done : List Interval) (made : List ZoneView) (left : ℤ → Type 0) : Type 0 where
  pub valid : (w : ZoneView) → Contains made w → IsZone w × IsOfCell z w
  pub passed : (x : ℤ) → InSome made (x ∷ []) → (u : Interval) × Contains done u × (Above x u.least → ⊥)
  pub to_made : (x : ℤ) → InSome made (x ∷ []) → IsNumber z v x × (InInterval z done x → ⊥)
  pub to_left : (x : ℤ) → left x → IsNumber z v x × (InInterval z done x → ⊥)
  pub from : (x : ℤ) → IsNumber z v x → (InInterval z done x → ⊥) → InSome made (x ∷ []) ⊎ left x
  pub disjoint : AllPairs HaveNoNumber made
  pub apart : (w : ZoneView) → Contains made w → (x : ℤ) → IsMember w (x ∷ []) → left x → ⊥
  pub undivided : (w : ZoneView) → Contains made w → HasNoEndWithin z v done (λ x. IsMember w (x ∷ []))
  pub rest_undivided : HasNoEndWithin z v done left
  pub reach : (g h : ℕ) → h + z.period ≤ g → HasSmallEnds g v → ((u : Interval) → Contains done u → HasSmallEnds h u) → (w : ZoneView) → Contains made w → reach_of w ≤ g

-- and what is left is an interval
pub record AreSweeping (z : ZoneView) (v : Interval) (done : List Interval) (made : List ZoneView) (rest : Interval) : Type 0 where
  pub swept : AreSwept z v done made (IsNumber z rest)
  pub interval : IsStoredInterval z rest
  pub small : (g h : ℕ) → h + z.period ≤ g → HasSmallEnds g v → ((u : Interval) → Contains done u → HasSmallEnds h u) → HasSmallEnds g rest

decided_above : (d : ℤ) (e : Option ℤ) → Above d e ⊎ (Above d e → ⊥)
decided_above d None = inl tt
decided_above d (Some a) = by_lt_z d a (λ lt. inr (λ le. absurd (omega (arith, ints)))) (λ le. inl le)

in_no_interval : (z : ZoneView) (x : ℤ) → InInterval z [] x → ⊥
in_no_interval z x i = in_none i.interval i.listed

pub sweeping_start : (z : ZoneView) (v : Interval) → IsStoredInterval z v → AreSweeping z v [] [] v
sweeping_start z v i = record {
  swept = record {
    valid = λ w l. absurd (in_none w l);
    passed = λ x s. absurd (in_nothing (x ∷ []) s);
    to_made = λ x s. absurd (in_nothing (x ∷ []) s);
    to_left = λ x n. (n, λ d. in_no_interval z x d);
    from = λ x n out. inr n;
    disjoint = pairs_none HaveNoNumber;
    apart = λ w l. absurd (in_none w l);
    undivided = λ w l. absurd (in_none w l);
    rest_undivided = λ x y n m s. m;
    reach = λ g h room sv s w l. absurd (in_none w l);
  };
  interval = i;
  small = λ g h room sv s. sv;
}

-- ---- one interval more
module _ (z : ZoneView) (low : Option Interval) (made new : List ZoneView) (a : AppendsSpan z low made new) where
  old_in : (x : ℤ) → InSome made (x ∷ []) → InSome new (x ∷ [])
  old_in x s = elim a.is [
    | inl e ↦ subst (λ l. InSome l (x ∷ [])) (sym e.1) s
    | inr e ↦ subst (λ l. InSome l (x ∷ [])) (sym e.2.2) (in_left made (e.2.0 ∷ []) (x ∷ []) s)
  ]

  part_in : (u : Interval) → low ≡ Some u → (x : ℤ) → IsNumber z u x → InSome new (x ∷ [])
  part_in u q x n = elim a.is [
    | inl e ↦ absurd (cc (e.0, q))
    | inr e ↦ (let same : u ≡ e.0 = cc (e.1, q) in
        subst (λ l. InSome l (x ∷ [])) (sym e.2.2) (in_right made (e.2.0 ∷ []) (x ∷ []) (in_this e.2.0 (x ∷ []) (e.2.1.from x (subst (λ i. IsNumber z i x) same n)))))
  ]

  new_in : (x : ℤ) → InSome new (x ∷ []) → InSome made (x ∷ []) ⊎ ((u : Interval) × (low ≡ Some u) × IsNumber z u x)
  new_in x s = elim a.is [
    | inl e ↦ inl (subst (λ l. InSome l (x ∷ [])) e.1 s)
    | inr e ↦ elim (in_either made (e.2.0 ∷ []) (x ∷ []) (subst (λ l. InSome l (x ∷ [])) e.2.2 s)) [
      | inl b ↦ inl b
      | inr b ↦ inr (e.0, e.1, e.2.1.to x (this_has e.2.0 (x ∷ []) b))
    ]
  ]

  each_new : (P : ZoneView → Type 0) → ((w : ZoneView) → Contains made w → P w) → ((u : Interval) → low ≡ Some u → (w : ZoneView) → IsIntervalZone z u w → P w) → (w : ZoneView) → Contains new w → P w
  each_new P old fresh w l = elim a.is [
    | inl e ↦ old w (subst (λ ws. Contains ws w) e.1 l)
    | inr e ↦ elim (Contains-append_cases made (e.2.0 ∷ []) w (subst (λ ws. Contains ws w) e.2.2 l)) [
      | inl k ↦ old w k
      | inr k ↦ subst P (in_one e.2.0 w k) (fresh e.0 e.1 e.2.0 e.2.1)
    ]
  ]

-- what lies on one side of all ends lies so for fewer
fewer_ends : (done all : List Interval) (x y : ℤ) → ((u : Interval) → Contains done u → Contains all u) → LieOnOneSide all x y → LieOnOneSide done x y
fewer_ends done all x y of s = record { low = λ u l. s.low u (of u l); high = λ u l. s.high u (of u l) }

-- no number is below an interval and above it
not_beside : (z : ZoneView) (c : Interval) (x : ℤ) → IsInterval z c → (Above x c.least → ⊥) → (Within x c.most → ⊥) → ⊥
not_beside z c x is below above = beside c.least c.most is.is.low is.is.high below above
  where
    beside : (a b : Option ℤ) → Above is.number a → Within is.number b → (Above x a → ⊥) → (Within x b → ⊥) → ⊥
    beside None b l h f g = f tt
    beside (Some a) None l h f g = g tt
    beside (Some a) (Some b) l h f g = by_lt_z x a (λ lt. absurd (g (omega (arith, ints)))) (λ le. absurd (f le))

module _ (z : ZoneView) (v : Interval) (done : List Interval) (made : List ZoneView) (rest c : Interval) (m : AreSweeping z v done made rest) (ci : IsInterval z c) (begins : (u : Interval) → Contains done u → BeginsBy u c)
    (low : Option Interval) (lp : IsPartBelow z rest c low) (new : List ZoneView) (a : AppendsSpan z low made new) where
  all_small : (h : ℕ) → ((u : Interval) → Contains (done ++ c ∷ []) u → HasSmallEnds h u) → (u : Interval) → Contains done u → HasSmallEnds h u
  all_small h s u l = s u (Contains-append_left done (c ∷ []) u l)

  -- what is below the next one
  below_it : (u : Interval) → low ≡ Some u → (x : ℤ) → IsNumber z u x → IsNumber z v x × (InInterval z (done ++ c ∷ []) x → ⊥)
  below_it u q x n =
      let p : IsNumber z rest x × (Above x c.least → ⊥) = lp.to u q x n in
      let f : IsNumber z v x × (InInterval z done x → ⊥) = m.swept.to_left x p.0 in (
        f.0,
        λ i. elim (interval_either z done c x i) [ inl d ↦ f.1 d | inr d ↦ p.1 d.low ],
      )

  still_made : (x : ℤ) → InSome made (x ∷ []) → IsNumber z v x × (InInterval z (done ++ c ∷ []) x → ⊥)
  still_made x s =
      let f : IsNumber z v x × (InInterval z done x → ⊥) = m.swept.to_made x s in
      let p : (u : Interval) × Contains done u × (Above x u.least → ⊥) = m.swept.passed x s in (
        f.0,
        λ i. elim (interval_either z done c x i) [ inl d ↦ f.1 d | inr d ↦ p.2 ((begins p.0 p.1).each x d.low) ],
      )

  -- on the same side of the ends of those before, and of the next one
  sides_before : (x y : ℤ) → LieOnOneSide (done ++ c ∷ []) x y → LieOnOneSide done x y
  sides_before x y s = fewer_ends done (done ++ c ∷ []) x y (λ u l. Contains-append_left done (c ∷ []) u l) s

  next_listed : Contains (done ++ c ∷ []) c
  next_listed = Contains-append_right done (c ∷ []) c (one_in c)

  still_disjoint : AllPairs HaveNoNumber new
  still_disjoint = elim a.is [
    | inl e ↦ subst (AllPairs HaveNoNumber) (sym e.1) m.swept.disjoint
    | inr e ↦ subst (AllPairs HaveNoNumber) (sym e.2.2) (pairs_append HaveNoNumber made (e.2.0 ∷ []) m.swept.disjoint (pairs_one HaveNoNumber e.2.0)
        (λ u w ul wl x inu inw. m.swept.apart u ul x inu (lp.to e.0 e.1 x (e.2.1.to x (subst (λ y. IsMember y (x ∷ [])) (sym (in_one e.2.0 w wl)) inw))).0))
  ]

  still_apart : (w : ZoneView) → Contains new w → (x : ℤ) → IsMember w (x ∷ []) → IsNumber z rest x × (Within x c.most → ⊥) → ⊥
  still_apart = each_new z low made new a (λ w. (x : ℤ) → IsMember w (x ∷ []) → IsNumber z rest x × (Within x c.most → ⊥) → ⊥)
      (λ w l x i n. m.swept.apart w l x i n.0)
      (λ u q w is x i n. not_beside z c x ci (lp.to u q x (is.to x i)).1 n.1)

  below_whole : (u : Interval) → low ≡ Some u → (w : ZoneView) → IsIntervalZone z u w → HasNoEndWithin z v (done ++ c ∷ []) (λ x. IsMember w (x ∷ []))
  below_whole u q w is x y i n s =
      let p : IsNumber z rest x × (Above x c.least → ⊥) = lp.to u q x (is.to x i) in
      let at : IsNumber z rest y = m.swept.rest_undivided x y p.0 n (sides_before x y s) in
      let f : (t : Interval) × (low ≡ Some t) × IsNumber z t y = lp.from y at (λ above. p.1 ((s.low c next_listed).1 above)) in
      let same : f.0 ≡ u = cc (f.1, q) in
      is.from y (subst (λ t. IsNumber z t y) same f.2)

  pub swept_more : AreSwept z v (done ++ c ∷ []) new (λ x. IsNumber z rest x × (Within x c.most → ⊥))
  swept_more = record {
    disjoint = still_disjoint;
    apart = still_apart;
    undivided = each_new z low made new a (λ w. HasNoEndWithin z v (done ++ c ∷ []) (λ x. IsMember w (x ∷ [])))
        (λ w l x y i n s. m.swept.undivided w l x y i n (sides_before x y s)) below_whole;
    rest_undivided = λ x y p n s. (m.swept.rest_undivided x y p.0 n (sides_before x y s), λ within. p.1 ((s.high c next_listed).1 within));
    valid = each_new z low made new a (λ w. IsZone w × IsOfCell z w) m.swept.valid (λ u q w s. (s.valid, s.cell));
    passed = λ x s. elim (new_in z low made new a x s) [
      | inl o ↦ (let p : (u : Interval) × Contains done u × (Above x u.least → ⊥) = m.swept.passed x o in (p.0, Contains-append_left done (c ∷ []) p.0 p.1, p.2))
      | inr o ↦ (c, Contains-append_right done (c ∷ []) c (one_in c), (lp.to o.0 o.1 x o.2).1)
    ];
    to_made = λ x s. elim (new_in z low made new a x s) [ inl o ↦ still_made x o | inr o ↦ below_it o.0 o.1 x o.2 ];
    to_left = λ x n.
        let f : IsNumber z v x × (InInterval z done x → ⊥) = m.swept.to_left x n.0 in
        (f.0, λ i. elim (interval_either z done c x i) [ inl d ↦ f.1 d | inr d ↦ n.1 d.high ]);
    from = λ x n out. elim (m.swept.from x n (λ d. out (interval_left z done (c ∷ []) x d))) [
      | inl s ↦ inl (old_in z low made new a x s)
      | inr l ↦ elim (decided_above x c.least) [
        | inl above ↦ inr (l, λ within. out (interval_new z done c x (record { residue = l.residue; low = above; high = within })))
        | inr not ↦ (let p : (u : Interval) × (low ≡ Some u) × IsNumber z u x = lp.from x l not in inl (part_in z low made new a p.0 p.1 x p.2))
      ]
    ];
    reach = λ g h room sv s. each_new z low made new a (λ w. reach_of w ≤ g) (m.swept.reach g h room sv (all_small h s))
        (λ u q w is. is.reach g (lp.small u q g h room (m.small g h room sv (all_small h s)) (s c (Contains-append_right done (c ∷ []) c (one_in c)))));
  }

  -- something is left above it
  pub sweeping_more : (part : Option Interval) (left : Interval) → IsPartAbove z rest c part → part ≡ Some left → AreSweeping z v (done ++ c ∷ []) new left
  sweeping_more part left ap e = record {
    swept = record {
      valid = swept_more.valid;
      passed = swept_more.passed;
      to_made = swept_more.to_made;
      disjoint = swept_more.disjoint;
      apart = λ w l x i n. swept_more.apart w l x i (ap.to left e x n);
      undivided = swept_more.undivided;
      rest_undivided = λ x y p n s.
          let q = swept_more.rest_undivided x y (ap.to left e x p) n s in
          let f : (u : Interval) × (part ≡ Some u) × IsNumber z u y = ap.from y q.0 q.1 in
          let same : f.0 ≡ left = cc (f.1, e) in subst (λ i. IsNumber z i y) same f.2;
      to_left = λ x n. swept_more.to_left x (ap.to left e x n);
      from = λ x n out. elim (swept_more.from x n out) [
        | inl s ↦ inl s
        | inr l ↦ (let p : (u : Interval) × (part ≡ Some u) × IsNumber z u x = ap.from x l.0 l.1 in
            let same : p.0 ≡ left = cc (p.1, e) in inr (subst (λ i. IsNumber z i x) same p.2))
      ];
      reach = swept_more.reach;
    };
    interval = ap.interval left e;
    small = λ g h room sv s. ap.small left e g h room (m.small g h room sv (all_small h s)) (s c (Contains-append_right done (c ∷ []) c (one_in c)));
  }

  -- nothing is left above it, and each other one begins no sooner
  pub sweeping_over : (part : Option Interval) → IsPartAbove z rest c part → part ≡ None → (all : List Interval) → ((u : Interval) → Contains (done ++ c ∷ []) u → Contains all u)
      → ((u : Interval) → Contains all u → Contains (done ++ c ∷ []) u ⊎ ((d : Interval) → Contains (done ++ c ∷ []) d → BeginsBy d u)) → AreGaps z v all new
  sweeping_over part ap e all of over = record {
    valid = swept_more.valid;
    disjoint = swept_more.disjoint;
    undivided = λ w l x y i n s. swept_more.undivided w l x y i n (fewer_ends (done ++ c ∷ []) all x y of s);
    to = λ x s.
        let f : IsNumber z v x × (InInterval z (done ++ c ∷ []) x → ⊥) = swept_more.to_made x s in
        let p : (u : Interval) × Contains (done ++ c ∷ []) u × (Above x u.least → ⊥) = swept_more.passed x s in (
          f.0,
          λ i. elim (over i.interval i.listed) [
            | inl l ↦ f.1 (record { interval = i.interval; listed = l; is = i.is })
            | inr b ↦ p.2 ((b p.0 p.1).each x i.is.low)
          ],
        );
    from = λ x n out. elim (swept_more.from x n (λ d. out (record { interval = d.interval; listed = of d.interval d.listed; is = d.is }))) [
      | inl s ↦ s
      | inr l ↦ (let p : (u : Interval) × (part ≡ Some u) × IsNumber z u x = ap.from x l.0 l.1 in absurd (cc (p.1, e)))
    ];
    reach = λ g h room sv s. swept_more.reach g h room sv (λ u l. s u (of u l));
  }

-- all of them are passed
pub sweeping_end : (z : ZoneView) (v : Interval) (cuts : List Interval) (made : List ZoneView) (rest : Interval) (w : ZoneView) → AreSweeping z v cuts made rest → IsIntervalZone z rest w → AreGaps z v cuts (made ++ w ∷ [])
sweeping_end z v cuts made rest w m is = record {
  valid = λ y l. elim (Contains-append_cases made (w ∷ []) y l) [
    | inl k ↦ m.swept.valid y k
    | inr k ↦ subst (λ q. IsZone q × IsOfCell z q) (in_one w y k) (is.valid, is.cell)
  ];
  disjoint = pairs_append HaveNoNumber made (w ∷ []) m.swept.disjoint (pairs_one HaveNoNumber w)
      (λ u y ul yl x inu iny. m.swept.apart u ul x inu (is.to x (subst (λ q. IsMember q (x ∷ [])) (sym (in_one w y yl)) iny)));
  undivided = λ y l. elim (Contains-append_cases made (w ∷ []) y l) [
    | inl k ↦ m.swept.undivided y k
    | inr k ↦ subst (λ q. HasNoEndWithin z v cuts (λ x. IsMember q (x ∷ []))) (in_one w y k) (λ p q i n s. is.from q (m.swept.rest_undivided p q (is.to p i) n s))
  ];
  to = λ x s. elim (in_either made (w ∷ []) (x ∷ []) s) [
    | inl b ↦ m.swept.to_made x b
    | inr b ↦ m.swept.to_left x (is.to x (this_has w (x ∷ []) b))
  ];
  from = λ x n out. elim (m.swept.from x n out) [
    | inl s ↦ in_left made (w ∷ []) (x ∷ []) s
    | inr l ↦ in_right made (w ∷ []) (x ∷ []) (in_this w (x ∷ []) (is.from x l))
  ];
  reach = λ g h room sv s y l. elim (Contains-append_cases made (w ∷ []) y l) [
    | inl k ↦ m.swept.reach g h room sv s y k
    | inr k ↦ subst (λ q. reach_of q ≤ g) (in_one w y k) (is.reach g (m.small g h room sv s))
  ];
}

-- ---- the list of intervals
pub taken_in : (cuts : List Interval) (n : ℕ) (u : Interval) → Contains (take n cuts) u → Contains cuts u
taken_in cuts n u l =
    let short : l.0 < length (take n cuts) = l.1 in
    (l.0, omega (arith, length-take n cuts), sym (get_or-take n cuts l.0 u (omega (arith, length-take n cuts))) ∙ l.2)

pub taken_or_after : (cuts : List Interval) (n : ℕ) → AllPairs BeginsBy cuts → (u : Interval) → Contains cuts u → Contains (take n cuts) u ⊎ ((d : Interval) → Contains (take n cuts) d → BeginsBy d u)
unfolding taken_in
taken_or_after cuts n order u l =
    let long : l.0 < length cuts = l.1 in
    elim (below_or l.0 n) [
      | inl lt ↦ inl (l.0, omega (arith, length-take n cuts), get_or-take n cuts l.0 u lt ∙ l.2)
      | inr ge ↦ inr (λ d k.
          let c : Contains cuts d = taken_in cuts n d k in
          let short : k.0 < length (take n cuts) = k.1 in
          let first : k.0 < length cuts = c.1 in
          let b : BeginsBy (get_or cuts k.0 u) (get_or cuts l.0 u) = order k.0 l.0 u (omega (arith, length-take n cuts)) long in
          subst (λ y. BeginsBy y u) (get_or_default cuts k.0 u d first ∙ c.2) (subst (λ y. BeginsBy (get_or cuts k.0 u) y) l.2 b))
    ]

-- nothing is left above one of them, so the ones after it take nothing away
pub all_swept : (z : ZoneView) (v : Interval) (cuts : List Interval) (i : ℕ) → AllPairs BeginsBy cuts → i < length cuts → (made : List ZoneView) (rest d : Interval) → AreSweeping z v (take i cuts) made rest → IsInterval z (get_or cuts i d)
    → ((u : Interval) → Contains (take i cuts) u → BeginsBy u (get_or cuts i d)) → (low : Option Interval) → IsPartBelow z rest (get_or cuts i d) low → (new : List ZoneView) → AppendsSpan z low made new
    → (part : Option Interval) → IsPartAbove z rest (get_or cuts i d) part → part ≡ None → AreGaps z v cuts new
all_swept z v cuts i order lt made rest d m ci begins low lp new a part ap e =
    let more : take (i + 1) cuts ≡ take i cuts ++ get_or cuts i d ∷ [] = take_more cuts i d lt in
    sweeping_over z v (take i cuts) made rest (get_or cuts i d) m ci begins low lp new a part ap e cuts
    (λ u l. taken_in cuts (i + 1) u (subst (λ xs. Contains xs u) (sym more) l))
    (λ u l. subst (λ xs. Contains xs u ⊎ ((d : Interval) → Contains xs d → BeginsBy d u)) more (taken_or_after cuts (i + 1) order u l))

-- ---- what is left of a zone
-- numbers that lie alike for the cutters are on the same side of each end of their intervals
module _ (z : ZoneView) (one : columns_of z ≡ 1) (valid : IsZone z) (cutters : List ZoneView) (cells : AreOfCell z cutters) (valids : All IsZone cutters) (cuts : List Interval) (moved : IsPermutation (map span_of cutters) cuts)
    (room : greatest_reach cutters + z.period ≤ 2 ^ 62) (x y : ℤ) (mx : IsMember z (x ∷ [])) (my : IsMember z (y ∷ [])) (a : LieAlike z cutters (x ∷ []) (y ∷ [])) where
  same_bound : (c : ZoneView) → Contains cutters c → (b : Bound) → IsStoredBound c b → IsWithinBound b (x ∷ []) ↔ IsWithinBound b (y ∷ [])
  same_bound c l b is =
      let cell : IsOfCell z c = cells.each c l in
      let own : IsZone c = All-contains IsZone cutters c valids l in
      let low : reach_of c ≤ greatest_reach cutters = reach_below cutters c l in
      let can : CanBeStored z b = (both_stored z c b cell own (omega arith) is).inner in
      let here : (v : ZoneView) → Contains (c ∷ []) v → Contains cutters v = λ v k. subst (Contains cutters) (in_one c v k) l in (
        same_inner z c b valid cell own is can (x ∷ []) (y ∷ []) mx my (alike_fewer z cutters (c ∷ []) (x ∷ []) (y ∷ []) here a),
        same_inner z c b valid cell own is can (y ∷ []) (x ∷ []) my mx (alike_fewer z cutters (c ∷ []) (y ∷ []) (x ∷ []) here (alike_back z cutters (x ∷ []) (y ∷ []) a)),
      )

  one_column : (c : ZoneView) → Contains cutters c → columns_of c ≡ 1
  one_column c l = ap length (cells.each c l).residues ∙ one

  same_low : (c : ZoneView) → Contains cutters c → (e : Option ℤ) → entry c.bounds 0 1 ≡ e → Above x (negation e) ↔ Above y (negation e)
  same_low c l None q = (λ h. tt, λ h. tt)
  same_low c l (Some b) q =
      let s = same_bound c l (record { left = 0; right = 1; most = b }) (record { left = omega arith; right = omega (arith, one_column c l); is = q }) in
      (λ h. low_to y (Some b) (s.0 (low_from x (Some b) h)), λ h. low_to x (Some b) (s.1 (low_from y (Some b) h)))

  same_high : (c : ZoneView) → Contains cutters c → (e : Option ℤ) → entry c.bounds 1 0 ≡ e → Within x e ↔ Within y e
  same_high c l None q = (λ h. tt, λ h. tt)
  same_high c l (Some b) q =
      let s = same_bound c l (record { left = 1; right = 0; most = b }) (record { left = omega (arith, one_column c l); right = omega arith; is = q }) in
      (λ h. line_within y b (s.0 (within_line x b h)), λ h. line_within x b (s.1 (within_line y b h)))
    where
      within_line : (n b : ℤ) → n ≤ℤ b → (n -ℤ pos 0) ≤ℤ b
      within_line n b l = omega (arith, ints)

      line_within : (n b : ℤ) → (n -ℤ pos 0) ≤ℤ b → n ≤ℤ b
      line_within n b l = omega (arith, ints)

  pub one_sided : LieOnOneSide cuts x y
  one_sided = record {
    low = λ u l. let s = span_in z one cutters cells valids cuts moved u l in subst (λ v. Above x v.least ↔ Above y v.least) s.2 (same_low s.0 s.1 (entry s.0.bounds 0 1) refl);
    high = λ u l. let s = span_in z one cutters cells valids cuts moved u l in subst (λ v. Within x v.most ↔ Within y v.most) s.2 (same_high s.0 s.1 (entry s.0.bounds 1 0) refl);
  }

pub gaps_left : (z : ZoneView) (one : columns_of z ≡ 1) (valid : IsZone z) (cutters : List ZoneView) (cells : AreOfCell z cutters) (valids : All IsZone cutters) (cuts : List Interval) (moved : IsPermutation (map span_of cutters) cuts)
    (made : List ZoneView) → greatest_reach (z ∷ cutters) + z.period ≤ 2 ^ 62 → AreGaps z (span_of z) cuts made → AreLeftOf z (z ∷ []) cutters (greatest_reach (z ∷ cutters) + z.period) made
gaps_left z one valid cutters cells valids cuts moved made room g = record {
  zones = g.valid;
  disjoint = λ i j d il jl. record {
    none = λ xs a b.
        let n : (x : ℤ) × (xs ≡ x ∷ []) = one_number xs (a.cell.count ∙ ap length (g.valid (get_or made i d) (Contains-get_or made i d (omega arith))).1.residues ∙ one) in
        g.disjoint i j d il jl n.0 (subst (IsMember (get_or made i d)) n.1 a) (subst (IsMember (get_or made j d)) n.1 b);
  };
  undivided = λ w l. record {
    each = λ xs ys m k a.
        let n : (x : ℤ) × (xs ≡ x ∷ []) = one_number xs (m.cell.count ∙ ap length (g.valid w l).1.residues ∙ one) in
        let o : (y : ℤ) × (ys ≡ y ∷ []) = one_number ys (k.cell.count ∙ one) in
        let mn : IsMember w (n.0 ∷ []) = subst (IsMember w) n.1 m in
        let ko : IsMember z (o.0 ∷ []) = subst (IsMember z) o.1 k in
        let mz : IsMember z (n.0 ∷ []) = span_from z valid one n.0 (g.to n.0 (record { zone = w; listed = l; inside = mn })).0 in
        let b : LieAlike z cutters (n.0 ∷ []) (o.0 ∷ []) = subst (λ t. LieAlike z cutters (n.0 ∷ []) t) o.1 (subst (λ t. LieAlike z cutters t ys) n.1 a) in
        subst (IsMember w) (sym o.1) (g.undivided w l n.0 o.0 mn (span_to z valid one o.0 ko) (one_sided z one valid cutters cells valids cuts moved (omega arith) n.0 o.0 mz ko b));
  };
  to = λ xs s.
      let n : (x : ℤ) × (xs ≡ x ∷ []) = one_number xs (s.inside.cell.count ∙ ap length (g.valid s.zone s.listed).1.residues ∙ one) in
      let f : IsNumber z (span_of z) n.0 × (InInterval z cuts n.0 → ⊥) = g.to n.0 (subst (InSome made) n.1 s) in (
        in_this z xs (subst (IsMember z) (sym n.1) (span_from z valid one n.0 f.0)),
        λ c. f.1 (number_from z one cutters cells valids cuts moved n.0 (subst (InSome cutters) n.1 c)),
      );
  from = λ xs s out.
      let m : IsMember z xs = this_has z xs s in
      let n : (x : ℤ) × (xs ≡ x ∷ []) = one_number xs (m.cell.count ∙ one) in
      subst (InSome made) (sym n.1) (g.from n.0 (span_to z valid one n.0 (subst (IsMember z) n.1 m)) (λ i. out (subst (InSome cutters) (sym n.1) (number_to z one cutters cells valids cuts moved n.0 i))));
  reach = λ w l.
      let own : reach_of z ≤ greatest_reach (z ∷ cutters) = reach_below (z ∷ cutters) z (0, omega arith, refl) in
      g.reach (greatest_reach (z ∷ cutters) + z.period) (greatest_reach cutters) (omega arith) (span_small z valid one _ (omega arith)) (ends_small z one cutters cells valids cuts moved) w l;
}
