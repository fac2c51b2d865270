-- A cutter is taken away from a zone, bound after bound, and cutters are taken away one after another.
use Rattle.std.proofs.Common.{◌≡◌, ℕ, ◌+◌, ◌<◌, ◌≤◌, ◌⊎◌, ◌^◌, inl, inr, List, [], ◌∷◌, ◌++◌, Option, Some, None, length, get_or, take, arith, refl, sym, subst, ◌∙◌, ap, max, append_assoc, length-append, to_z, of_z, w64}
use Rattle.std.specs.Prelude.{ℤ, pos, nat_abs, neg_ℤ, ◌-ℤ◌, AllPairs, Contains}
use Rattle.std.proofs.lemmas.Int.{ints}
use Rattle.std.proofs.lemmas.List.{append-nil}
use Rattle.std.proofs.lemmas.List.Elements.{Contains-get_or, Contains-append_cases, Contains-append_left, Contains-append_right}
use Rattle.lrp_theory.specs.Bounds.{Within}
use Rattle.lrp_theory.specs.Entries.{entry, node, AtMost}
use Rattle.lrp_model.specs.declared.relations.Bound.{Bound}
use Rattle.lrp_zone.specs.Zones.{ZoneView, IsZone, IsMember, IsTight, columns_of, reach_of}
use Rattle.lrp_zone.specs.Pairs.{HaveNoCommon, IsOfCell, IsWithin}
use Rattle.lrp_store.specs.Settled.{InSome}
use Rattle.lrp_cutting.specs.Cutting.{HaveCommon, side_reach}
use Rattle.lrp_cutting.specs.Differences.{AreOfCell, greatest_reach}
use Rattle.lrp_cutting.specs.Halves.{IsWithinBound, CanBeStored, IsHalf, HasNoHalf, other_side}
use Rattle.lrp_cutting.specs.Leaving.{IsStoredBound, AreBoundsOf, AreFromRow, HasGap, AreLeftOf, AppendsLeft, AreMeeting, IsUndivided}
use Rattle.lrp_cutting.proofs.CutLaws.{cells_moved}
use Rattle.lrp_cutting.proofs.Lists.{before, below_or, greatest_below, in_either, in_left, in_none, in_nothing, in_one, in_right, in_this, one_in, pairs_append, pairs_none, pairs_one, reach_below, this_has}
use Rattle.lrp_cutting.proofs.ThresholdLaws.{own_stored}
use Rattle.lrp_cutting.proofs.UndividedLaws.{either_side, half_undivided, not_both, part_of_part, same_inner, same_outer, undivided_more, whole_undivided}

-- ---- the stored bounds of a zone
none_some : (a : ℤ) → None ≡ Some a → ⊥
none_some a e = cc

module _ (z : ZoneView) (valid : IsZone z) (i j p q : ℕ) (left : p ≡ i) (right : q ≡ j) (il : i ≤ columns_of z) (jl : j ≤ columns_of z) (old bs : List Bound) (s : AreFromRow z i j old bs) where
  some_small : (a : ℤ) → Some a ≡ entry z.bounds i j → nat_abs a ≤ 2 ^ 62
  some_small a e =
      let t : IsTight (pos z.period) (node z.residues i -ℤ node z.residues j) (Some a) = subst (λ x. IsTight (pos z.period) (node z.residues i -ℤ node z.residues j) x) (sym e) (valid.shape.tight i j il jl) in
      let m : AtMost (2 ^ 62) (Some a) = t.1 in
      omega (arith, ints)

  -- one more
  pub row_pushed : (a : ℤ) (new : List Bound) → Some a ≡ entry z.bounds p q → new ≡ bs ++ record { left = i; right = j; most = to_z w64 (of_z w64 a) } ∷ [] → AreFromRow z i (j + 1) old new
  row_pushed a new e h =
      let at : Some a ≡ entry z.bounds i j = subst (λ y. Some a ≡ entry z.bounds i y) right (subst (λ x. Some a ≡ entry z.bounds x q) left e) in
      let small : nat_abs a ≤ 2 ^ 62 = some_small a at in
      let word : to_z w64 (of_z w64 a) ≡ a = omega (arith, ints) in
      let b : Bound = record { left = i; right = j; most = a } in
      let is : IsStoredBound z b = record { left = il; right = jl; is = sym at } in
      subst (λ l. AreFromRow z i (j + 1) old l) (sym (h ∙ ap (λ m. bs ++ record { left = i; right = j; most = m } ∷ []) word)) (record {
        each = λ c l. elim (Contains-append_cases bs (b ∷ []) c l) [
          | inl k ↦ s.each c k
          | inr k ↦ inr (subst (IsStoredBound z) (in_one b c k) is)
        ];
        kept = λ c l. Contains-append_left bs (b ∷ []) c (s.kept c l);
        row = λ c of e lt. elim (below_or c.right j) [
          | inl before ↦ Contains-append_left bs (b ∷ []) c (s.row c of e before)
          | inr here ↦ (let same : c.right ≡ j = omega arith in
              let most : c.most ≡ a = some_eq (sym of.is ∙ subst (λ y. entry z.bounds c.left y ≡ Some a) (sym same) (subst (λ x. entry z.bounds x j ≡ Some a) (sym e) (sym at))) in
              Contains-append_right bs (b ∷ []) c (subst (λ y. Contains (b ∷ []) y) (same_bound c e same most) (one_in b)))
        ];
      })
    where
      some_eq : {x y : ℤ} → Some x ≡ Some y → x ≡ y
      some_eq e = cc

      same_bound : (c : Bound) → c.left ≡ i → c.right ≡ j → c.most ≡ a → record { left = i; right = j; most = a } ≡ c
      same_bound c e f g = ap (λ x. record { left = x; right = j; most = a }) (sym e) ∙ ap (λ x. record { left = c.left; right = x; most = a }) (sym f) ∙ ap (λ x. record { left = c.left; right = c.right; most = x }) (sym g)

  -- none there
  pub row_skipped : None ≡ entry z.bounds p q → AreFromRow z i (j + 1) old bs
  row_skipped e =
      let at : None ≡ entry z.bounds i j = subst (λ y. None ≡ entry z.bounds i y) right (subst (λ x. None ≡ entry z.bounds x q) left e) in record {
        each = s.each;
        kept = s.kept;
        row = λ c of f lt. elim (below_or c.right j) [
          | inl before ↦ s.row c of f before
          | inr here ↦ (let same : c.right ≡ j = omega arith in
              absurd (none_some c.most (at ∙ subst (λ y. entry z.bounds i y ≡ Some c.most) same (subst (λ x. entry z.bounds x c.right ≡ Some c.most) f of.is))))
        ];
      }

-- ---- one cutter
-- both sides of a stored bound of a cutter can be stored, with a magnitude of at most h
pub record HasBothSides (z : ZoneView) (h : ℕ) (b : Bound) : Type 0 where
  pub inner : CanBeStored z b
  pub outer : CanBeStored z (other_side z.period b)
  pub inner_small : nat_abs b.most ≤ h
  pub outer_small : nat_abs (other_side z.period b).most ≤ h

pub both_stored : (z c : ZoneView) (b : Bound) → IsOfCell z c → IsZone c → reach_of c + z.period ≤ 2 ^ 62 → IsStoredBound c b → HasBothSides z (reach_of c + z.period) b
both_stored z c b cell valid room is =
    let ne : b.left ≡ b.right → ⊥ = λ e. none_some b.most (sym (valid.shape.diagonal b.left is.left) ∙ subst (λ j. entry c.bounds b.left j ≡ Some b.most) (sym e) is.is) in
    let s : CanBeStored z b × CanBeStored z (other_side z.period b) × (nat_abs b.most ≤ reach_of c + z.period) × (nat_abs (neg_ℤ b.most -ℤ pos z.period) ≤ reach_of c + z.period) =
    own_stored z c cell valid (reach_of c + z.period) (omega arith) room b.left b.right b.most (subst (λ rs. b.left ≤ length rs) cell.residues is.left) (subst (λ rs. b.right ≤ length rs) cell.residues is.right) ne is.is in
    record { inner = s.0; outer = s.1; inner_small = s.2; outer_small = s.3 }

-- a bound of the cutter's list
pub record AtBound (z c : ZoneView) (b : Bound) : Type 0 where
  pub is : IsStoredBound c b
  pub both : HasBothSides z (max (reach_of z) (reach_of c + z.period)) b

pub at_bound : (z c : ZoneView) (items bs : List Bound) (i : ℕ) → items ≡ bs → AreBoundsOf c bs → IsOfCell z c → IsZone c → reach_of c + z.period ≤ 2 ^ 62 → i < length items → AtBound z c (get_or items i (record { left = 0; right = 0; most = pos 0 }))
at_bound z c items bs i same of cell valid room l =
    let b : Bound = get_or items i (record { left = 0; right = 0; most = pos 0 }) in
    let is : IsStoredBound c b = of.each b (subst (λ x. Contains x b) same (Contains-get_or items i (record { left = 0; right = 0; most = pos 0 }) l)) in
    let both : HasBothSides z (reach_of c + z.period) b = both_stored z c b cell valid room is in
    let low : nat_abs b.most ≤ reach_of c + z.period = both.inner_small in
    let high : nat_abs (other_side z.period b).most ≤ reach_of c + z.period = both.outer_small in
    record {
      is = is;
      both = record { inner = both.inner; outer = both.outer; inner_small = omega arith; outer_small = omega arith };
    }

-- a tuple of a cutter meets each of its bounds
pub met_by : (c : ZoneView) (b : Bound) (xs : List ℤ) → IsStoredBound c b → IsMember c xs → IsWithinBound b xs
met_by c b xs is m = subst (λ e. Within (node xs b.left -ℤ node xs b.right) e) is.is (m.meets b.left b.right is.left is.right)

-- the sides that break one of the first bounds of c, and the rest, which meets them all
pub record IsLeaving (z c : ZoneView) (done : List Bound) (h : ℕ) (sides : List ZoneView) (rest : ZoneView) : Type 0 where
  pub zones : (w : ZoneView) → Contains sides w → IsZone w × IsOfCell z w
  pub to : (xs : List ℤ) → InSome sides xs → IsMember z xs × (IsMember c xs → ⊥)
  pub reach : (w : ZoneView) → Contains sides w → reach_of w ≤ h
  pub valid : IsZone rest
  pub cell : IsOfCell z rest
  pub inside : IsWithin rest z
  pub small : reach_of rest ≤ h
  pub met : (b : Bound) → Contains done b → (xs : List ℤ) → IsMember rest xs → IsWithinBound b xs
  pub disjoint : AllPairs HaveNoCommon sides
  pub apart : (w : ZoneView) → Contains sides w → HaveNoCommon w rest
  pub undivided : (w : ZoneView) → Contains sides w → IsUndivided z (c ∷ []) w
  pub rest_undivided : IsUndivided z (c ∷ []) rest
  pub whole : (xs : List ℤ) → IsMember z xs → InSome sides xs ⊎ IsMember rest xs

pub leaving_none : (z c : ZoneView) (h : ℕ) → IsZone z → reach_of z ≤ h → IsLeaving z c [] h [] z
leaving_none z c h valid small = record {
  zones = λ w l. absurd (in_none w l);
  to = λ xs s. absurd (in_nothing xs s);
  reach = λ w l. absurd (in_none w l);
  valid = valid;
  cell = record { period = refl; residues = refl };
  inside = record { each = λ xs m. m };
  small = small;
  met = λ b l. absurd (in_none b l);
  disjoint = pairs_none HaveNoCommon;
  apart = λ w l. absurd (in_none w l);
  undivided = λ w l. absurd (in_none w l);
  rest_undivided = whole_undivided z (c ∷ []);
  whole = λ xs m. inr m;
}

module _ (z c : ZoneView) (done : List Bound) (h : ℕ) (sides : List ZoneView) (rest : ZoneView) (zone : IsZone z) (of_cell : IsOfCell z c) (valid : IsZone c) (s : IsLeaving z c done h sides rest) (b : Bound) (is : IsStoredBound c b) (both : HasBothSides z h b) where
  rest_side : (xs : List ℤ) → IsMember rest xs → IsWithinBound b xs ⊎ IsWithinBound (other_side z.period b) xs
  rest_side xs m = either_side z b xs zone both.inner (s.inside.each xs m)

  one_more : (xs : List ℤ) → ((a : Bound) → Contains done a → IsWithinBound a xs) → IsWithinBound b xs → (a : Bound) → Contains (done ++ b ∷ []) a → IsWithinBound a xs
  one_more xs f m a l = elim (Contains-append_cases done (b ∷ []) a l) [
    | inl k ↦ f a k
    | inr k ↦ subst (λ y. IsWithinBound y xs) (in_one b a k) m
  ]

  -- nothing of the rest breaks the bound
  pub leaving_same : HasNoHalf rest (other_side z.period b) → IsLeaving z c (done ++ b ∷ []) h sides rest
  leaving_same stop = record {
    zones = s.zones;
    to = s.to;
    reach = s.reach;
    valid = s.valid;
    cell = s.cell;
    inside = s.inside;
    small = s.small;
    met = λ a l xs m. one_more xs (λ y k. s.met y k xs m)
        (elim (rest_side xs m) [
          | inl i ↦ i
          | inr o ↦ absurd (stop.none xs m o)
        ]) a l;
    disjoint = s.disjoint;
    apart = s.apart;
    undivided = s.undivided;
    rest_undivided = s.rest_undivided;
    whole = s.whole;
  }

  -- a side breaks it
  module _ (side : ZoneView) (half : IsHalf rest (other_side z.period b) side) where
    side_zone : IsZone side × IsOfCell z side
    side_zone = (half.valid, record { period = half.cell.period ∙ s.cell.period; residues = half.cell.residues ∙ s.cell.residues })

    more_zones : (w : ZoneView) → Contains (sides ++ side ∷ []) w → IsZone w × IsOfCell z w
    more_zones w l = elim (Contains-append_cases sides (side ∷ []) w l) [
      | inl a ↦ s.zones w a
      | inr a ↦ subst (λ y. IsZone y × IsOfCell z y) (in_one side w a) side_zone
    ]

    more_to : (xs : List ℤ) → InSome (sides ++ side ∷ []) xs → IsMember z xs × (IsMember c xs → ⊥)
    more_to xs t = elim (in_either sides (side ∷ []) xs t) [
      | inl a ↦ s.to xs a
      | inr a ↦ (
          let m : IsMember side xs = this_has side xs a in
          (s.inside.each xs (half.to xs m).0, λ k. not_both z.period b xs zone.shape.period_low (met_by c b xs is k) (half.to xs m).1)
          )
    ]

    more_reach : (w : ZoneView) → Contains (sides ++ side ∷ []) w → reach_of w ≤ h
    more_reach w l = elim (Contains-append_cases sides (side ∷ []) w l) [
      | inl a ↦ s.reach w a
      | inr a ↦ subst (λ y. reach_of y ≤ h) (in_one side w a) (let r : reach_of side ≤ max (reach_of rest) (nat_abs (other_side z.period b).most) = half.reach in let q : nat_abs (other_side z.period b).most ≤ h = both.outer_small in let e : reach_of rest ≤ h = s.small in omega arith)
    ]

    more_whole : (xs : List ℤ) → IsMember z xs → InSome (sides ++ side ∷ []) xs ⊎ (IsMember rest xs × IsWithinBound b xs)
    more_whole xs m = elim (s.whole xs m) [
      | inl a ↦ inl (in_left sides (side ∷ []) xs a)
      | inr r ↦ elim (rest_side xs r) [
        | inl i ↦ inr (r, i)
        | inr o ↦ inl (in_right sides (side ∷ []) xs (in_this side xs (half.from xs r o)))
      ]
    ]

    more_disjoint : AllPairs HaveNoCommon (sides ++ side ∷ [])
    more_disjoint = pairs_append HaveNoCommon sides (side ∷ []) s.disjoint (pairs_one HaveNoCommon side)
        (λ u w ul wl. record { none = λ xs i k. (s.apart u ul).none xs i (half.to xs (subst (λ y. IsMember y xs) (sym (in_one side w wl)) k)).0 })

    more_undivided : (w : ZoneView) → Contains (sides ++ side ∷ []) w → IsUndivided z (c ∷ []) w
    more_undivided w l = elim (Contains-append_cases sides (side ∷ []) w l) [
      | inl a ↦ s.undivided w a
      | inr a ↦ subst (IsUndivided z (c ∷ [])) (in_one side w a) (half_undivided z rest side (c ∷ []) (other_side z.period b) s.inside.each s.rest_undivided half (same_outer z c b zone of_cell valid is both.inner))
    ]

    -- and the rest meets it
    pub leaving_more : (inner : ZoneView) → IsHalf rest b inner → IsLeaving z c (done ++ b ∷ []) h (sides ++ side ∷ []) inner
    leaving_more inner in_half = record {
      zones = more_zones;
      to = more_to;
      reach = more_reach;
      valid = in_half.valid;
      cell = record { period = in_half.cell.period ∙ s.cell.period; residues = in_half.cell.residues ∙ s.cell.residues };
      inside = record { each = λ xs m. s.inside.each xs (in_half.to xs m).0 };
      small = (let r : reach_of inner ≤ max (reach_of rest) (nat_abs b.most) = in_half.reach in let q : nat_abs b.most ≤ h = both.inner_small in let e : reach_of rest ≤ h = s.small in omega arith);
      met = λ a l xs m. one_more xs (λ y k. s.met y k xs (in_half.to xs m).0) (in_half.to xs m).1 a l;
      disjoint = more_disjoint;
      apart = λ w l. record {
        none = λ xs i k. elim (Contains-append_cases sides (side ∷ []) w l) [
          | inl a ↦ (s.apart w a).none xs i (in_half.to xs k).0
          | inr a ↦ not_both z.period b xs zone.shape.period_low (in_half.to xs k).1 (half.to xs (subst (λ y. IsMember y xs) (sym (in_one side w a)) i)).1
        ];
      };
      undivided = more_undivided;
      rest_undivided = half_undivided z rest inner (c ∷ []) b s.inside.each s.rest_undivided in_half (same_inner z c b zone of_cell valid is both.inner);
      whole = λ xs m. elim (more_whole xs m) [
        | inl a ↦ inl a
        | inr a ↦ inr (in_half.from xs a.0 a.1)
      ];
    }

    -- or nothing of the rest does
    pub leaving_early : HasNoHalf rest b → AreLeftOf z (z ∷ []) (c ∷ []) h (sides ++ side ∷ [])
    leaving_early stop = record {
      zones = more_zones;
      disjoint = more_disjoint;
      undivided = more_undivided;
      to = λ xs t. (in_this z xs (more_to xs t).0, λ k. (more_to xs t).1 (this_has c xs k));
      from = λ xs t out. elim (more_whole xs (this_has z xs t)) [
        | inl a ↦ a
        | inr a ↦ absurd (stop.none xs a.0 a.1)
      ];
      reach = more_reach;
    }

-- what meets all bounds of the cutter is in it
pub leaving_late : (z c : ZoneView) (bs : List Bound) (h : ℕ) (sides : List ZoneView) (rest : ZoneView) → IsOfCell z c → AreBoundsOf c bs → IsLeaving z c bs h sides rest → AreLeftOf z (z ∷ []) (c ∷ []) h sides
leaving_late z c bs h sides rest cell of s = record {
  zones = s.zones;
  disjoint = s.disjoint;
  undivided = s.undivided;
  to = λ xs t. (in_this z xs (s.to xs t).0, λ k. (s.to xs t).1 (this_has c xs k));
  from = λ xs t out. elim (s.whole xs (this_has z xs t)) [
    | inl a ↦ a
    | inr r ↦ absurd (out (in_this c xs (in_cutter xs (s.inside.each xs r) (λ b l. s.met b l xs r))))
  ];
  reach = s.reach;
}
  where
    at_place : (xs : List ℤ) (i j : ℕ) (e : Option ℤ) → entry c.bounds i j ≡ e → i ≤ columns_of c → j ≤ columns_of c → ((b : Bound) → Contains bs b → IsWithinBound b xs) → Within (node xs i -ℤ node xs j) e
    at_place xs i j None q il jl f = tt
    at_place xs i j (Some a) q il jl f = f (record { left = i; right = j; most = a }) (of.all (record { left = i; right = j; most = a }) (record { left = il; right = jl; is = q }))

    in_cutter : (xs : List ℤ) → IsMember z xs → ((b : Bound) → Contains bs b → IsWithinBound b xs) → IsMember c xs
    in_cutter xs m f = record {
      cell = record {
        count = m.cell.count ∙ sym (ap length cell.residues);
        each = λ i il. rw (cell.period, cell.residues) (m.cell.each i (subst (λ rs. i ≤ length rs) cell.residues il));
      };
      meets = λ i j il jl. at_place xs i j (entry c.bounds i j) refl il jl f;
    }

-- ---- cutters that are met
pub meeting_none : (z : ZoneView) → AreMeeting z [] []
meeting_none z = record {
  listed = λ w l. l;
  whole = λ xs m s. s;
  few = omega arith;
  fewer = λ w l. absurd (in_none w l);
}

module _ (z c : ZoneView) (done met : List ZoneView) (m : AreMeeting z done met) where
  more_length : length (done ++ c ∷ []) ≡ length done + 1
  more_length = omega (arith, length-append {A = ZoneView})

  pub meeting_more : HaveCommon z c → AreMeeting z (done ++ c ∷ []) (met ++ c ∷ [])
  meeting_more h = record {
    listed = λ w l. elim (Contains-append_cases met (c ∷ []) w l) [
      | inl k ↦ Contains-append_left done (c ∷ []) w (m.listed w k)
      | inr k ↦ Contains-append_right done (c ∷ []) w k
    ];
    whole = λ xs i s. elim (in_either done (c ∷ []) xs s) [
      | inl k ↦ in_left met (c ∷ []) xs (m.whole xs i k)
      | inr k ↦ in_right met (c ∷ []) xs k
    ];
    few = (let f : length met ≤ length done = m.few in omega (arith, length-append {A = ZoneView}));
    fewer = λ w l apart. elim (Contains-append_cases done (c ∷ []) w l) [
      | inl k ↦ (let f : length met < length done = m.fewer w k apart in omega (arith, length-append {A = ZoneView}))
      | inr k ↦ absurd (apart.none h.common h.left (subst (λ y. IsMember y h.common) (in_one c w k) h.right))
    ];
  }

  pub meeting_same : (HaveCommon z c → ⊥) → AreMeeting z (done ++ c ∷ []) met
  meeting_same apart = record {
    listed = λ w l. Contains-append_left done (c ∷ []) w (m.listed w l);
    whole = λ xs i s. elim (in_either done (c ∷ []) xs s) [
      | inl k ↦ m.whole xs i k
      | inr k ↦ absurd (apart (record { common = xs; left = i; right = this_has c xs k }))
    ];
    few = (let f : length met ≤ length done = m.few in omega (arith, length-append {A = ZoneView}));
    fewer = λ w l k. (let f : length met ≤ length done = m.few in omega (arith, length-append {A = ZoneView}));
  }

-- ---- gaps
-- each side of the part that is left by a cutter lies in the part
module _ (z c : ZoneView) (h : ℕ) (sides cutters : List ZoneView) (here : Contains cutters c) (left : AreLeftOf z (z ∷ []) (c ∷ []) h sides) where
  module _ (w : ZoneView) (l : Contains sides w) (met : List ZoneView) (m : AreMeeting w cutters met) where
    -- the side meets fewer cutters, since not this one
    pub meets_fewer : length met < length cutters
    meets_fewer = m.fewer c here (record { none = λ xs a b. (left.to xs (record { zone = w; listed = l; inside = a })).1 (in_this c xs b) })

    pub side_in : (xs : List ℤ) → IsMember w xs → IsMember z xs
    side_in xs a = this_has z xs (left.to xs (record { zone = w; listed = l; inside = a })).0

    -- a gap of a side is one of the part
    pub gap_found : HasGap w met → HasGap z cutters
    gap_found g = record { tuple = g.tuple; inside = side_in g.tuple g.inside; none = λ s. g.none (m.whole g.tuple g.inside s) }

    -- where a side has none, each tuple of it is in a cutter or not
    pub no_gap : (HasGap w met → ⊥) → HasGap w cutters → ⊥
    no_gap out g = out (record { tuple = g.tuple; inside = g.inside; none = λ s. g.none (record { zone = s.zone; listed = m.listed s.zone s.listed; inside = s.inside }) })

    pub cells_met : AreOfCell z cutters → AreOfCell w met
    cells_met cells = record { each = λ v k. (cells_moved z w cutters (left.zones w l).1 cells).each v (m.listed v k) }

    pub reach_met : greatest_reach met ≤ greatest_reach cutters
    reach_met = greatest_below met (greatest_reach cutters) (λ v k. reach_below cutters v (m.listed v k))

    -- so one can go on with the side and the cutters that it meets
    pub goes_on : (given : List ZoneView) → given ≡ met → AreOfCell z cutters → side_reach z.period cutters ≤ 2 ^ 62 → (length given < length cutters) × AreOfCell w given × (side_reach w.period given ≤ 2 ^ 62)
    goes_on given e cells room =
        let less : greatest_reach met ≤ greatest_reach cutters = reach_met in
        let period : w.period ≡ z.period = (left.zones w l).1.period in
        let top : greatest_reach cutters + z.period ≤ 2 ^ 62 = room in
        let low : greatest_reach met + w.period ≤ 2 ^ 62 = omega (arith, less, period, top) in
        subst (λ x. (length x < length cutters) × AreOfCell w x × (side_reach w.period x ≤ 2 ^ 62)) (sym e) (meets_fewer, cells_met cells, low)

  -- no side has a gap
  pub no_gap_left : ((w : ZoneView) → Contains sides w → HasGap w cutters → ⊥) → HasGap z cutters → ⊥
  no_gap_left each g =
      let s : InSome sides g.tuple = left.from g.tuple (in_this z g.tuple g.inside) (λ k. g.none (record { zone = c; listed = here; inside = this_has c g.tuple k })) in
      each s.zone s.listed (record { tuple = g.tuple; inside = s.inside; none = g.none })

-- without cutters each tuple is a gap
pub all_gap : (z : ZoneView) (cutters : List ZoneView) → IsZone z → length cutters ≡ 0 → HasGap z cutters
all_gap z cutters valid none = record { tuple = valid.some.member; inside = valid.some.is; none = λ s. let l : s.listed.0 < length cutters = s.listed.1 in absurd (omega arith) }

-- ---- pieces
pub left_whole : (z : ZoneView) (cutters : List ZoneView) (h : ℕ) (old : List ZoneView) → IsZone z → length cutters ≡ 0 → reach_of z ≤ h → AppendsLeft z (z ∷ []) cutters h old (old ++ z ∷ [])
left_whole z cutters h old valid none small = record {
  pieces = z ∷ [];
  appended = refl;
  left = record {
    zones = λ w l. subst (λ y. IsZone y × IsOfCell z y) (in_one z w l) (valid, record { period = refl; residues = refl });
    disjoint = pairs_one HaveNoCommon z;
    undivided = λ w l. subst (IsUndivided z cutters) (in_one z w l) (whole_undivided z cutters);
    to = λ xs s. (s, λ k. let l : k.listed.0 < length cutters = k.listed.1 in absurd (omega arith));
    from = λ xs s out. s;
    reach = λ w l. subst (λ y. reach_of y ≤ h) (in_one z w l) small;
  };
}

pub left_start : (z : ZoneView) (cutters : List ZoneView) (h : ℕ) (old : List ZoneView) → AppendsLeft z [] cutters h old old
left_start z cutters h old = record {
  pieces = [];
  appended = sym (append-nil old);
  left = record {
    zones = λ w l. absurd (in_none w l);
    disjoint = pairs_none HaveNoCommon;
    undivided = λ w l. absurd (in_none w l);
    to = λ xs s. absurd (in_nothing xs s);
    from = λ xs s out. s;
    reach = λ w l. absurd (in_none w l);
  };
}

-- what is left of one side more, where it is known among the cutters that it meets
pub left_more : (z w : ZoneView) (ps cutters met : List ZoneView) (h : ℕ) (old mid new : List ZoneView) → IsOfCell z w → IsUndivided z cutters w → ((xs : List ℤ) → InSome ps xs → IsMember w xs → ⊥) → AreMeeting w cutters met → AppendsLeft z ps cutters h old mid → AppendsLeft w (w ∷ []) met h mid new → AppendsLeft z (ps ++ w ∷ []) cutters h old new
left_more z w ps cutters met h old mid new cell whole apart m a b = record {
  pieces = a.pieces ++ b.pieces;
  appended = b.appended ∙ ap (λ l. l ++ b.pieces) a.appended ∙ append_assoc old a.pieces b.pieces;
  left = record {
    zones = λ v l. elim (Contains-append_cases a.pieces b.pieces v l) [
      | inl k ↦ a.left.zones v k
      | inr k ↦ ((b.left.zones v k).0, record { period = (b.left.zones v k).1.period ∙ cell.period; residues = (b.left.zones v k).1.residues ∙ cell.residues })
    ];
    disjoint = pairs_append HaveNoCommon a.pieces b.pieces a.left.disjoint b.left.disjoint
        (λ u v ul vl. record { none = λ xs i k. apart xs (a.left.to xs (record { zone = u; listed = ul; inside = i })).0 (this_has w xs (b.left.to xs (record { zone = v; listed = vl; inside = k })).0) });
    undivided = λ v l. elim (Contains-append_cases a.pieces b.pieces v l) [
      | inl k ↦ a.left.undivided v k
      | inr k ↦ part_of_part z w cutters met v cell m.listed (λ xs i. this_has w xs (b.left.to xs (record { zone = v; listed = k; inside = i })).0) whole (b.left.undivided v k)
    ];
    to = λ xs s. elim (in_either a.pieces b.pieces xs s) [
      | inl k ↦ (in_left ps (w ∷ []) xs (a.left.to xs k).0, (a.left.to xs k).1)
      | inr k ↦ (in_right ps (w ∷ []) xs (b.left.to xs k).0, λ o. (b.left.to xs k).1 (m.whole xs (this_has w xs (b.left.to xs k).0) o))
    ];
    from = λ xs s out. elim (in_either ps (w ∷ []) xs s) [
      | inl k ↦ in_left a.pieces b.pieces xs (a.left.from xs k out)
      | inr k ↦ in_right a.pieces b.pieces xs (b.left.from xs k (λ o. out (record { zone = o.zone; listed = m.listed o.zone o.listed; inside = o.inside })))
    ];
    reach = λ v l. elim (Contains-append_cases a.pieces b.pieces v l) [
      | inl k ↦ a.left.reach v k
      | inr k ↦ b.left.reach v k
    ];
  };
}

-- what is left of all sides of a cutter is what is left of the part
pub left_all : (z c : ZoneView) (g h : ℕ) (sides cutters old new : List ZoneView) → Contains cutters c → AreLeftOf z (z ∷ []) (c ∷ []) g sides → AppendsLeft z sides cutters h old new → AppendsLeft z (z ∷ []) cutters h old new
left_all z c g h sides cutters old new here side a = record {
  pieces = a.pieces;
  appended = a.appended;
  left = record {
    zones = a.left.zones;
    disjoint = a.left.disjoint;
    undivided = a.left.undivided;
    to = λ xs s. ((side.to xs (a.left.to xs s).0).0, (a.left.to xs s).1);
    from = λ xs s out. a.left.from xs (side.from xs s (λ k. out (record { zone = c; listed = here; inside = this_has c xs k }))) out;
    reach = a.left.reach;
  };
}

-- what is appended to nothing is all that is left
pub left_alone : (z : ZoneView) (parts cutters : List ZoneView) (h : ℕ) (old new : List ZoneView) → old ≡ [] → AppendsLeft z parts cutters h old new → AreLeftOf z parts cutters h new
left_alone z parts cutters h old new none a = subst (λ l. AreLeftOf z parts cutters h l) (sym (a.appended ∙ ap (λ l. l ++ a.pieces) none)) a.left

-- a side is apart from those before it
pub side_apart : (sides : List ZoneView) (i : ℕ) (w : ZoneView) → AllPairs HaveNoCommon sides → i < length sides → w ≡ get_or sides i w → (xs : List ℤ) → InSome (take i sides) xs → IsMember w xs → ⊥
side_apart sides i w disjoint l e xs s m = (before HaveNoCommon sides i w disjoint l e s.zone s.listed).none xs s.inside m

-- and no threshold of the cutters divides it, since none of its own cutter does
pub side_undivided : (z c : ZoneView) (g : ℕ) (sides cutters : List ZoneView) (w : ZoneView) → Contains cutters c → AreLeftOf z (z ∷ []) (c ∷ []) g sides → Contains sides w → IsUndivided z cutters w
side_undivided z c g sides cutters w here left l = undivided_more z cutters (c ∷ []) w (λ v k. subst (Contains cutters) (in_one c v k) here) (left.undivided w l)
