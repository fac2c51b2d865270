-- Zones of which each comes before the next one are an antichain, and not one zone where a value lies between two of them.
use Rattle.std.proofs.Common.{◌≡◌, ℕ, zero, suc, ◌+◌, ◌-◌, ◌*◌, ◌<◌, ◌≤◌, ◌⊎◌, inl, inr, List, [], ◌∷◌, ◌++◌, Option, Some, None, length, get_or, arith, refl, sym, subst, ◌∙◌, ap}
use Rattle.std.specs.Prelude.{ℤ, pos, neg_ℤ, ◌+ℤ◌, ◌-ℤ◌, ◌≤ℤ◌, ◌<ℤ◌, Contains, slice_get}
use Rattle.std.specs.List.Sorted.{IsPermutation}
use Rattle.std.proofs.lemmas.Int.{ints, by_lt_z}
use Rattle.std.proofs.lemmas.List.Elements.{Contains-get_or}
use Rattle.std.proofs.lemmas.Option.{slice_get-get_or, slice_get_within, get_or_from_slice_get}
use Rattle.lrp_theory.specs.Bounds.{Within}
use Rattle.lrp_theory.specs.Divides.{Divides}
use Rattle.lrp_theory.specs.Entries.{entry, node}
use Rattle.lrp_theory.proofs.Below.{within_less}
use Rattle.lrp_theory.proofs.Lists.{listed, node-listed}
use Rattle.lrp_theory.proofs.Modulo.{Divides-+, Divides--, Divides-is, Divides-self}
use Rattle.lrp_matrix.specs.Ranges.{Above}
use Rattle.lrp_zone.specs.Order.{at, IsAfter}
use Rattle.lrp_zone.specs.Pairs.{IsOfCell}
use Rattle.lrp_zone.specs.Zones.{ZoneView, IsZone, IsMember, IsTight, columns_of, reach_of}
use Rattle.lrp_zone.proofs.Members.{list_member}
use Rattle.lrp_store.specs.Settled.{InSome, AreIncomparable, AreOneZone, IsAntichain}
use Rattle.lrp_cutting.specs.Differences.{AreOfCell, greatest_reach}
use Rattle.lrp_cutting.specs.Settling.{IsSettlement, IsSmallZone}
use Rattle.lrp_cutting.specs.Turns.{AreZonesApart, AreAtPlaces, AreInTurnTo, ArePartedTo, AreSideBySide, LiesBefore, HaveOneValue, HaveValueBetween, IsReordered, LiesBetween, StandApart}
use Rattle.lrp_cutting.specs.Windows.{AreWindowsTo, IsBefore, IsWindowOf}
use Rattle.lrp_cutting.specs.declared.windows.CutterWindow.{CutterWindow as Window}
use Rattle.lrp_cutting.proofs.LineLaws.{small_zone}
use Rattle.lrp_cutting.proofs.Lists.{below_or, got_in, one_in, one_of, reach_below, this_has}
use Rattle.lrp_cutting.proofs.SettlingLaws.{same_cell, times_more}
use Rattle.lrp_cutting.proofs.WindowLaws.{windows_moved}

-- ---- the order of tuples
three : (p q : ℕ) → (q < p) ⊎ ((q ≡ p) ⊎ (p < q))
three p q = grind arith

-- what comes after what comes after a tuple comes after it
after_trans : (n : ℕ) (xs ys zs : List ℤ) → IsAfter n xs ys → IsAfter n ys zs → IsAfter n xs zs
after_trans n xs ys zs a b = elim (three a.place b.place) [
  | inl l ↦ record {
    place = b.place;
    low = b.low;
    from = record {
      same = λ i h. b.from.same i h ∙ a.from.same i (omega arith);
      more = λ h. subst (λ x. x <ℤ at zs b.place) (a.from.same b.place l) (b.from.more h);
    };
  }
  | inr r ↦ record {
    place = a.place;
    low = a.low;
    from = record {
      same = λ i h. b.from.same i (elim r [ inl e ↦ omega arith | inr g ↦ omega arith ]) ∙ a.from.same i h;
      more = λ h.
          let up : at xs a.place <ℤ at ys a.place = a.from.more h in
          elim r [
            | inl e ↦ (let on : at ys a.place <ℤ at zs a.place = subst (λ p. at ys p <ℤ at zs p) e (b.from.more b.low) in omega (arith, ints))
            | inr g ↦ subst (λ z. at xs a.place <ℤ z) (sym (b.from.same a.place g)) up
          ];
    };
  }
]

-- no tuple comes after itself
not_after : (n : ℕ) (xs : List ℤ) → IsAfter n xs xs → ⊥
not_after n xs a = let l : at xs a.place <ℤ at xs a.place = a.from.more a.low in absurd (omega (arith, ints))

-- the first value of one that comes after is no less
first_below : (n : ℕ) (xs ys : List ℤ) → IsAfter n xs ys → at xs 0 ≤ℤ at ys 0
first_below n xs ys a = elim (below_or 0 a.place) [
  | inl l ↦ (let e : at ys 0 ≡ at xs 0 = a.from.same 0 l in omega (arith, ints))
  | inr g ↦ (
      let z : a.place ≡ 0 = omega arith in
      let l : at xs 0 <ℤ at ys 0 = subst (λ p. at xs p <ℤ at ys p) z (a.from.more a.low) in
      omega (arith, ints))
]

-- ---- windows
-- an end before a start parts the values
ends_before : (x y : ℤ) (end start : Option ℤ) → IsBefore end start → Within x end → Above y start → x <ℤ y
ends_before x y end start b w a = by_lt_z x y (λ l. l) (λ l. absurd (b.none y (within_less y x end l w) a))

-- two ends that are one value leave that value
one_value : (x value : ℤ) (least most : Option ℤ) → least ≡ Some value → most ≡ Some value → Above x least → Within x most → x ≡ value
one_value x value least most e f a w =
    let low : value ≤ℤ x = subst (Above x) e a in
    let high : x ≤ℤ value = subst (Within x) f w in
    omega (arith, ints)

module _ (v w : ZoneView) (i : ℕ) (one two : Window) (first : IsWindowOf v (i + 1) one) (second : IsWindowOf w (i + 1) two) where
  -- the node of a column has its value
  at_node : (xs : List ℤ) → node xs (i + 1) ≡ at xs i
  at_node xs = let e : i + 1 ≡ suc i = omega arith in ap (node xs) e

  -- after equal values one before the other decides
  pub before_here : IsZone v → IsZone w → i < columns_of v → ((xs ys : List ℤ) → IsMember v xs → IsMember w ys → (j : ℕ) → j < i → at ys j ≡ at xs j) → IsBefore one.most two.least → LiesBefore v w
  before_here valid other l same b = record {
    first = valid;
    second = other;
    after = λ xs ys m n. record {
      place = i;
      low = l;
      from = record {
        same = same xs ys m n;
        more = λ h. ends_before (at xs i) (at ys i) one.most two.least b (subst (λ x. Within x one.most) (at_node xs) (first.each xs m).high) (subst (λ x. Above x two.least) (at_node ys) (second.each ys n).low);
      };
    };
  }

  -- one more column has one value
  pub same_more : HaveOneValue one two → (xs ys : List ℤ) → IsMember v xs → IsMember w ys → at ys i ≡ at xs i
  same_more o xs ys m n =
      let a : node xs (i + 1) ≡ o.value = one_value (node xs (i + 1)) o.value one.least one.most o.low o.high (first.each xs m).low (first.each xs m).high in
      let b : node ys (i + 1) ≡ o.value = one_value (node ys (i + 1)) o.value two.least two.most o.other_low o.other_high (second.each ys n).low (second.each ys n).high in
      sym (at_node ys) ∙ b ∙ sym a ∙ at_node xs

-- ---- a value between two zones
-- a stored bound on the first column has its residue
tight_there : (v : ZoneView) (most : ℤ) → IsZone v → 0 < columns_of v → Some most ≡ entry v.bounds 1 0 → Divides (pos v.period) (most -ℤ (node v.residues 1 -ℤ node v.residues 0))
tight_there v most valid some e =
    let t : IsTight (pos v.period) (node v.residues 1 -ℤ node v.residues 0) (Some most) = subst (IsTight (pos v.period) (node v.residues 1 -ℤ node v.residues 0)) (sym e) (valid.shape.tight 1 0 (omega arith) (omega arith)) in
    t.0

-- the number a period above a tight bound on the first column
pub between_is : (v w : ZoneView) (most below : ℤ) → IsZone v → 0 < columns_of v → 0 < columns_of w → Some most ≡ entry v.bounds 1 0 → Some below ≡ entry w.bounds 0 1 → (most +ℤ pos v.period) <ℤ neg_ℤ below → LiesBetween v w (most +ℤ pos v.period)
between_is v w most below valid some other e f gap = record {
  fits =
      let t : Divides (pos v.period) (most -ℤ (node v.residues 1 -ℤ node v.residues 0)) = tight_there v most valid some e in
      Divides-is (pos v.period) ((most -ℤ (node v.residues 1 -ℤ pos 0)) +ℤ pos v.period) _ (omega (arith, ints)) (Divides-+ (pos v.period) _ _ t (Divides-self (pos v.period)));
  above = λ xs m.
      let high : (at xs 0 -ℤ pos 0) ≤ℤ most = subst (Within (at xs 0 -ℤ pos 0)) (sym e) (m.meets 1 0 (omega arith) (omega arith)) in
      let p : 0 < v.period = valid.shape.period_low in
      omega (arith, ints);
  below = λ ys m.
      let low : (pos 0 -ℤ at ys 0) ≤ℤ below = subst (Within (pos 0 -ℤ at ys 0)) (sym f) (m.meets 0 1 (omega arith) (omega arith)) in
      omega (arith, ints);
}

-- ---- turns
same_read : (zones : List ZoneView) (i : ℕ) (x y : ZoneView) → slice_get zones i ≡ Some x → slice_get zones i ≡ Some y → x ≡ y
same_read zones i x y a b = cc (a, b)

pub turns_none : (zones : List ZoneView) → AreInTurnTo zones 1
turns_none zones = record { each = λ place v w l b. absurd (omega arith) }

-- one more zone is in turn
pub turns_more : (zones : List ZoneView) (n : ℕ) (v w : ZoneView) → 0 < n → slice_get zones (n - 1) ≡ Some v → slice_get zones n ≡ Some w → LiesBefore v w → AreInTurnTo zones n → AreInTurnTo zones (n + 1)
turns_more zones n v w some a b c t = record {
  each = λ place x y l s. elim (below_or (place + 1) n) [
    | inl h ↦ t.each place x y h s
    | inr g ↦ (
        let p : place ≡ n - 1 = omega arith in
        let q : place + 1 ≡ n = omega arith in
        let e : v ≡ x = same_read zones (n - 1) v x a (subst (λ k. slice_get zones k ≡ Some x) p s.first) in
        let f : w ≡ y = same_read zones n w y b (subst (λ k. slice_get zones k ≡ Some y) q s.second) in
        subst (λ u. LiesBefore u y) e (subst (LiesBefore v) f c))
  ];
}

-- two of them stand apart
pub parted_here : (zones : List ZoneView) (n : ℕ) (v w : ZoneView) → 0 < n → slice_get zones (n - 1) ≡ Some v → slice_get zones n ≡ Some w → HaveValueBetween v w → ArePartedTo zones (n + 1)
parted_here zones n v w some a b h = record {
  place = n - 1;
  inside = omega arith;
  first = v;
  second = w;
  beside = record { first = a; second = (let q : n - 1 + 1 ≡ n = omega arith in ap (slice_get zones) q ∙ b) };
  between = h;
}

pub parted_more : (zones : List ZoneView) (n : ℕ) → ArePartedTo zones n → ArePartedTo zones (n + 1)
parted_more zones n p = record { place = p.place; inside = (let l : p.place + 1 < n = p.inside in omega arith); first = p.first; second = p.second; beside = p.beside; between = p.between }

-- as far as a place from which on there are none
pub apart_to : (zones : List ZoneView) (n : ℕ) → length zones ≤ n → AreInTurnTo zones n → ArePartedTo zones n → StandApart zones
apart_to zones n l t p = record {
  turns = record { each = λ place v w h s. t.each place v w (omega arith) s };
  parted = record { place = p.place; inside = slice_get_within zones (p.place + 1) p.second p.beside.second; first = p.first; second = p.second; beside = p.beside; between = p.between };
}

-- ---- the lesser of two numbers
record IsLesserOf (a b m : ℤ) : Type 0 where
  left : m ≤ℤ a
  right : m ≤ℤ b
  one : (m ≡ a) ⊎ (m ≡ b)

lesser : (a b : ℤ) → (m : ℤ) × IsLesserOf a b m
lesser a b = by_lt_z a b
    (λ l. (a, record { left = omega (arith, ints); right = omega (arith, ints); one = inl refl }))
    (λ l. (b, record { left = omega (arith, ints); right = omega (arith, ints); one = inr refl }))

-- ---- zones that stand apart
module _ (f : ZoneView) (zones : List ZoneView) (cells : AreOfCell f zones) (more : 1 < columns_of f) (apart : StandApart zones) where
  -- the zones at two places side by side
  beside_at : (i : ℕ) (d : ZoneView) → i + 1 < length zones → AreSideBySide zones i (get_or zones i d) (get_or zones (i + 1) d)
  beside_at i d l = record { first = slice_get-get_or zones i d (omega arith); second = slice_get-get_or zones (i + 1) d l }

  turn_at : (i : ℕ) (d : ZoneView) → i + 1 < length zones → LiesBefore (get_or zones i d) (get_or zones (i + 1) d)
  turn_at i d l = apart.turns.each i (get_or zones i d) (get_or zones (i + 1) d) l (beside_at i d l)

  -- each of them is a zone of the cell
  valid_at : (i : ℕ) (d : ZoneView) → i < length zones → IsZone (get_or zones i d)
  valid_at zero d l = (turn_at 0 d (let p : apart.parted.place + 1 < length zones = apart.parted.inside in omega arith)).first
  valid_at (suc i) d l = let e : i + 1 ≡ suc i = omega arith in subst (λ k. IsZone (get_or zones k d)) e (turn_at i d (omega arith)).second

  columns_at : (i : ℕ) (d : ZoneView) → i < length zones → columns_of (get_or zones i d) ≡ columns_of f
  columns_at i d l = ap length (cells.each (get_or zones i d) (Contains-get_or zones i d l)).residues

  valid : (z : ZoneView) → Contains zones z → IsZone z
  valid z h = subst IsZone h.2 (valid_at h.0 z h.1)

  -- the tuples of a zone come before those of each one after it
  before : (i j : ℕ) (d : ZoneView) → i < j → j < length zones → (xs ys : List ℤ) → IsMember (get_or zones i d) xs → IsMember (get_or zones j d) ys → IsAfter (columns_of f) xs ys
  before i zero d l h = absurd (omega arith)
  before i (suc j) d l h = λ xs ys m n.
      let e : j + 1 ≡ suc j = omega arith in
      let t : LiesBefore (get_or zones j d) (get_or zones (suc j) d) = subst (λ k. LiesBefore (get_or zones j d) (get_or zones k d)) e (turn_at j d (omega arith)) in
      let c : columns_of (get_or zones j d) ≡ columns_of f = columns_at j d (omega arith) in
      elim (below_or i j) [
        | inl lt ↦ (
            let v : IsZone (get_or zones j d) = valid_at j d (omega arith) in
            after_trans (columns_of f) xs v.some.member ys (before i j d lt (omega arith) xs v.some.member m v.some.is)
            (subst (λ k. IsAfter k v.some.member ys) c (t.after v.some.member ys v.some.is n)))
        | inr le ↦ (
            let same : i ≡ j = omega arith in
            subst (λ k. IsAfter k xs ys) c (t.after xs ys (subst (λ k. IsMember (get_or zones k d) xs) same m) n))
      ]

  -- so none lies within another one
  antichain : IsAntichain zones
  antichain i j d l h =
      let v = valid_at i d (omega arith) in
      let w = valid_at j d h in
      record {
        forth = λ k. not_after (columns_of f) v.some.member (before i j d l h v.some.member v.some.member v.some.is (k.each v.some.member v.some.is));
        back = λ k. not_after (columns_of f) w.some.member (before i j d l h w.some.member w.some.member (k.each w.some.member w.some.is) w.some.is);
      }

  -- no zone has the value in its first column
  no_value : (value : ℤ) (v w : ZoneView) (place : ℕ) → place + 1 < length zones → AreSideBySide zones place v w → LiesBetween v w value → (qs : List ℤ) → InSome zones qs → at qs 0 ≡ value → ⊥
  no_value value v w place inside beside between qs s e =
      let d : ZoneView = s.zone in
      let v_at : get_or zones place d ≡ v = get_or_from_slice_get zones place v d beside.first in
      let w_at : get_or zones (place + 1) d ≡ w = get_or_from_slice_get zones (place + 1) w d beside.second in
      let k = s.listed.0 in
      let own : IsMember (get_or zones k d) qs = subst (λ z. IsMember z qs) (sym s.listed.2) s.inside in
      elim (below_or k (place + 1)) [
        | inl l ↦ elim (below_or k place) [
          | inl lt ↦ (
              let m : IsZone v = subst IsZone v_at (valid_at place d (omega arith)) in
              let after : IsAfter (columns_of f) qs m.some.member = before k place d lt (omega arith) qs m.some.member own (subst (λ z. IsMember z m.some.member) (sym v_at) m.some.is) in
              let low : at qs 0 ≤ℤ at m.some.member 0 = first_below (columns_of f) qs m.some.member after in
              let high : at m.some.member 0 <ℤ value = between.above m.some.member m.some.is in
              absurd (omega (arith, ints)))
          | inr ge ↦ (
              let same : k ≡ place = omega arith in
              let high : at qs 0 <ℤ value = between.above qs (subst (λ z. IsMember z qs) v_at (subst (λ i. IsMember (get_or zones i d) qs) same own)) in
              absurd (omega (arith, ints)))
        ]
        | inr g ↦ elim (below_or (place + 1) k) [
          | inl lt ↦ (
              let m : IsZone w = subst IsZone w_at (valid_at (place + 1) d (omega arith)) in
              let after : IsAfter (columns_of f) m.some.member qs = before (place + 1) k d lt s.listed.1 m.some.member qs (subst (λ z. IsMember z m.some.member) (sym w_at) m.some.is) own in
              let high : at m.some.member 0 ≤ℤ at qs 0 = first_below (columns_of f) m.some.member qs after in
              let low : value <ℤ at m.some.member 0 = between.below m.some.member m.some.is in
              absurd (omega (arith, ints)))
          | inr ge ↦ (
              let same : k ≡ place + 1 = omega arith in
              let low : value <ℤ at qs 0 = between.below qs (subst (λ z. IsMember z qs) w_at (subst (λ i. IsMember (get_or zones i d) qs) same own)) in
              absurd (omega (arith, ints)))
        ]
      ]

  -- one zone that holds tuples of both sides has the value
  module _ (w : ZoneView) (is : IsZone w) (xs ys : List ℤ) (xm : IsMember w xs) (ym : IsMember w ys) (value : ℤ) (fits : Divides (pos w.period) (value -ℤ node w.residues 1)) (some : 0 < columns_of w) (low : at xs 0 <ℤ value) (high : value <ℤ at ys 0) where
    -- how far the value is above that of the first tuple
    abbrev step : ℤ
    step = value -ℤ at xs 0

    -- it is a multiple of the period
    step_fits : Divides (pos w.period) step
    step_fits = Divides-is (pos w.period) ((value -ℤ node w.residues 1) -ℤ (node xs 1 -ℤ node w.residues 1)) _ (omega (arith, ints)) (Divides-- (pos w.period) _ _ fits (xm.cell.each 1 (omega arith)))

    -- the lesser of the first tuple moved so far, and of the second one
    abbrev moved : ℕ → ℤ
    moved i = (lesser (node xs i +ℤ step) (node ys i)).0

    moved_is : (i : ℕ) → IsLesserOf (node xs i +ℤ step) (node ys i) (moved i)
    moved_is i = (lesser (node xs i +ℤ step) (node ys i)).1

    moved_meets : (i j : ℕ) → i < columns_of w + 1 → j < columns_of w + 1 → Within (moved i -ℤ moved j) (entry w.bounds i j)
    moved_meets i j il jl =
        let p : IsLesserOf (node xs i +ℤ step) (node ys i) (moved i) = moved_is i in
        let q : IsLesserOf (node xs j +ℤ step) (node ys j) (moved j) = moved_is j in
        let a : moved i ≤ℤ (node xs i +ℤ step) = p.left in
        let b : moved i ≤ℤ node ys i = p.right in
        elim q.one [
          | inl e ↦ within_less (moved i -ℤ moved j) (node xs i -ℤ node xs j) (entry w.bounds i j) (let g : moved j ≡ node xs j +ℤ step = e in omega (arith, ints)) (xm.meets i j (omega arith) (omega arith))
          | inr e ↦ within_less (moved i -ℤ moved j) (node ys i -ℤ node ys j) (entry w.bounds i j) (let g : moved j ≡ node ys j = e in omega (arith, ints)) (ym.meets i j (omega arith) (omega arith))
        ]

    moved_fits : (i : ℕ) → i ≤ columns_of w → Divides (pos w.period) (moved i -ℤ node w.residues i)
    moved_fits i l = elim (moved_is i).one [
      | inl e ↦ Divides-is (pos w.period) ((node xs i -ℤ node w.residues i) +ℤ step) _ (let g : moved i ≡ node xs i +ℤ step = e in omega (arith, ints)) (Divides-+ (pos w.period) _ _ (xm.cell.each i l) step_fits)
      | inr e ↦ Divides-is (pos w.period) (node ys i -ℤ node w.residues i) _ (let g : moved i ≡ node ys i = e in omega (arith, ints)) (ym.cell.each i l)
    ]

    -- the number zero stays where it is
    moved_zero : moved 0 ≡ pos 0
    moved_zero =
        let q : IsLesserOf (pos 0 +ℤ step) (pos 0) (moved 0) = moved_is 0 in
        let s : pos 0 <ℤ step = omega (arith, ints) in
        let b : moved 0 ≤ℤ pos 0 = q.right in
        elim q.one [
          | inl e ↦ (let g : moved 0 ≡ pos 0 +ℤ step = e in omega (arith, ints))
          | inr e ↦ e
        ]

    -- and the first column has the value
    moved_first : moved 1 ≡ value
    moved_first =
        let q : IsLesserOf (at xs 0 +ℤ step) (at ys 0) (moved 1) = moved_is 1 in
        let a : moved 1 ≤ℤ (at xs 0 +ℤ step) = q.left in
        let s : step ≡ value -ℤ at xs 0 = refl in
        elim q.one [
          | inl e ↦ (let g : moved 1 ≡ at xs 0 +ℤ step = e in omega (arith, ints))
          | inr e ↦ (let g : moved 1 ≡ at ys 0 = e in omega (arith, ints))
        ]

    pub has_value : (qs : List ℤ) × IsMember w qs × (at qs 0 ≡ value)
    has_value =
        let first : node (listed moved (columns_of w)) 1 ≡ moved 1 -ℤ moved 0 = node-listed moved (columns_of w) 1 (omega arith) in
        let zero_is : moved 0 ≡ pos 0 = moved_zero in
        let one_is : moved 1 ≡ value = moved_first in
        (listed moved (columns_of w), list_member w moved moved_meets moved_fits, first ∙ (let e : moved 1 -ℤ moved 0 ≡ value = omega (arith, ints) in e))

  -- so they are not one zone
  not_one : (w : ZoneView) → IsOfCell f w → AreOneZone zones w → ⊥
  not_one w c o =
      let p = apart.parted in
      let v : ZoneView = p.first in
      let u : ZoneView = p.second in
      let value : ℤ = p.between.0 in
      let t : LiesBefore v u = apart.turns.each p.place v u p.inside p.beside in
      let v_in : Contains zones v = (p.place, slice_get_within zones p.place v p.beside.first, get_or_from_slice_get zones p.place v v p.beside.first) in
      let u_in : Contains zones u = (p.place + 1, slice_get_within zones (p.place + 1) u p.beside.second, get_or_from_slice_get zones (p.place + 1) u u p.beside.second) in
      let xs = t.first.some.member in
      let ys = t.second.some.member in
      let cell : IsOfCell v w = same_cell f v w (cells.each v v_in) c in
      let columns : columns_of w ≡ columns_of f = ap length c.residues in
      let fits : Divides (pos w.period) (value -ℤ node w.residues 1) =
      subst (λ k. Divides (pos k) (value -ℤ node w.residues 1)) (sym cell.period) (subst (λ rs. Divides (pos v.period) (value -ℤ node rs 1)) (sym cell.residues) p.between.1.fits) in
      let q = has_value w o.is xs ys (o.within xs (record { zone = v; listed = v_in; inside = t.first.some.is })) (o.within ys (record { zone = u; listed = u_in; inside = t.second.some.is }))
      value fits (omega arith) (p.between.1.above xs t.first.some.is) (p.between.1.below ys t.second.some.is) in
      no_value value v u p.place p.inside p.beside p.between.1 q.0 (o.whole q.0 q.1) q.2

-- ---- zones in another order
-- what stands at a place
got : {X : Type 0} (xs : List X) (i : ℕ) → i < length xs → (x : X) × (slice_get xs i ≡ Some x)
got [] i l = absurd (omega arith)
got (x ∷ xs) zero l = (x, refl)
got (x ∷ xs) (suc i) l = got xs i (omega arith)

-- an element of a list stands at its place
stands_at : {X : Type 0} (xs : List X) (x : X) (h : Contains xs x) → slice_get xs h.0 ≡ Some x
stands_at xs x h = slice_get-get_or xs h.0 x h.1 ∙ ap Some h.2

-- the windows of zones give an order of them
module _ (zones made : List ZoneView) (column : ℕ) (ws : List Window) (are : AreWindowsTo zones column (length zones) ws) (at_places : AreAtPlaces zones ws made) where
  listed_in : (z : ZoneView) → Contains made z → Contains zones z
  listed_in z h =
      let w = got ws h.0 (subst (λ n. h.0 < n) at_places.count h.1) in
      got_in zones w.0.place z (sym (at_places.each h.0 w.0 w.1) ∙ stands_at made z h)

  placed_is : (i : ℕ) (z : ZoneView) (e : slice_get zones i ≡ Some z) → slice_get made (are.whole i (slice_get_within zones i z e)).1.0 ≡ Some z
  placed_is i z e =
      let t = are.whole i (slice_get_within zones i z e) in
      at_places.each t.1.0 t.0 (stands_at ws t.0 t.1) ∙ ap (slice_get zones) t.2 ∙ e

  own_is : (i j : ℕ) (v w : ZoneView) (a : slice_get zones i ≡ Some v) (b : slice_get zones j ≡ Some w) → (are.whole i (slice_get_within zones i v a)).1.0 ≡ (are.whole j (slice_get_within zones j w b)).1.0 → i ≡ j
  own_is i j v w a b same =
      let t = are.whole i (slice_get_within zones i v a) in
      let u = are.whole j (slice_get_within zones j w b) in
      let one : slice_get ws t.1.0 ≡ Some t.0 = stands_at ws t.0 t.1 in
      let two : slice_get ws t.1.0 ≡ Some u.0 = ap (slice_get ws) same ∙ stands_at ws u.0 u.1 in
      let both : t.0 ≡ u.0 = cc (one, two) in
      sym t.2 ∙ ap (λ (x : Window). x.place) both ∙ u.2

  pub reordered_by : IsReordered zones made
  reordered_by = record { listed = listed_in; place = λ i z e. ((are.whole i (slice_get_within zones i z e)).1.0, placed_is i z e); own = own_is }

-- the same of windows that were put in order
pub order_of : (zones made : List ZoneView) (raw sorted ws : List Window) → IsPermutation raw sorted → ws ≡ sorted → AreWindowsTo zones 1 (length zones) raw → AreAtPlaces zones ws made → IsReordered zones made
order_of zones made raw sorted ws p e w a = reordered_by zones made 1 ws (subst (AreWindowsTo zones 1 (length zones)) (sym e) (windows_moved zones 1 (length zones) raw sorted p w)) a

-- and each has its place in the list of the zones
pub places_in : (zones : List ZoneView) (raw sorted ws : List Window) → IsPermutation raw sorted → ws ≡ sorted → AreWindowsTo zones 1 (length zones) raw → (w : Window) → Contains ws w → w.place < length zones
places_in zones raw sorted ws p e are w h =
    let t = (windows_moved zones 1 (length zones) raw sorted p are).each w (subst (λ l. Contains l w) e h) in
    slice_get_within zones w.place t.zone t.is

-- what is read past the last window
abbrev pub no_window : Window
no_window = record { least = None; most = None; place = 0 }

pub place_inside : (zones : List ZoneView) (ws : List Window) (k : ℕ) → k < length ws → ((w : Window) → Contains ws w → w.place < length zones) → (get_or ws k no_window).place < length zones
place_inside zones ws k l h = h (get_or ws k no_window) (Contains-get_or ws k no_window l)

front_get : (xs ys : List ZoneView) (k : ℕ) → k < length xs → slice_get (xs ++ ys) k ≡ slice_get xs k
front_get [] ys k l = absurd (omega arith)
front_get (x ∷ xs) ys zero l = refl
front_get (x ∷ xs) ys (suc k) l = front_get xs ys k (omega arith)

last_get : (xs : List ZoneView) (z : ZoneView) → slice_get (xs ++ z ∷ []) (length xs) ≡ Some z
last_get [] z = refl
last_get (x ∷ xs) z = last_get xs z

-- one more zone is at the place of its window
pub places_more : (zones : List ZoneView) (ws : List Window) (made new : List ZoneView) (n : ℕ) (z : ZoneView) → new ≡ made ++ z ∷ [] → length made ≡ n → slice_get zones (get_or ws n no_window).place ≡ Some z
    → ((k : ℕ) (w : Window) → k < n → slice_get ws k ≡ Some w → slice_get made k ≡ slice_get zones w.place) → (k : ℕ) (w : Window) → k < n + 1 → slice_get ws k ≡ Some w → slice_get new k ≡ slice_get zones w.place
places_more zones ws made new n z e count here old k w l g = elim (below_or k n) [
  | inl lt ↦ ap (λ xs. slice_get xs k) e ∙ front_get made (z ∷ []) k (omega (arith, count)) ∙ old k w lt g
  | inr ge ↦ (
      let same : k ≡ n = omega arith in
      let window : get_or ws n no_window ≡ w = get_or_from_slice_get ws n w no_window (subst (λ i. slice_get ws i ≡ Some w) same g) in
      let last : slice_get (made ++ z ∷ []) k ≡ Some z = subst (λ i. slice_get (made ++ z ∷ []) i ≡ Some z) (count ∙ sym same) (last_get made z) in
      ap (λ xs. slice_get xs k) e ∙ last ∙ sym (subst (λ (x : Window). slice_get zones x.place ≡ Some z) window here))
]

-- zones that stand apart in some order are settled as they stand
module _ (f : ZoneView) (zones : List ZoneView) (cells : AreOfCell f zones) (more : 1 < columns_of f) (a : AreZonesApart zones) where
  order_cells : AreOfCell f a.order
  order_cells = record { each = λ w l. cells.each w (a.reordered.listed w l) }

  in_order : (z : ZoneView) → Contains zones z → Contains a.order z
  in_order z h = let p = a.reordered.place h.0 z (stands_at zones z h) in got_in a.order p.0 z p.1

  zone_valid : (z : ZoneView) → Contains zones z → IsZone z
  zone_valid z h = valid f a.order order_cells more a.apart z (in_order z h)

  zones_antichain : IsAntichain zones
  zones_antichain i j d l h =
      let v : ZoneView = get_or zones i d in
      let w : ZoneView = get_or zones j d in
      let one : slice_get zones i ≡ Some v = slice_get-get_or zones i d (omega arith) in
      let two : slice_get zones j ≡ Some w = slice_get-get_or zones j d h in
      let p = a.reordered.place i v one in
      let q = a.reordered.place j w two in
      let at_p : get_or a.order p.0 d ≡ v = get_or_from_slice_get a.order p.0 v d p.1 in
      let at_q : get_or a.order q.0 d ≡ w = get_or_from_slice_get a.order q.0 w d q.1 in
      elim (three p.0 q.0) [
        | inl lt ↦ (
            let t : AreIncomparable (get_or a.order q.0 d) (get_or a.order p.0 d) = antichain f a.order order_cells more a.apart q.0 p.0 d lt (slice_get_within a.order p.0 v p.1) in
            let u : AreIncomparable w v = subst (AreIncomparable w) at_p (subst (λ z. AreIncomparable z (get_or a.order p.0 d)) at_q t) in
            record { forth = u.back; back = u.forth })
        | inr r ↦ elim r [
          | inl e ↦ (let same : i ≡ j = a.reordered.own i j v w one two (sym e) in absurd (omega arith))
          | inr gt ↦ (
              let t : AreIncomparable (get_or a.order p.0 d) (get_or a.order q.0 d) = antichain f a.order order_cells more a.apart p.0 q.0 d gt (slice_get_within a.order q.0 w q.1) in
              subst (AreIncomparable v) at_q (subst (λ z. AreIncomparable z (get_or a.order q.0 d)) at_p t))
        ]
      ]

  zones_not_one : (w : ZoneView) → IsOfCell f w → AreOneZone zones w → ⊥
  zones_not_one w c o = not_one f a.order order_cells more a.apart w c (record {
    is = o.is;
    within = λ xs s. o.within xs (record { zone = s.zone; listed = a.reordered.listed s.zone s.listed; inside = s.inside });
    whole = λ xs m. let s = o.whole xs m in record { zone = s.zone; listed = in_order s.zone s.listed; inside = s.inside };
  })

  pub settled_reordered : IsSettlement f zones zones
  settled_reordered = record {
    zones = λ w l. (zone_valid w l, cells.each w l);
    to = λ xs s. s;
    from = λ xs s. s;
    settled = record {
      none = λ e. absurd (omega (arith, more));
      one = λ e. absurd (omega (arith, more));
      more = λ l. (
        (λ e. let m : (w : ZoneView) × (zones ≡ w ∷ []) = one_of zones e in
            let k : Contains zones m.0 = subst (λ ms. Contains ms m.0) (sym m.1) (one_in m.0) in (
              m.0,
              cells.each m.0 k,
              record {
                is = zone_valid m.0 k;
                within = λ xs s. this_has m.0 xs (subst (λ ms. InSome ms xs) m.1 s);
                whole = λ xs i. record { zone = m.0; listed = k; inside = i };
              },
            )),
        (λ r. absurd (zones_not_one r.0 r.1 r.2)),
      );
      antichain = λ l. zones_antichain;
    };
    small = λ w l.
        let r : reach_of w ≤ greatest_reach zones = reach_below zones w l in
        let n : columns_of w ≡ columns_of f = ap length (cells.each w l).residues in
        let t : greatest_reach zones ≤ columns_of f * greatest_reach zones = times_more (columns_of f) _ (omega arith) in
        subst (λ k. IsSmallZone w (k * greatest_reach zones)) n (small_zone w (greatest_reach zones) (zone_valid w l) r (subst (λ k. reach_of w ≤ k * greatest_reach zones) (sym n) (omega arith)));
  }
