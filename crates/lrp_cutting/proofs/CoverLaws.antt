-- Zones that lie within others of a list, and those that stay.
use Rattle.std.proofs.Common.{◌≡◌, ◌≢◌, ℕ, zero, suc, ◌+◌, ◌*◌, ◌<◌, ◌≤◌, ◌⊎◌, ◌^◌, inl, inr, List, [], ◌∷◌, ◌++◌, Bool, true, false, Option, Some, None, length, length-append, get_or, take, arith, refl, sym, subst, ap, ◌∙◌}
use Rattle.std.specs.Prelude.{ℤ, pos, neg_ℤ, ◌-ℤ◌, ◌+ℤ◌, ◌≤ℤ◌, ◌↔◌, IsTrue, Contains, AllPairs, slice_get}
use Rattle.std.proofs.lemmas.Int.{ints}
use Rattle.std.proofs.lemmas.List.Elements.{Contains-append_left, Contains-append_right, Contains-append_cases}
use Rattle.std.proofs.lemmas.Option.{slice_get_within, slice_get-get_or}
use Rattle.lrp_theory.specs.Bounds.{Within}
use Rattle.lrp_theory.specs.Divides.{Divides}
use Rattle.lrp_theory.specs.Entries.{AreBelow, AtMost, IsBelow, IsSmallClosure, entry, node}
use Rattle.lrp_theory.proofs.Below.{within_less}
use Rattle.lrp_theory.proofs.Through.{AtMost-more}
use Rattle.lrp_matrix.specs.Matrices.{MatrixView}
use Rattle.lrp_matrix.specs.Ranges.{Above, negation}
use Rattle.lrp_zone.specs.Zones.{ZoneView, IsZone, IsMember, columns_of, reach_of}
use Rattle.lrp_zone.specs.Pairs.{IsOfCell, IsWithin}
use Rattle.lrp_zone.proofs.Cases.{eq_or}
use Rattle.lrp_store.specs.Settled.{AreIncomparable, InSome, IsAntichain}
use Rattle.lrp_store.proofs.Rooms.{closed_small}
use Rattle.lrp_cutting.specs.declared.axes.Axis.{Axis}
use Rattle.lrp_cutting.specs.declared.pairs.NodePair.{NodePair}
use Rattle.lrp_cutting.specs.declared.windows.CutterWindow.{CutterWindow as Window}
use Rattle.lrp_cutting.specs.Axes.{AreAlongOneAxis, AreAxesFor, AreAxesOf, AreHolding, HasPair, HoldsWindow, IsAxisOf, IsAxisWindow, IsWindowOfBounds}
use Rattle.lrp_cutting.specs.Covering.{AreInOneCell, AreLeftOut, IsBelowAt, IsBelowInRow, IsClosureAt, IsCoveredBySome, IsCoveredBy, IsLeftOut, IsStaying}
use Rattle.lrp_cutting.specs.Cutting.{IsPairOf}
use Rattle.lrp_cutting.specs.Differences.{AreOfCell}
use Rattle.lrp_cutting.specs.Hulls.{IsClosureOf}
use Rattle.lrp_cutting.specs.Settling.{IsThinned}
use Rattle.lrp_cutting.specs.Thresholds.{pairs_below}
use Rattle.lrp_cutting.proofs.HullLaws.{met_by_members, reached_by_members}
use Rattle.lrp_cutting.proofs.Lists.{below_or, got_in, in_none, in_one, one_in, in_cons, head_in, later, pairs_append, pairs_one}
use Rattle.lrp_cutting.proofs.NearLaws.{place_in}
use Rattle.lrp_cutting.proofs.PairLists.{from_pairs, in_pairs}

-- ---- rows of bounds
pub row_none : (a b : List (Option ℤ)) (i : ℕ) → IsBelowInRow 0 a b i
row_none a b i = record { each = λ j l. absurd (omega arith) }

pub row_more : (a b : List (Option ℤ)) (i n : ℕ) → IsBelowInRow n a b i → IsBelowAt a b i n → IsBelowInRow (n + 1) a b i
row_more a b i n r h = record {
  each = λ j l. elim (below_or j n) [
    | inl lt ↦ r.each j lt
    | inr ge ↦ (let e : n ≡ j = omega arith in subst (λ k. IsBelowAt a b i k) e h)
  ];
}

pub rows_more : (a b : List (Option ℤ)) (n m : ℕ) → ((i : ℕ) → i < m → IsBelowInRow n a b i) → IsBelowInRow n a b m → (i : ℕ) → i < m + 1 → IsBelowInRow n a b i
rows_more a b n m r h i l = elim (below_or i m) [
  | inl lt ↦ r i lt
  | inr ge ↦ (let e : m ≡ i = omega arith in subst (λ k. IsBelowInRow n a b k) e h)
]

pub rows_all : (a b : List (Option ℤ)) (n m : ℕ) → m ≡ n → ((i : ℕ) → i < m → IsBelowInRow n a b i) → AreBelow n a b
rows_all a b n m e r = record { each = λ i j il jl ne. (r i (subst (λ k. i < k) (sym e) il)).each j jl ne }

pub row_of : (a b : List (Option ℤ)) (n i : ℕ) → i < n → AreBelow n a b → IsBelowInRow n a b i
row_of a b n i l h = record { each = λ j jl ne. h.each i j l jl ne }

-- ---- a zone lies within another one where its closed bounds are below the stored ones of that
-- the windows of the one whose differences are not greater
negated_low : (a : Option ℤ) (x : ℤ) → Above x (negation a) → Within (neg_ℤ x) a
negated_low None x h = tt
negated_low (Some a) x h = omega (arith, ints)

low_negated : (a : Option ℤ) (x : ℤ) → Within (neg_ℤ x) a → Above x (negation a)
low_negated None x h = tt
low_negated (Some a) x h = omega (arith, ints)

module _ (v w : ZoneView) (vv : IsZone v) (vw : IsZone w) (c : IsOfCell v w) (m : MatrixView) (closure : IsClosureOf v m) where
  same_columns : columns_of w ≡ columns_of v
  same_columns = ap length c.residues

  -- closed bounds are reached
  pub within_below_at : IsWithin v w → (i j : ℕ) → i ≤ columns_of v → j ≤ columns_of v → i ≢ j → IsBelow (entry m.cells i j) (entry w.bounds i j)
  within_below_at h i j il jl ne = record {
    below = λ d k.
        let r : (xs : List ℤ) × IsMember v xs × (d ≤ℤ (node xs i -ℤ node xs j)) = reached_by_members v vv m closure i j il jl ne d k in
        within_less d (node r.0 i -ℤ node r.0 j) (entry w.bounds i j) r.2 ((h.each r.0 r.1).meets i j (rw same_columns il) (rw same_columns jl));
  }

  pub within_below : IsWithin v w → AreBelow (columns_of w + 1) m.cells w.bounds
  within_below h = record { each = λ i j il jl ne. let n = same_columns in within_below_at h i j (omega (arith, n)) (omega (arith, n)) ne }

  -- and met
  pub below_within : AreBelow (columns_of w + 1) m.cells w.bounds → IsWithin v w
  below_within b = record {
    each = λ xs h. record {
      cell = record { count = h.cell.count ∙ sym same_columns; each = λ i il. subst (λ k. Divides (pos k) (node xs i -ℤ node w.residues i)) (sym c.period) (subst (λ rs. Divides (pos v.period) (node xs i -ℤ node rs i)) (sym c.residues) (h.cell.each i (subst (λ n. i ≤ n) same_columns il))) };
      meets = λ i j il jl. place xs h i j il jl (eq_or i j);
    };
  }
    where
      place : (xs : List ℤ) → IsMember v xs → (i j : ℕ) → i ≤ columns_of w → j ≤ columns_of w → (i ≡ j) ⊎ (i ≢ j) → Within (node xs i -ℤ node xs j) (entry w.bounds i j)
      place xs h i j il jl (inl e) = subst (λ f. Within (node xs i -ℤ node xs j) f) (sym (subst (λ k. entry w.bounds i k ≡ None) e (vw.shape.diagonal i il))) tt
      place xs h i j il jl (inr ne) = (b.each i j (omega arith) (omega arith) ne).below _ (met_by_members v vv m closure i j (subst (λ n. i ≤ n) same_columns il) (subst (λ n. j ≤ n) same_columns jl) ne xs h)

  -- so the window of the other one holds the zone's own
  pub within_holds : (p : NodePair) (s t : Window) → HasPair m p → IsWindowOfBounds m.cells p s → IsWindowOfBounds w.bounds p t → IsWithin v w → HoldsWindow s t
  within_holds p s t has ws wt h = record {
    low = record {
      each = λ x a. subst (Above x) (sym wt.least) (low_negated (entry w.bounds p.right p.left) x
          ((within_below_at h p.right p.left (subst (λ n. p.right ≤ n) columns has.high) (left_high has) (λ e. let r = has.rising in omega arith)).below (neg_ℤ x) (negated_low (entry m.cells p.right p.left) x (subst (Above x) ws.least a))));
    };
    high = λ x a. subst (Within x) (sym wt.most) ((within_below_at h p.left p.right (left_high has) (subst (λ n. p.right ≤ n) columns has.high) (λ e. let r = has.rising in omega arith)).below x (subst (Within x) ws.most a));
  }
    where
      columns : m.columns ≡ columns_of v
      columns = closure.integers.columns

      left_high : HasPair m p → p.left ≤ columns_of v
      left_high has = let r = has.rising in let t : p.right ≤ columns_of v = subst (λ n. p.right ≤ n) columns has.high in omega arith

-- ---- closed bounds of a zone of the list
module _ (zones : List ZoneView) (all : AreInOneCell zones) (z : ZoneView) (listed : Contains zones z) (m : MatrixView) (closure : IsClosureOf z m) where
  pub closure_small : IsSmallClosure (m.columns + 1) (2 ^ 62) m.cells
  closure_small = record {
    each = λ i j il jl ne.
        let n : m.columns ≡ columns_of z = closure.integers.columns in
        AtMost-more (columns_of z * reach_of z) (2 ^ 62) (entry m.cells i j) (all.room z listed)
        (closed_small z (all.valid z listed) m closure.closed closure.integers (reach_of z) (omega arith) i j (subst (λ k. i < k + 1) n il) (subst (λ k. j < k + 1) n jl) ne);
  }

  pub has_pair : (p : NodePair) → IsPairOf z p → HasPair m p
  has_pair p is = record { rising = is.rising; high = rw closure.integers.columns is.high; small = closure_small }

  pub axes_for : (axes : List Axis) → AreAxesOf zones axes → AreAxesFor m axes
  axes_for axes a = record { each = λ x l. ((a.each x l).order, has_pair x.pair ((a.each x l).pair z listed)) }

-- ---- axes
pub axes_none : (zones : List ZoneView) (a : Axis) → Contains [] a → IsAxisOf zones a
axes_none zones a l = absurd (in_none a l)

pub axes_more : (zones : List ZoneView) (axes : List Axis) (a : Axis) → ((x : Axis) → Contains axes x → IsAxisOf zones x) → IsAxisOf zones a → (x : Axis) → Contains (axes ++ a ∷ []) x → IsAxisOf zones x
axes_more zones axes a h is x l = elim (Contains-append_cases axes (a ∷ []) x l) [
  | inl k ↦ h x k
  | inr k ↦ subst (IsAxisOf zones) (in_one a x k) is
]

-- a list that has grown is not empty
pub some_pushed : {X : Type 0} (xs ys : List X) (x : X) → ys ≡ xs ++ x ∷ [] → 0 < length ys
some_pushed xs ys x e = let n : length ys ≡ length xs + 1 = ap length e ∙ length-append xs (x ∷ []) in omega arith

-- the pairs of the columns of a first zone are pairs of each one's
pub first_pairs : (zones : List ZoneView) → AreInOneCell zones → (f : ZoneView) → Contains zones f → (p : NodePair) (z : ZoneView) → Contains (pairs_below (columns_of f + 1)) p → Contains zones z → IsPairOf z p
first_pairs zones all f lf p z lp lz =
    let r : (p.left < p.right) × (p.right < columns_of f + 1) = from_pairs (columns_of f + 1) p lp in
    let n : columns_of z ≡ columns_of f = ap length ((all.cells f lf).each z lz).residues in
    let high : p.right < columns_of f + 1 = r.1 in
    record { rising = r.0; high = omega arith }

-- with a column there is a pair
pub some_pairs : (n : ℕ) → 0 < n → 0 < length (pairs_below (n + 1))
some_pairs n l = let c : Contains (pairs_below (n + 1)) (record { left = 0; right = 1 }) = in_pairs (n + 1) (record { left = 0; right = 1 }) (omega arith) (omega arith) in let k : c.0 < length (pairs_below (n + 1)) = c.1 in omega arith

-- ---- the zone of one window and that of another one
same_at : {X : Type 0} (xs : List X) (i : ℕ) (x y : X) → slice_get xs i ≡ Some x → slice_get xs i ≡ Some y → x ≡ y
same_at xs i x y a b = cc (a, b)

-- the windows of axes hold that of a zone wherever its zone lies within another one
module _ (zones : List ZoneView) (all : AreInOneCell zones) (out : List Bool) (place : ℕ) (m : MatrixView) (at : IsClosureAt zones place m) where
  here : Contains zones at.zone
  here = got_in zones place at.zone at.is

  pub covered_holds : (p : NodePair) (s t : Window) → HasPair m p → IsWindowOfBounds m.cells p s → IsAxisWindow zones p t → IsCoveredBy zones out place t.place → HoldsWindow s t
  covered_holds p s t has ws wt by =
      let same : by.holder ≡ wt.zone = same_at zones t.place by.holder wt.zone by.stays.is wt.is in
      let own : by.zone ≡ at.zone = same_at zones place by.zone at.zone by.is at.is in
      within_holds at.zone wt.zone (all.valid at.zone here) (all.valid wt.zone (got_in zones t.place wt.zone wt.is)) ((all.cells at.zone here).each wt.zone (got_in zones t.place wt.zone wt.is)) m at.closure p s t has ws wt.ends
      (subst (λ y. IsWithin y wt.zone) own (subst (λ y. IsWithin by.zone y) same by.within))

  -- the zone is covered where its bounds are below those of another one that stays
  pub covered_if : (other : ℕ) (w : ZoneView) → other ≢ place → slice_get zones other ≡ Some w → (IsLeftOut out other → ⊥) → AreBelow (columns_of w + 1) m.cells w.bounds → IsCoveredBy zones out place other
  covered_if other w ne is stays below = record {
    apart = ne;
    zone = at.zone;
    is = at.is;
    holder = w;
    stays = record { is = is; stays = stays };
    within = below_within at.zone w (all.valid at.zone here) (all.valid w (got_in zones other w is)) ((all.cells at.zone here).each w (got_in zones other w is)) m at.closure below;
  }

  pub if_covered : (other : ℕ) (w : ZoneView) → slice_get zones other ≡ Some w → IsCoveredBy zones out place other → AreBelow (columns_of w + 1) m.cells w.bounds
  if_covered other w is by =
      let same : by.holder ≡ w = same_at zones other by.holder w by.stays.is is in
      let own : by.zone ≡ at.zone = same_at zones place by.zone at.zone by.is at.is in
      within_below at.zone w (all.valid at.zone here) (all.valid w (got_in zones other w is)) ((all.cells at.zone here).each w (got_in zones other w is)) m at.closure
      (subst (λ y. IsWithin y w) own (subst (λ y. IsWithin by.zone y) same by.within))

  -- no zone of the windows that an axis finds covers it, so none does
  pub none_covers : (a : Axis) (s : Window) (found : List Window) → IsAxisOf zones a → HasPair m a.pair → IsWindowOfBounds m.cells a.pair s → AreHolding s a.windows.items found
      → ((t : Window) → Contains found t → IsCoveredBy zones out place t.place → ⊥) → IsCoveredBySome zones out place → ⊥
  none_covers a s found is has ws holding none by =
      let q = by.0 in
      let r : (t : Window) × Contains a.windows.items t × (t.place ≡ q) = is.windows.whole q (slice_get_within zones q by.1.holder by.1.stays.is) in
      let it : IsCoveredBy zones out place r.0.place = subst (IsCoveredBy zones out place) (sym r.2) by.1 in
      none r.0 (holding.whole r.0 r.1 (covered_holds a.pair s r.0 has ws (is.windows.each r.0 r.1) it)) it

-- one window more whose zone does not
pub covers_more : (zones : List ZoneView) (out : List Bool) (place : ℕ) (done : List Window) (t : Window) → ((w : Window) → Contains done w → IsCoveredBy zones out place w.place → ⊥) → (IsCoveredBy zones out place t.place → ⊥)
    → (w : Window) → Contains (done ++ t ∷ []) w → IsCoveredBy zones out place w.place → ⊥
covers_more zones out place done t none other w l by = elim (Contains-append_cases done (t ∷ []) w l) [
  | inl k ↦ none w k by
  | inr k ↦ other (subst (λ v. IsCoveredBy zones out place v.place) (sym (in_one t w k)) by)
]

-- ---- what is left out
kept_read : (out : List Bool) (b : Bool) (p : ℕ) → IsLeftOut out p → IsLeftOut (out ++ b ∷ []) p
kept_read [] b p h = absurd (cc h)
kept_read (x ∷ xs) b zero h = h
kept_read (x ∷ xs) b (suc p) h = kept_read xs b p h

only_read : (out : List Bool) (p n : ℕ) → length out ≡ n → p ≢ n → IsLeftOut (out ++ true ∷ []) p → IsLeftOut out p
only_read [] zero n e ne h = absurd (ne e)
only_read [] (suc p) n e ne h = absurd (cc h)
only_read (x ∷ xs) zero n e ne h = h
only_read (x ∷ xs) (suc p) n e ne h = only_read xs p (length xs) refl (λ q. ne (omega (arith, q, e))) h

none_read : (out : List Bool) (p : ℕ) → IsLeftOut (out ++ false ∷ []) p → IsLeftOut out p
none_read [] zero h = absurd (cc h)
none_read [] (suc p) h = absurd (cc h)
none_read (x ∷ xs) zero h = h
none_read (x ∷ xs) (suc p) h = none_read xs p h

last_read : (out : List Bool) (n : ℕ) → length out ≡ n → IsLeftOut (out ++ true ∷ []) n
last_read [] zero e = refl
last_read [] (suc n) e = absurd (omega arith)
last_read (x ∷ xs) zero e = absurd (omega arith)
last_read (x ∷ xs) (suc n) e = last_read xs n (omega arith)

none_past : (out : List Bool) (p : ℕ) → length out ≤ p → IsLeftOut out p → ⊥
none_past out p l h = let k : p < length out = slice_get_within out p true h in omega arith

pub out_none : (zones : List ZoneView) → AreLeftOut zones 0 []
out_none zones = record {
  count = refl;
  whole = λ z xs l i. let p = place_in zones z l in (p.0, z, record { is = p.1; stays = none_past [] p.0 (omega arith) }, i);
  free = λ p l. absurd (omega arith);
}

module _ (zones : List ZoneView) (n : ℕ) (out : List Bool) (a : AreLeftOut zones n out) where
  before_or : (p : ℕ) → p < n + 1 → (p < n) ⊎ (n ≡ p)
  before_or p l = elim (below_or p n) [
    | inl lt ↦ inl lt
    | inr ge ↦ inr (omega arith)
  ]

  longer : (b : Bool) → length (out ++ b ∷ []) ≡ n + 1
  longer b = let e : length (out ++ b ∷ []) ≡ length out + 1 = length-append out (b ∷ []) in let c : length out ≡ n = a.count in omega arith

  -- what stays with one more told stayed before
  stayed : (b : Bool) (p q : ℕ) → IsCoveredBy zones (out ++ b ∷ []) p q → IsCoveredBy zones out p q
  stayed b p q by = record { apart = by.apart; zone = by.zone; is = by.is; holder = by.holder; stays = record { is = by.stays.is; stays = λ h. by.stays.stays (kept_read out b q h) }; within = by.within }

  -- the next zone stays
  out_same : (IsCoveredBySome zones out n → ⊥) → AreLeftOut zones (n + 1) (out ++ false ∷ [])
  out_same none = record {
    count = longer false;
    whole = λ z xs l i. let r = a.whole z xs l i in (r.0, r.1, record { is = r.2.is; stays = λ h. r.2.stays (none_read out r.0 h) }, r.3);
    free = λ p l s by. elim (before_or p l) [
      | inl lt ↦ a.free p lt (λ h. s (kept_read out false p h)) (by.0, stayed false p by.0 by.1)
      | inr e ↦ none (subst (IsCoveredBySome zones out) (sym e) (by.0, stayed false p by.0 by.1))
    ];
  }

  -- or is left out
  out_more : IsCoveredBySome zones out n → AreLeftOut zones (n + 1) (out ++ true ∷ [])
  out_more covered = record {
    count = longer true;
    whole = λ z xs l i. let r = a.whole z xs l i in place_of xs r.0 r.1 r.2 r.3;
    free = λ p l s by. elim (before_or p l) [
      | inl lt ↦ a.free p lt (λ h. s (kept_read out true p h)) (by.0, stayed true p by.0 by.1)
      | inr e ↦ absurd (s (subst (IsLeftOut (out ++ true ∷ [])) e (last_read out n a.count)))
    ];
  }
    where
      place_of : (xs : List ℤ) (p : ℕ) (w : ZoneView) → IsStaying zones out p w → IsMember w xs → (q : ℕ) × (v : ZoneView) × IsStaying zones (out ++ true ∷ []) q v × IsMember v xs
      place_of xs p w s i = elim (eq_or p n) [
        | inl e ↦ (let by = covered.1 in
            let same : w ≡ by.zone = same_at zones n w by.zone (subst (λ k. slice_get zones k ≡ Some w) e s.is) by.is in
            (covered.0, by.holder, record { is = by.stays.is; stays = λ h. by.stays.stays (only_read out covered.0 n a.count by.apart h) }, by.within.each xs (subst (λ v. IsMember v xs) same i)))
        | inr ne ↦ (p, w, record { is = s.is; stays = λ h. s.stays (only_read out p n a.count ne h) }, i)
      ]

  pub out_next : (b : Bool) → IsTrue b ↔ IsCoveredBySome zones out n → AreLeftOut zones (n + 1) (out ++ b ∷ [])
  out_next true h = out_more (h.0 refl)
  out_next false h = out_same (λ c. cc (h.1 c))

-- whether a place is left out, as it is read
pub is_there : (out : List Bool) (p : ℕ) (d b : Bool) → p < length out → get_or out p d ≡ b → IsTrue b ↔ IsLeftOut out p
is_there out p d b l e = (λ t. slice_get-get_or out p d l ∙ ap Some (e ∙ t), λ h. some_same (sym h ∙ slice_get-get_or out p d l ∙ ap Some e))
  where
    some_same : Some true ≡ Some b → IsTrue b
    some_same q = cc q

pub not_there : (out : List Bool) (p : ℕ) → (p < length out → ⊥) → IsTrue false ↔ IsLeftOut out p
not_there out p none = (λ t. absurd (cc t), λ h. absurd (none (slice_get_within out p true h)))

-- ---- the zones that stay
-- the first n of those that stay, no one within another
pub record AreKeptOf (zones : List ZoneView) (out : List Bool) (n : ℕ) (kept : List ZoneView) : Type 0 where
  pub listed : (w : ZoneView) → Contains kept w → (p : ℕ) × (p < n) × IsStaying zones out p w
  pub whole : (p : ℕ) (w : ZoneView) → p < n → IsStaying zones out p w → Contains kept w
  pub antichain : IsAntichain kept

pub kept_none : (zones : List ZoneView) (out : List Bool) → AreKeptOf zones out 0 []
kept_none zones out = record { listed = λ w l. absurd (in_none w l); whole = λ p w l. absurd (omega arith); antichain = λ i j d il jl. absurd (omega arith) }

module _ (zones : List ZoneView) (out : List Bool) (a : AreLeftOut zones (length zones) out) (n : ℕ) (kept : List ZoneView) (k : AreKeptOf zones out n kept) where
  next_or : (p : ℕ) → p < n + 1 → (p < n) ⊎ (n ≡ p)
  next_or p l = elim (below_or p n) [
    | inl lt ↦ inl lt
    | inr ge ↦ inr (omega arith)
  ]

  -- the next one is left out
  pub kept_same : IsLeftOut out n → AreKeptOf zones out (n + 1) kept
  kept_same gone = record {
    listed = λ w l. let r = k.listed w l in let lt : r.0 < n = r.1 in (r.0, omega arith, r.2);
    whole = λ p w l s. elim (next_or p l) [
      | inl lt ↦ k.whole p w lt s
      | inr e ↦ absurd (s.stays (subst (IsLeftOut out) e gone))
    ];
    antichain = k.antichain;
  }

  -- no one that stays lies within another one
  free_of : (p q : ℕ) (v w : ZoneView) → p ≢ q → IsStaying zones out p v → IsStaying zones out q w → IsWithin v w → ⊥
  free_of p q v w ne sp sq within = a.free p (slice_get_within zones p v sp.is) sp.stays (q, record { apart = λ e. ne (sym e); zone = v; is = sp.is; holder = w; stays = sq; within = within })

  -- or it stays
  pub kept_more : (z : ZoneView) → IsStaying zones out n z → AreKeptOf zones out (n + 1) (kept ++ z ∷ [])
  kept_more z s = record {
    listed = λ w l. elim (Contains-append_cases kept (z ∷ []) w l) [
      | inl b ↦ (let r = k.listed w b in let lt : r.0 < n = r.1 in (r.0, omega arith, r.2))
      | inr b ↦ (n, omega arith, subst (IsStaying zones out n) (in_one z w b) s)
    ];
    whole = λ p w l t. elim (next_or p l) [
      | inl lt ↦ Contains-append_left kept (z ∷ []) w (k.whole p w lt t)
      | inr e ↦ subst (Contains (kept ++ z ∷ [])) (same_at zones n z w s.is (subst (λ q. slice_get zones q ≡ Some w) (sym e) t.is)) (Contains-append_right kept (z ∷ []) z (one_in z))
    ];
    antichain = pairs_append AreIncomparable kept (z ∷ []) k.antichain (pairs_one AreIncomparable z) (λ v w lv lw.
        let r = k.listed v lv in
        let lt : r.0 < n = r.1 in
        let same : z ≡ w = in_one z w lw in
        subst (AreIncomparable v) same (record {
          forth = free_of r.0 n v z (λ e. omega arith) r.2 s;
          back = free_of n r.0 z v (λ e. omega arith) s r.2;
        }));
  }

pub kept_all : (zones : List ZoneView) (out : List Bool) (kept : List ZoneView) → AreInOneCell zones → AreLeftOut zones (length zones) out → AreKeptOf zones out (length zones) kept → IsThinned zones kept
kept_all zones out kept all a k = record {
  kept = λ w l. let r = k.listed w l in let c : Contains zones w = got_in zones r.0 w r.2.is in (c, all.valid w c);
  whole = λ xs s. let r = a.whole s.zone xs s.listed s.inside in record { zone = r.1; listed = k.whole r.0 r.1 (slice_get_within zones r.0 r.1 r.2.is) r.2; inside = r.3 };
  antichain = k.antichain;
}
