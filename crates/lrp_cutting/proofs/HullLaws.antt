-- The hull of zones, by the greatest of their closed bounds.
use Rattle.std.proofs.Common.{◌≡◌, ◌≢◌, ℕ, ◌+◌, ◌*◌, ◌<◌, ◌≤◌, ◌⊎◌, ◌^◌, inl, inr, List, Option, Some, None, length, arith, refl, sym, subst, ◌∙◌, ap}
use Rattle.std.specs.Prelude.{ℤ, pos, nat_abs, ◌-ℤ◌, ◌+ℤ◌, ◌≤ℤ◌, Contains}
use Rattle.std.proofs.lemmas.Int.{ints}
use Rattle.lrp_theory.specs.Bounds.{Within, Meets}
use Rattle.lrp_theory.specs.Divides.{Divides}
use Rattle.lrp_theory.specs.Entries.{entry, node, AtMost}
use Rattle.lrp_theory.proofs.Floor.{reached_in_cell}
use Rattle.lrp_theory.proofs.Lists.{listed, difference}
use Rattle.lrp_theory.proofs.Modulo.{Divides--, Divides-is}
use Rattle.lrp_theory.proofs.Through.{AtMost-more}
use Rattle.lrp_matrix.specs.Matrices.{MatrixView, MeetsBounds, IsLeastDifference}
use Rattle.lrp_model.specs.declared.relations.Bound.{Bound}
use Rattle.lrp_zone.specs.Zones.{ZoneView, IsZone, IsInCell, IsMember, columns_of}
use Rattle.lrp_zone.specs.Pairs.{IsOfCell}
use Rattle.lrp_zone.proofs.Cases.{eq_or}
use Rattle.lrp_zone.proofs.Members.{tight_all, period_one, list_member}
use Rattle.lrp_store.specs.Least.{matrix_of}
use Rattle.lrp_store.specs.Settled.{InSome}
use Rattle.lrp_store.proofs.Rooms.{closed_small}
use Rattle.lrp_cutting.specs.declared.pairs.NodePair.{NodePair}
use Rattle.lrp_cutting.specs.Bounded.{AllCanBeStored, MeetsAll, IsBounded}
use Rattle.lrp_cutting.specs.Differences.{AreOfCell, greatest_reach}
use Rattle.lrp_cutting.specs.Hulls.{IsClosureOf, AreClosures, IsWidest, HasWidest, AreWidest, IsHull, HasPlace}
use Rattle.lrp_cutting.specs.Settling.{IsSmallZone}
use Rattle.lrp_cutting.specs.Thresholds.{pairs_below}
use Rattle.lrp_cutting.proofs.Lists.{below_or, some_in, reach_below}
use Rattle.lrp_cutting.proofs.PairLists.{in_pairs, from_pairs}

-- ---- one zone: its closed bounds are met and reached by its tuples
module _ (z : ZoneView) (valid : IsZone z) (m : MatrixView) (c : IsClosureOf z m) where
  integers : (xs : List ℤ) → IsMember z xs → MeetsBounds (matrix_of z) xs
  integers xs h = record { count = h.cell.count; each = λ i j il jl. h.meets i j il jl }

  least_at : (i j : ℕ) → i ≤ columns_of z → j ≤ columns_of z → i ≢ j → IsLeastDifference m i j (entry m.cells i j)
  least_at i j il jl ne = c.closed.least i j (rw c.integers.columns il) (rw c.integers.columns jl) ne

  pub met_by_members : (i j : ℕ) → i ≤ columns_of z → j ≤ columns_of z → i ≢ j → (xs : List ℤ) → IsMember z xs → Within (node xs i -ℤ node xs j) (entry m.cells i j)
  met_by_members i j il jl ne xs h = (least_at i j il jl ne).met xs (c.integers.to xs (integers xs h))

  pub reached_by_members : (i j : ℕ) → i ≤ columns_of z → j ≤ columns_of z → i ≢ j → (d : ℤ) → Within d (entry m.cells i j) → (xs : List ℤ) × IsMember z xs × (d ≤ℤ (node xs i -ℤ node xs j))
  reached_by_members i j il jl ne d w =
      let r : (xs : List ℤ) × MeetsBounds m xs × (d ≤ℤ (node xs i -ℤ node xs j)) = (least_at i j il jl ne).reached d w in
      let o : MeetsBounds (matrix_of z) r.0 = c.integers.from r.0 r.1 in
      let meets : Meets (columns_of z + 1) (entry z.bounds) (node r.0) = λ p q pl ql. o.each p q (omega arith) (omega arith) in
      let s : (y : ℕ → ℤ) × Meets (columns_of z + 1) (entry z.bounds) y × ((k : ℕ) → Divides (pos z.period) (y k -ℤ node z.residues k)) × (d ≤ℤ (y i -ℤ y j)) =
      reached_in_cell (columns_of z + 1) (pos z.period) (node z.residues) (entry z.bounds) i j d (period_one z valid.shape) (tight_all z valid.shape) (node r.0) meets r.2 in
      (listed s.0 (columns_of z), list_member z s.0 s.1 (λ k l. s.2 k), subst (λ v. d ≤ℤ v) (sym (difference s.0 (columns_of z) i j il jl)) s.3)

-- ---- numbers
no_more : (a : ℤ) → ((d : ℤ) → d ≤ℤ a) → ⊥
no_more a h = let l : (a +ℤ pos 1) ≤ℤ a = h (a +ℤ pos 1) in omega (arith, ints)

itself : (a : ℤ) → a ≤ℤ a
itself a = omega (arith, ints)

one_less : (n i : ℕ) → i < n + 1 → i ≤ n
one_less n i l = omega arith

one_more : (n i : ℕ) → i ≤ n → i < n + 1
one_more n i l = omega arith

small_abs : (h : ℕ) (a : ℤ) → AtMost h (Some a) → nat_abs a ≤ h
small_abs h a s = omega (arith, ints)

-- the greatest of small bounds is small
widest_at : (ms : List MatrixView) (i j h : ℕ) (a : ℤ) (m : MatrixView) (e : Option ℤ) → entry m.cells i j ≡ e → Contains ms m → Within a e → AtMost h e → ((d : ℤ) → Within d (entry m.cells i j) → d ≤ℤ a) → AtMost h (Some a)
widest_at ms i j h a m None q l w s from = absurd (no_more a (λ d. from d (subst (λ o. Within d o) (sym q) tt)))
widest_at ms i j h a m (Some c) q l w s from = let k : c ≤ℤ a = from c (subst (λ o. Within c o) (sym q) (itself c)) in (omega (arith, ints, s.0), omega (arith, ints, s.1))

pub widest_small : (ms : List MatrixView) (i j h : ℕ) (a : ℤ) → ((m : MatrixView) → Contains ms m → AtMost h (entry m.cells i j)) → IsWidest ms i j (Some a) → AtMost h (Some a)
widest_small ms i j h a small w =
    let r : (m : MatrixView) × Contains ms m × Within a (entry m.cells i j) = w.to a (itself a) in
    widest_at ms i j h a r.0 (entry r.0.cells i j) refl r.1 r.2 (small r.0 r.1) (λ d k. w.from d r.0 r.1 k)

-- a list with an element is not empty
in_some : {X : Type 0} (xs : List X) (x : X) → Contains xs x → 0 < length xs
in_some xs x l = let k : l.0 < length xs = l.1 in omega arith

pub some_matrix : (zones : List ZoneView) (ms : List MatrixView) → AreClosures zones ms → 0 < length zones → 0 < length ms
some_matrix zones ms c l =
    let z : (z : ZoneView) × Contains zones z = some_in zones l in
    let m : (m : MatrixView) × Contains ms m × IsClosureOf z.0 m = c.to z.0 z.1 in
    in_some ms m.0 m.1

-- ---- the zones and their closed bounds
module _ (z : ZoneView) (zones : List ZoneView) (ms : List MatrixView) (cells : AreOfCell z zones) (closures : AreClosures zones ms) where
  columns_same : (w : ZoneView) → Contains zones w → columns_of w ≡ columns_of z
  columns_same w l = ap length (cells.each w l).residues

  met : (i j : ℕ) (e : Option ℤ) → i ≤ columns_of z → j ≤ columns_of z → i ≢ j → IsWidest ms i j e → (xs : List ℤ) → InSome zones xs → Within (node xs i -ℤ node xs j) e
  met i j e il jl ne w xs s =
      let m : (m : MatrixView) × Contains ms m × IsClosureOf s.zone m = closures.to s.zone s.listed in
      let n : columns_of s.zone ≡ columns_of z = columns_same s.zone s.listed in
      w.from _ m.0 m.1 (met_by_members s.zone (closures.valid s.zone s.listed) m.0 m.2 i j (rw n il) (rw n jl) ne xs s.inside)

  reached : (i j : ℕ) (e : Option ℤ) → i ≤ columns_of z → j ≤ columns_of z → i ≢ j → IsWidest ms i j e → (d : ℤ) → Within d e → (xs : List ℤ) × InSome zones xs × (d ≤ℤ (node xs i -ℤ node xs j))
  reached i j e il jl ne w d h =
      let m : (m : MatrixView) × Contains ms m × Within d (entry m.cells i j) = w.to d h in
      let v : (v : ZoneView) × Contains zones v × IsClosureOf v m.0 = closures.from m.0 m.1 in
      let n : columns_of v.0 ≡ columns_of z = columns_same v.0 v.1 in
      let r : (xs : List ℤ) × IsMember v.0 xs × (d ≤ℤ (node xs i -ℤ node xs j)) = reached_by_members v.0 (closures.valid v.0 v.1) m.0 v.2 i j (rw n il) (rw n jl) ne d m.2 in
      (r.0, record { zone = v.0; listed = v.1; inside = r.1 }, r.2)

  -- a tuple of the zones is of the cell
  in_cell : (xs : List ℤ) → InSome zones xs → IsInCell z xs
  in_cell xs s =
      let c : IsOfCell z s.zone = cells.each s.zone s.listed in
      record {
        count = s.inside.cell.count ∙ ap length c.residues;
        each = λ i il. subst (λ k. Divides (pos k) (node xs i -ℤ node z.residues i)) c.period (subst (λ rs. Divides (pos s.zone.period) (node xs i -ℤ node rs i)) c.residues (s.inside.cell.each i (rw c.residues il)));
      }

  -- closed bounds are small
  closed_at : (m : MatrixView) → Contains ms m → (i j : ℕ) → i ≤ columns_of z → j ≤ columns_of z → i ≢ j → AtMost (columns_of z * greatest_reach zones) (entry m.cells i j)
  closed_at m l i j il jl ne =
      let v : (v : ZoneView) × Contains zones v × IsClosureOf v m = closures.from m l in
      let n : columns_of v.0 ≡ columns_of z = columns_same v.0 v.1 in
      subst (λ k. AtMost (k * greatest_reach zones) (entry m.cells i j)) n
      (closed_small v.0 (closures.valid v.0 v.1) m v.2.closed v.2.integers (greatest_reach zones) (reach_below zones v.0 v.1) i j (one_more _ i (rw n il)) (one_more _ j (rw n jl)) ne)

  -- so the matrices have each place off the diagonal
  has_place : columns_of z * greatest_reach zones ≤ 2 ^ 62 → (i j : ℕ) → i ≤ columns_of z → j ≤ columns_of z → i ≢ j → HasPlace ms i j
  has_place room i j il jl ne = record {
    left = λ m l. rw (same_columns m l) il;
    right = λ m l. rw (same_columns m l) jl;
    small = λ m l. AtMost-more _ (2 ^ 62) _ room (closed_at m l i j il jl ne);
  }
    where
      same_columns : (m : MatrixView) → Contains ms m → m.columns ≡ columns_of z
      same_columns m l = let v : (v : ZoneView) × Contains zones v × IsClosureOf v m = closures.from m l in v.2.integers.columns ∙ columns_same v.0 v.1

  pub has_places : columns_of z * greatest_reach zones ≤ 2 ^ 62 → (p : NodePair) → Contains (pairs_below (columns_of z + 1)) p → HasPlace ms p.left p.right × HasPlace ms p.right p.left
  has_places room p l =
      let r : (p.left < p.right) × (p.right < columns_of z + 1) = from_pairs (columns_of z + 1) p l in
      let below : p.left < p.right = r.0 in
      let high : p.right < columns_of z + 1 = r.1 in
      (has_place room p.left p.right (omega arith) (omega arith) (λ e. omega arith), has_place room p.right p.left (omega arith) (omega arith) (λ e. omega arith))

  -- the greatest closed bounds are tight
  tight : (i j : ℕ) (a : ℤ) → i ≤ columns_of z → j ≤ columns_of z → i ≢ j → IsWidest ms i j (Some a) → Divides (pos z.period) (a -ℤ (node z.residues i -ℤ node z.residues j))
  tight i j a il jl ne w =
      let r : (xs : List ℤ) × InSome zones xs × (a ≤ℤ (node xs i -ℤ node xs j)) = reached i j (Some a) il jl ne w a (itself a) in
      let top : (node r.0 i -ℤ node r.0 j) ≤ℤ a = met i j (Some a) il jl ne w r.0 r.1 in
      let c : IsInCell z r.0 = in_cell r.0 r.1 in
      Divides-is (pos z.period) ((node r.0 i -ℤ node z.residues i) -ℤ (node r.0 j -ℤ node z.residues j)) _ (omega (arith, ints)) (Divides-- (pos z.period) _ _ (c.each i il) (c.each j jl))

  -- ---- the bounds of the hull
  module _ (bs : List Bound) (widest : AreWidest ms (pairs_below (columns_of z + 1)) bs) where
    -- they stand between two different columns
    placed : (b : Bound) → Contains bs b → (b.left ≤ columns_of z) × (b.right ≤ columns_of z) × (b.left ≢ b.right)
    placed b l =
        let s : (p : NodePair) × Contains (pairs_below (columns_of z + 1)) p × (((b.left ≡ p.left) × (b.right ≡ p.right)) ⊎ ((b.left ≡ p.right) × (b.right ≡ p.left))) = (widest.only b l).1 in
        let r : (s.0.left < s.0.right) × (s.0.right < columns_of z + 1) = from_pairs (columns_of z + 1) s.0 s.1 in
        let below : s.0.left < s.0.right = r.0 in
        let high : s.0.right < columns_of z + 1 = r.1 in
        elim s.2 [
          | inl e ↦ (let e1 : b.left ≡ s.0.left = e.0 in let e2 : b.right ≡ s.0.right = e.1 in (omega arith, omega arith, λ same. omega arith))
          | inr e ↦ (let e1 : b.left ≡ s.0.right = e.0 in let e2 : b.right ≡ s.0.left = e.1 in (omega arith, omega arith, λ same. omega arith))
        ]

    widest_of : (b : Bound) → Contains bs b → IsWidest ms b.left b.right (Some b.most)
    widest_of b l = (widest.only b l).0

    small_bound : (b : Bound) → Contains bs b → nat_abs b.most ≤ columns_of z * greatest_reach zones
    small_bound b l = let p : (b.left ≤ columns_of z) × (b.right ≤ columns_of z) × (b.left ≢ b.right) = placed b l in
        small_abs _ b.most (widest_small ms b.left b.right _ b.most (λ m k. closed_at m k b.left b.right p.0 p.1 p.2) (widest_of b l))

    pub can_be_stored : columns_of z * greatest_reach zones ≤ 2 ^ 62 → AllCanBeStored z bs
    can_be_stored room = record {
      each = λ b l.
          let p : (b.left ≤ columns_of z) × (b.right ≤ columns_of z) × (b.left ≢ b.right) = placed b l in
          let s : nat_abs b.most ≤ columns_of z * greatest_reach zones = small_bound b l in
          record {
            left = p.0;
            right = p.1;
            apart = p.2;
            tight = tight b.left b.right b.most p.0 p.1 p.2 (widest_of b l);
            small = omega arith;
          };
    }

    -- the tuples of the zones meet them
    pub zones_meet : (xs : List ℤ) → InSome zones xs → MeetsAll z bs xs
    zones_meet xs s = record {
      cell = in_cell xs s;
      meets = λ b l. let p : (b.left ≤ columns_of z) × (b.right ≤ columns_of z) × (b.left ≢ b.right) = placed b l in met b.left b.right (Some b.most) p.0 p.1 p.2 (widest_of b l) xs s;
    }

    pub no_hull : 0 < length zones → ((xs : List ℤ) → MeetsAll z bs xs → ⊥) → ⊥
    no_hull l none =
        let v : (v : ZoneView) × Contains zones v = some_in zones l in
        let is : IsZone v.0 = closures.valid v.0 v.1 in
        none is.some.member (zones_meet is.some.member (record { zone = v.0; listed = v.1; inside = is.some.is }))

    -- the place of two different columns
    has_widest : (i j : ℕ) → i ≤ columns_of z → j ≤ columns_of z → i ≢ j → HasWidest ms bs i j
    has_widest i j il jl ne = elim (below_or i j) [
      | inl lt ↦ (widest.all (record { left = i; right = j }) (in_pairs (columns_of z + 1) (record { left = i; right = j }) lt (one_more _ j jl))).0
      | inr le ↦ (widest.all (record { left = j; right = i }) (in_pairs (columns_of z + 1) (record { left = j; right = i }) (omega (arith, ne)) (one_more _ i il))).1
    ]

    -- ---- the zone of these bounds
    module _ (h : ZoneView) (is : IsBounded z bs h) where
      holds : (xs : List ℤ) → InSome zones xs → IsMember h xs
      holds xs s = is.from xs (zones_meet xs s)

      -- where a bound holds of all tuples of the zones, it holds of all of h
      bound_kept : (i j : ℕ) → i ≤ columns_of z → j ≤ columns_of z → i ≢ j → (b : ℤ) → ((ys : List ℤ) → InSome zones ys → (node ys i -ℤ node ys j) ≤ℤ b) → (xs : List ℤ) → IsMember h xs → (node xs i -ℤ node xs j) ≤ℤ b
      bound_kept i j il jl ne b all xs m = elim (has_widest i j il jl ne).is [
        | inl none ↦ (let r : (ys : List ℤ) × InSome zones ys × ((b +ℤ pos 1) ≤ℤ (node ys i -ℤ node ys j)) = reached i j None il jl ne none (b +ℤ pos 1) tt in
            let top : (node r.0 i -ℤ node r.0 j) ≤ℤ b = all r.0 r.1 in absurd (omega (arith, ints)))
        | inr some ↦ (let r : (ys : List ℤ) × InSome zones ys × (some.0 ≤ℤ (node ys i -ℤ node ys j)) = reached i j (Some some.0) il jl ne some.1 some.0 (itself some.0) in
            let top : (node r.0 i -ℤ node r.0 j) ≤ℤ b = all r.0 r.1 in
            let here : (node xs i -ℤ node xs j) ≤ℤ some.0 = (is.to xs m).meets (record { left = i; right = j; most = some.0 }) some.2 in
            omega (arith, ints))
      ]

      kept_at : (w : ZoneView) → IsZone w → IsOfCell z w → ((xs : List ℤ) → InSome zones xs → IsMember w xs) → (xs : List ℤ) → IsMember h xs → (i j : ℕ) → i ≤ columns_of w → j ≤ columns_of w → i ≤ columns_of z → j ≤ columns_of z → (i ≡ j) ⊎ (i ≢ j)
          → (f : Option ℤ) → entry w.bounds i j ≡ f → Within (node xs i -ℤ node xs j) f
      kept_at w vw c all xs m i j iw jw il jl eq None q = tt
      kept_at w vw c all xs m i j iw jw il jl (inl s) (Some b) q = let none : entry w.bounds i j ≡ None = subst (λ k. entry w.bounds i k ≡ None) s (vw.shape.diagonal i iw) in absurd (cc)
      kept_at w vw c all xs m i j iw jw il jl (inr ne) (Some b) q = bound_kept i j il jl ne b (λ ys s. subst (λ o. Within (node ys i -ℤ node ys j) o) q ((all ys s).meets i j iw jw)) xs m

      pub hull_of : IsHull z zones h
      hull_of = record {
        valid = is.valid;
        cell = is.cell;
        holds = holds;
        least = λ w vw c all. record {
          each = λ xs m. record {
            cell = record {
              count = (is.to xs m).cell.count ∙ sym (ap length c.residues);
              each = λ i il. rw (c.period, c.residues) ((is.to xs m).cell.each i (subst (λ rs. i ≤ length rs) c.residues il));
            };
            meets = λ i j il jl. kept_at w vw c all xs m i j il jl (subst (λ rs. i ≤ length rs) c.residues il) (subst (λ rs. j ≤ length rs) c.residues jl) (eq_or i j) (entry w.bounds i j) refl;
          };
        };
      }

      -- its closed bounds are the greatest of the zones'
      closed_hull : (m : MatrixView) → IsClosureOf h m → (i j : ℕ) → i ≤ columns_of z → j ≤ columns_of z → i ≢ j → (e : Option ℤ) → entry m.cells i j ≡ e → AtMost (columns_of z * greatest_reach zones) e
      closed_hull m c i j il jl ne None q = tt
      closed_hull m c i j il jl ne (Some a) q =
          let ih : i ≤ columns_of h = rw is.cell.residues il in
          let jh : j ≤ columns_of h = rw is.cell.residues jl in
          let below : (xs : List ℤ) → InSome zones xs → (node xs i -ℤ node xs j) ≤ℤ a = λ xs s. subst (λ o. Within (node xs i -ℤ node xs j) o) q (met_by_members h is.valid m c i j ih jh ne xs (holds xs s)) in
          elim (has_widest i j il jl ne).is [
            | inl none ↦ (let r : (ys : List ℤ) × InSome zones ys × ((a +ℤ pos 1) ≤ℤ (node ys i -ℤ node ys j)) = reached i j None il jl ne none (a +ℤ pos 1) tt in
                let top : (node r.0 i -ℤ node r.0 j) ≤ℤ a = below r.0 r.1 in absurd (omega (arith, ints)))
            | inr some ↦ (let r : (ys : List ℤ) × InSome zones ys × (some.0 ≤ℤ (node ys i -ℤ node ys j)) = reached i j (Some some.0) il jl ne some.1 some.0 (itself some.0) in
                let top : (node r.0 i -ℤ node r.0 j) ≤ℤ a = below r.0 r.1 in
                let t : (xs : List ℤ) × IsMember h xs × (a ≤ℤ (node xs i -ℤ node xs j)) = reached_by_members h is.valid m c i j ih jh ne a (subst (λ o. Within a o) (sym q) (itself a)) in
                let here : (node t.0 i -ℤ node t.0 j) ≤ℤ some.0 = (is.to t.0 t.1).meets (record { left = i; right = j; most = some.0 }) some.2 in
                let far : a ≤ℤ (node t.0 i -ℤ node t.0 j) = t.2 in
                let low : some.0 ≤ℤ (node r.0 i -ℤ node r.0 j) = r.2 in
                let same : some.0 ≡ a = omega (arith, ints) in
                subst (λ x. AtMost (columns_of z * greatest_reach zones) (Some x)) same (widest_small ms i j _ some.0 (λ m k. closed_at m k i j il jl ne) some.1))
          ]

      pub hull_small : IsSmallZone h (columns_of z * greatest_reach zones)
      hull_small = record {
        stored = is.reach _ small_bound;
        closed = λ m c s. record {
          each = λ i j il jl ne.
              let n : columns_of h ≡ columns_of z = ap length is.cell.residues in
              closed_hull m (record { closed = c; integers = s }) i j (one_less _ i (subst (λ k. i < k + 1) n il)) (one_less _ j (subst (λ k. j < k + 1) n jl)) ne (entry m.cells i j) refl;
        };
      }
