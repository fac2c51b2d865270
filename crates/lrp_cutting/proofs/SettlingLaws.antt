-- Zones are settled: with no column by one of them, with more by their hull or by those that lie within no other.
use Rattle.std.proofs.Common.{◌≡◌, ℕ, ◌+◌, ◌*◌, ◌<◌, ◌≤◌, ◌⊎◌, ◌^◌, inl, inr, List, [], ◌∷◌, ◌++◌, length, arith, refl, sym, subst, ◌∙◌, ap}
use Rattle.std.specs.Prelude.{ℤ, Contains}
use Rattle.std.proofs.lemmas.List.{nil_from_length}
use Rattle.std.proofs.lemmas.List.Elements.{Contains-append_cases}
use Rattle.lrp_theory.specs.Entries.{AtMost}
use Rattle.lrp_zone.specs.Zones.{ZoneView, IsZone, IsMember, columns_of, reach_of}
use Rattle.lrp_zone.specs.Pairs.{IsOfCell, IsWithin}
use Rattle.lrp_zone.proofs.Reaches.{small_reach}
use Rattle.lrp_store.specs.Settled.{InSome, AreIncomparable, AreOneZone, AreSettled}
use Rattle.lrp_cutting.specs.Covering.{AreInOneCell}
use Rattle.lrp_cutting.specs.Cutting.{side_reach}
use Rattle.lrp_cutting.specs.Differences.{AreOfCell, greatest_reach}
use Rattle.lrp_cutting.specs.Hulls.{IsHull}
use Rattle.lrp_cutting.specs.Leaving.{HasGap}
use Rattle.lrp_cutting.specs.Settling.{IsSmallZone, IsSettlement, IsThinned}
use Rattle.lrp_cutting.proofs.LineLaws.{small_zone}
use Rattle.lrp_cutting.proofs.Lists.{below_or, head_in, in_cons, in_none, in_one, in_left, in_right, in_this, in_nothing, later, one_in, one_of, pairs_one, reach_below, this_has}
use Rattle.lrp_cutting.proofs.Membership.{decided_some}

-- ---- cells
pub same_cell : (f z w : ZoneView) → IsOfCell f z → IsOfCell f w → IsOfCell z w
same_cell f z w a b = record { period = b.period ∙ sym a.period; residues = b.residues ∙ sym a.residues }

pub cells_each : (f : ZoneView) (zones : List ZoneView) → AreOfCell f zones → (z : ZoneView) → Contains zones z → AreOfCell z zones
cells_each f zones a z l = record { each = λ w k. same_cell f z w (a.each z l) (a.each w k) }

-- a settlement in the words of one zone is one in those of each zone of the cell
pub settlement_moved : (f z : ZoneView) (old new : List ZoneView) → IsOfCell f z → IsSettlement f old new → IsSettlement z old new
settlement_moved f z old new c s =
    let n : columns_of z ≡ columns_of f = ap length c.residues in
    record {
      zones = λ w l. ((s.zones w l).0, same_cell f z w c (s.zones w l).1);
      to = s.to;
      from = s.from;
      settled = record {
        none = λ e. s.settled.none (sym n ∙ e);
        one = λ e. s.settled.one (sym n ∙ e);
        more = λ l. (
          (λ e. let r : (w : ZoneView) × IsOfCell f w × AreOneZone new w = (s.settled.more (subst (λ k. 1 < k) n l)).0 e in (r.0, same_cell f z r.0 c r.1, r.2)),
          (λ r. (s.settled.more (subst (λ k. 1 < k) n l)).1 (r.0, same_cell z f r.0 (same_cell f z f c (record { period = refl; residues = refl })) r.1, r.2)),
        );
        antichain = λ l. s.settled.antichain (subst (λ k. 1 < k) n l);
      };
      small = λ w l. subst (λ k. IsSmallZone w (k * greatest_reach old)) (sym n) (s.small w l);
    }

-- ---- no column
no_tuple : (n : ℕ) (xs : List ℤ) → length xs ≡ n → n ≡ 0 → xs ≡ []
no_tuple n xs l e = nil_from_length xs (l ∙ e)

none_stored : (z : ZoneView) → IsZone z → columns_of z ≡ 0 → reach_of z ≤ 0
none_stored z valid none = small_reach z 0 valid.shape.columns valid.size valid.shape.outside (record {
  each = λ i j il jl.
      let a : i ≡ 0 = omega (arith, none) in
      let b : j ≡ 0 = omega (arith, none) in
      rw (a, b) (subst (λ e. AtMost 0 e) (sym (valid.shape.diagonal 0 (omega arith))) tt);
})

pub settled_none : (f : ZoneView) (zones : List ZoneView) → IsZone f → columns_of f ≡ 0 → Contains zones f → AreOfCell f zones → IsSettlement f zones (f ∷ [])
settled_none f zones valid none here cells = record {
  zones = λ w l. subst (λ y. IsZone y × IsOfCell f y) (in_one f w l) (valid, record { period = refl; residues = refl });
  to = λ xs s. record { zone = f; listed = here; inside = this_has f xs s };
  from = λ xs s.
      let e : xs ≡ [] = no_tuple _ xs s.inside.cell.count (ap length (cells.each s.zone s.listed).residues ∙ none) in
      let m : valid.some.member ≡ [] = no_tuple _ valid.some.member valid.some.is.cell.count none in
      in_this f xs (subst (IsMember f) (m ∙ sym e) valid.some.is);
  settled = record {
    none = λ e. refl;
    one = λ e. absurd (omega (arith, none));
    more = λ l. absurd (omega (arith, none));
    antichain = λ l. pairs_one AreIncomparable f;
  };
  small = λ w l. subst (λ y. IsSmallZone y (columns_of f * greatest_reach zones)) (in_one f w l)
      (let r : reach_of f ≤ 0 = none_stored f valid none in small_zone f (greatest_reach zones) valid (omega arith) (omega arith));
}

-- ---- the greatest reach is that of a zone
pub greatest_at : (zones : List ZoneView) → 0 < length zones → (z : ZoneView) × Contains zones z × (greatest_reach zones ≤ reach_of z)
greatest_at [] l = absurd (omega arith)
greatest_at (z ∷ []) l = (z, one_in z, omega arith)
greatest_at (z ∷ y ∷ ys) l =
    let r : (w : ZoneView) × Contains (y ∷ ys) w × (greatest_reach (y ∷ ys) ≤ reach_of w) = greatest_at (y ∷ ys) (omega arith) in
    let h : greatest_reach (y ∷ ys) ≤ reach_of r.0 = r.2 in
    elim (below_or (reach_of z) (greatest_reach (y ∷ ys))) [
      | inl lt ↦ (r.0, later z (y ∷ ys) r.0 r.1, omega arith)
      | inr le ↦ (z, head_in z (y ∷ ys), omega arith)
    ]

times_le : (n a b : ℕ) → a ≤ b → n * a ≤ n * b
times_le n a b l = grind arith

pub greatest_room : (f : ZoneView) (zones : List ZoneView) → AreOfCell f zones → 0 < length zones → ((z : ZoneView) → Contains zones z → columns_of z * reach_of z + z.period ≤ 2 ^ 62) → columns_of f * greatest_reach zones + f.period ≤ 2 ^ 62
greatest_room f zones cells some room =
    let g : (z : ZoneView) × Contains zones z × (greatest_reach zones ≤ reach_of z) = greatest_at zones some in
    let c : IsOfCell f g.0 = cells.each g.0 g.1 in
    let n : columns_of g.0 ≡ columns_of f = ap length c.residues in
    let r : columns_of f * reach_of g.0 + g.0.period ≤ 2 ^ 62 = subst (λ k. k * reach_of g.0 + g.0.period ≤ 2 ^ 62) n (room g.0 g.1) in
    let t : columns_of f * greatest_reach zones ≤ columns_of f * reach_of g.0 = times_le (columns_of f) _ _ g.2 in
    let p : g.0.period ≡ f.period = c.period in
    omega arith

-- the product with two or more is at least the number
pub times_more : (n a : ℕ) → 0 < n → a ≤ n * a
times_more n a l = grind arith

pub gap_room : (f h : ZoneView) (zones : List ZoneView) → 1 < columns_of f → IsOfCell f h → columns_of f * greatest_reach zones + f.period ≤ 2 ^ 62 → side_reach h.period zones ≤ 2 ^ 62
gap_room f h zones more c room =
    let t : greatest_reach zones ≤ columns_of f * greatest_reach zones = times_more (columns_of f) _ (omega arith) in
    let p : h.period ≡ f.period = c.period in
    omega arith

pub line_room : (f z : ZoneView) → IsOfCell f z → columns_of f ≡ 1 → columns_of z * reach_of z + z.period ≤ 2 ^ 62 → reach_of z + z.period ≤ 2 ^ 62
line_room f z c one room =
    let r : 1 * reach_of z + z.period ≤ 2 ^ 62 = subst (λ k. k * reach_of z + z.period ≤ 2 ^ 62) (ap length c.residues ∙ one) room in omega arith

-- ---- one zone alone
pub settled_alone : (f z : ZoneView) → IsZone z → IsOfCell f z → 0 < columns_of f → AreSettled f (z ∷ []) → IsSettlement f (z ∷ []) (z ∷ [])
settled_alone f z valid cell some settled =
    let n : columns_of z ≡ columns_of f = ap length cell.residues in
    let own : reach_of z ≤ greatest_reach (z ∷ []) = reach_below (z ∷ []) z (one_in z) in
    let room : greatest_reach (z ∷ []) ≤ columns_of f * greatest_reach (z ∷ []) = times_more (columns_of f) _ some in
    let small : IsSmallZone z (columns_of z * greatest_reach (z ∷ [])) = small_zone z (greatest_reach (z ∷ [])) valid own (subst (λ k. reach_of z ≤ k * greatest_reach (z ∷ [])) (sym n) (omega arith)) in
    record {
      zones = λ w l. subst (λ y. IsZone y × IsOfCell f y) (in_one z w l) (valid, cell);
      to = λ xs s. s;
      from = λ xs s. s;
      settled = settled;
      small = λ w l. subst (λ y. IsSmallZone y (columns_of f * greatest_reach (z ∷ []))) (in_one z w l) (subst (λ k. IsSmallZone z (k * greatest_reach (z ∷ []))) n small);
    }

-- with two columns or more it is settled
pub one_settled : (f z : ZoneView) → IsZone z → IsOfCell f z → 1 < columns_of f → AreSettled f (z ∷ [])
one_settled f z valid cell more = record {
  none = λ e. refl;
  one = λ e. absurd (omega (arith, more));
  more = λ l. ((λ e. (z, cell, record { is = valid; within = λ xs s. this_has z xs s; whole = λ xs m. in_this z xs m })), (λ r. refl));
  antichain = λ l. pairs_one AreIncomparable z;
}

-- a list that has a zone is not empty
pub some_listed : (zones : List ZoneView) (z : ZoneView) → Contains zones z → 0 < length zones
some_listed zones z h = let l = h.1 in omega (arith, l)

-- a list of one zone
pub settled_one : (f : ZoneView) (zones : List ZoneView) → length zones ≡ 1 → Contains zones f → IsZone f → 1 < columns_of f → IsSettlement f zones (f ∷ [])
settled_one f zones one here valid more =
    let the = one_of zones one in
    let same : the.0 ≡ f = in_one the.0 f (subst (λ l. Contains l f) the.1 here) in
    let cell : IsOfCell f f = record { period = refl; residues = refl } in
    let all : zones ≡ f ∷ [] = subst (λ z. zones ≡ z ∷ []) same the.1 in
    subst (λ l. IsSettlement f l (f ∷ [])) (sym all) (settled_alone f f valid cell (omega arith) (one_settled f f valid cell more))

-- zones of one cell with their bounds
pub in_one_cell : (f : ZoneView) (zones : List ZoneView) → 1 < columns_of f → 0 < length zones → AreOfCell f zones → ((z : ZoneView) → Contains zones z → IsZone z) → ((z : ZoneView) → Contains zones z → columns_of z * reach_of z + z.period ≤ 2 ^ 62) → AreInOneCell zones
in_one_cell f zones more some cells valid room = record {
  some = some;
  columns = λ z l. let n : columns_of z ≡ columns_of f = ap length (cells.each z l).residues in omega arith;
  valid = valid;
  cells = cells_each f zones cells;
  room = λ z l. let r : columns_of z * reach_of z + z.period ≤ 2 ^ 62 = room z l in omega arith;
}

-- ---- more columns
pub hull_cells : (f : ZoneView) (zones : List ZoneView) (h : ZoneView) → AreOfCell f zones → IsHull f zones h → AreOfCell h zones
hull_cells f zones h cells hull = record { each = λ w l. same_cell f h w hull.cell (cells.each w l) }

module _ (f : ZoneView) (zones : List ZoneView) (h : ZoneView) (cells : AreOfCell f zones) (more : 1 < columns_of f) (valid : (z : ZoneView) → Contains zones z → IsZone z) (hull : IsHull f zones h) where
  -- the hull is the set
  pub settled_hull : (HasGap h zones → ⊥) → IsSmallZone h (columns_of f * greatest_reach zones) → IsSettlement f zones (h ∷ [])
  settled_hull none small = record {
    zones = λ w l. subst (λ y. IsZone y × IsOfCell f y) (in_one h w l) (hull.valid, hull.cell);
    to = λ xs s. elim (decided_some zones xs) [
      | inl k ↦ k
      | inr out ↦ absurd (none (record { tuple = xs; inside = this_has h xs s; none = out }))
    ];
    from = λ xs s. in_this h xs (hull.holds xs s);
    settled = record {
      none = λ e. refl;
      one = λ e. absurd (omega (arith, more));
      more = λ l. ((λ e. (h, hull.cell, record { is = hull.valid; within = λ xs s. this_has h xs s; whole = λ xs m. in_this h xs m })), (λ r. refl));
      antichain = λ l. pairs_one AreIncomparable h;
    };
    small = λ w l. subst (λ y. IsSmallZone y (columns_of f * greatest_reach zones)) (in_one h w l) small;
  }

  -- the set is not that of one zone
  module _ (made : List ZoneView) (thin : IsThinned zones made) where
    made_to : (xs : List ℤ) → InSome made xs → InSome zones xs
    made_to xs s = record { zone = s.zone; listed = (thin.kept s.zone s.listed).0; inside = s.inside }

    not_one : HasGap h zones → (w : ZoneView) → IsOfCell f w → AreOneZone made w → ⊥
    not_one gap w c o =
        let inside : IsWithin h w = hull.least w o.is c (λ xs s. o.within xs (thin.whole xs s)) in
        gap.none (made_to gap.tuple (o.whole gap.tuple (inside.each gap.tuple gap.inside)))

    pub settled_thinned : HasGap h zones → IsSettlement f zones made
    settled_thinned some = record {
      zones = λ w l. ((thin.kept w l).1, cells.each w (thin.kept w l).0);
      to = made_to;
      from = thin.whole;
      settled = record {
        none = λ e. absurd (omega (arith, more));
        one = λ e. absurd (omega (arith, more));
        more = λ l. (
          (λ e. let m : (w : ZoneView) × (made ≡ w ∷ []) = one_of made e in
              let k : Contains made m.0 = subst (λ ms. Contains ms m.0) (sym m.1) (one_in m.0) in (
                m.0,
                cells.each m.0 (thin.kept m.0 k).0,
                record {
                  is = (thin.kept m.0 k).1;
                  within = λ xs s. this_has m.0 xs (subst (λ ms. InSome ms xs) m.1 s);
                  whole = λ xs i. record { zone = m.0; listed = k; inside = i };
                },
              )),
          (λ r. absurd (not_one some r.0 r.1 r.2)),
        );
        antichain = λ l. thin.antichain;
      };
      small = λ w l.
          let r : reach_of w ≤ greatest_reach zones = reach_below zones w (thin.kept w l).0 in
          let n : columns_of w ≡ columns_of f = ap length (cells.each w (thin.kept w l).0).residues in
          let t : greatest_reach zones ≤ columns_of f * greatest_reach zones = times_more (columns_of f) _ (omega arith) in
          subst (λ k. IsSmallZone w (k * greatest_reach zones)) n (small_zone w (greatest_reach zones) (thin.kept w l).1 r (subst (λ k. reach_of w ≤ k * greatest_reach zones) (sym n) (omega arith)));
    }
