-- Cutters near a zone: each that it meets has a window near it, and no others are taken away.
use Rattle.std.proofs.Common.{◌≡◌, ℕ, zero, suc, ◌+◌, ◌<◌, ◌≤◌, inl, inr, List, [], ◌∷◌, ◌++◌, Some, length, get_or, arith, sym, subst, ◌∙◌, ap}
use Rattle.std.specs.Prelude.{ℤ, Contains, slice_get}
use Rattle.std.proofs.lemmas.List.Elements.{Contains-append_left, Contains-append_right, Contains-append_cases}
use Rattle.std.proofs.lemmas.Option.{slice_get_within, get_or_from_slice_get}
use Rattle.lrp_zone.specs.Zones.{ZoneView, IsMember, reach_of}
use Rattle.lrp_store.specs.Settled.{InSome}
use Rattle.lrp_cutting.specs.declared.windows.Line.{Line}
use Rattle.lrp_cutting.specs.declared.windows.CutterWindow.{CutterWindow as Window}
use Rattle.lrp_cutting.specs.Cutting.{HaveCommon}
use Rattle.lrp_cutting.specs.Differences.{AreOfCell, greatest_reach}
use Rattle.lrp_cutting.specs.Leaving.{AreLeftOf}
use Rattle.lrp_cutting.specs.Windows.{IsLineOf, IsWindowIn, AreNearCutters as AreNear, AreNearIn, AreLinesFor, AreThoseMet, HaveLines}
use Rattle.lrp_cutting.proofs.Lists.{greatest_below, in_cons, in_none, in_one, one_in, later, head_in, reach_below, some_in}
use Rattle.lrp_cutting.proofs.UndividedLaws.{undivided_more}

-- what is read at a place
same_read : {X : Type 0} (xs : List X) (i : ℕ) (x y : X) → slice_get xs i ≡ Some x → slice_get xs i ≡ Some y → x ≡ y
same_read xs i x y a b = cc (a, b)

-- the place of an element of a list
pub place_in : {X : Type 0} (xs : List X) (x : X) → Contains xs x → (i : ℕ) × (slice_get xs i ≡ Some x)
place_in [] x h = absurd (in_none x h)
place_in (y ∷ ys) x h = elim (in_cons y ys x h) [
  | inl e ↦ (0, ap Some e)
  | inr k ↦ (let r = place_in ys x k in (r.0 + 1, (let n : r.0 + 1 ≡ suc_of r.0 = omega arith in ap (slice_get (y ∷ ys)) n ∙ r.1)))
]
  where
    suc_of : ℕ → ℕ
    suc_of n = suc n

-- what is read at a place, as it is found there
pub read_at : {X : Type 0} (xs : List X) (i : ℕ) (x : X) → i < length xs → x ≡ get_or xs i x → slice_get xs i ≡ Some x
read_at [] i x l e = absurd (omega arith)
read_at (y ∷ ys) zero x l e = ap Some (sym e)
read_at (y ∷ ys) (suc i) x l e = read_at ys i x (omega arith) e

-- ---- one line
pub near_in : (z : ZoneView) (zones : List ZoneView) (l : Line) (near : List Window) → IsLineOf zones l → AreNear z l.column l.windows.items near → AreNearIn z zones near
near_in z zones l near is a = record {
  listed = λ w k. (let r : IsWindowIn zones l.column w = is.windows.each w (a.listed w k) in slice_get_within zones w.place r.zone r.is);
  whole = λ p y at c.
      let r = is.windows.whole p (slice_get_within zones p y at) in
      let in_it : IsWindowIn zones l.column r.0 = is.windows.each r.0 r.1 in
      let same : in_it.zone ≡ y = same_read zones p in_it.zone y (ap (slice_get zones) (sym r.2) ∙ in_it.is) at in
      (r.0, a.whole r.0 c.common r.1 c.left (in_it.window.each c.common (subst (λ q. IsMember q c.common) (sym same) c.right)), r.2);
}

-- ---- several lines
pub lines_for : (z : ZoneView) (zones : List ZoneView) (lines : List Line) → AreOfCell z zones → HaveLines zones lines → AreLinesFor z lines
lines_for z zones lines cells h = record {
  each = λ l k.
      let is : IsLineOf zones l = h.each l k in
      let y = some_in zones is.some in
      (is.line, subst (λ rs. l.column ≤ length rs) (cells.each y.0 y.1).residues (is.column y.0 y.1));
}

pub lines_none : (zones : List ZoneView) → HaveLines zones []
lines_none zones = record { each = λ l k. absurd (in_none l k) }

pub lines_more : (zones : List ZoneView) (lines : List Line) (l : Line) → HaveLines zones lines → IsLineOf zones l → HaveLines zones (lines ++ l ∷ [])
lines_more zones lines l h is = record {
  each = λ k m. elim (Contains-append_cases lines (l ∷ []) k m) [
    | inl a ↦ h.each k a
    | inr a ↦ subst (IsLineOf zones) (in_one l k a) is
  ];
}

-- ---- the cutters that are met
-- those of the first windows that a zone meets
pub record AreMetOf (z : ZoneView) (cutters : List ZoneView) (done : List Window) (met : List ZoneView) : Type 0 where
  pub listed : (w : ZoneView) → Contains met w → Contains cutters w
  pub whole : (w : Window) (y : ZoneView) → Contains done w → slice_get cutters w.place ≡ Some y → HaveCommon z y → Contains met y

pub met_none : (z : ZoneView) (cutters : List ZoneView) → AreMetOf z cutters [] []
met_none z cutters = record { listed = λ w l. absurd (in_none w l); whole = λ w y l. absurd (in_none w l) }

module _ (z : ZoneView) (cutters : List ZoneView) (done : List Window) (met : List ZoneView) (a : AreMetOf z cutters done met) (w : Window) (c : ZoneView) (at : slice_get cutters w.place ≡ Some c) where
  is_it : (v : Window) (y : ZoneView) → Contains (w ∷ []) v → slice_get cutters v.place ≡ Some y → c ≡ y
  is_it v y k is = same_read cutters v.place c y (subst (λ q. slice_get cutters q.place ≡ Some c) (in_one w v k) at) is

  pub met_more : AreMetOf z cutters (done ++ w ∷ []) (met ++ c ∷ [])
  met_more = record {
    listed = λ v l. elim (Contains-append_cases met (c ∷ []) v l) [
      | inl k ↦ a.listed v k
      | inr k ↦ subst (Contains cutters) (in_one c v k) (w.place, slice_get_within cutters w.place c at, get_or_from_slice_get cutters w.place c c at)
    ];
    whole = λ v y l is h. elim (Contains-append_cases done (w ∷ []) v l) [
      | inl k ↦ Contains-append_left met (c ∷ []) y (a.whole v y k is h)
      | inr k ↦ subst (Contains (met ++ c ∷ [])) (is_it v y k is) (Contains-append_right met (c ∷ []) c (one_in c))
    ];
  }

  pub met_same : (HaveCommon z c → ⊥) → AreMetOf z cutters (done ++ w ∷ []) met
  met_same none = record {
    listed = a.listed;
    whole = λ v y l is h. elim (Contains-append_cases done (w ∷ []) v l) [
      | inl k ↦ a.whole v y k is h
      | inr k ↦ absurd (none (subst (HaveCommon z) (sym (is_it v y k is)) h))
    ];
  }

pub met_all : (z : ZoneView) (cutters : List ZoneView) (near : List Window) (met : List ZoneView) → AreNearIn z cutters near → AreMetOf z cutters near met → AreThoseMet z cutters met
met_all z cutters near met n a = record {
  listed = a.listed;
  whole = λ xs m s.
      let p = place_in cutters s.zone s.listed in
      let c : HaveCommon z s.zone = record { common = xs; left = m; right = s.inside } in
      let w = n.whole p.0 s.zone p.1 c in
      record { zone = s.zone; listed = a.whole w.0 s.zone w.1 (ap (slice_get cutters) w.2 ∙ p.1) c; inside = s.inside };
}

-- ---- what is left among those that are met
module _ (z : ZoneView) (cutters met : List ZoneView) (a : AreThoseMet z cutters met) where
  pub met_cell : AreOfCell z cutters → AreOfCell z met
  met_cell cells = record { each = λ w l. cells.each w (a.listed w l) }

  pub met_reach : greatest_reach (z ∷ met) ≤ greatest_reach (z ∷ cutters)
  met_reach = greatest_below (z ∷ met) (greatest_reach (z ∷ cutters)) (λ w l. elim (in_cons z met w l) [
    | inl e ↦ reach_below (z ∷ cutters) w (subst (Contains (z ∷ cutters)) e (head_in z cutters))
    | inr k ↦ reach_below (z ∷ cutters) w (later z cutters w (a.listed w k))
  ])

  pub left_among : (low high : ℕ) (pieces : List ZoneView) → low ≤ high → AreLeftOf z (z ∷ []) met low pieces → AreLeftOf z (z ∷ []) cutters high pieces
  left_among low high pieces le p = record {
    zones = p.zones;
    disjoint = p.disjoint;
    undivided = λ w l. undivided_more z cutters met w a.listed (p.undivided w l);
    to = λ xs s. (let t = p.to xs s in (t.0, λ c. t.1 (a.whole xs (own xs t.0) c)));
    from = λ xs s out. p.from xs s (λ c. out (record { zone = c.zone; listed = a.listed c.zone c.listed; inside = c.inside }));
    reach = λ w l. (let r : reach_of w ≤ low = p.reach w l in omega arith);
  }
    where
      own : (xs : List ℤ) → InSome (z ∷ []) xs → IsMember z xs
      own xs s = subst (λ y. IsMember y xs) (sym (in_one z s.zone s.listed)) s.inside
