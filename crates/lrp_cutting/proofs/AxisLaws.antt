-- Windows of differences in order, and those that a search passes over.
use Rattle.std.proofs.Common.{◌≡◌, ℕ, ◌+◌, ◌-◌, ◌<◌, ◌≤◌, ◌^◌, inl, inr, List, [], ◌∷◌, ◌++◌, Option, Some, None, length, take, drop, get_or, arith, sym, subst, ap, ◌∙◌}
use Rattle.std.specs.Prelude.{ℤ, pos, neg_ℤ, ◌-ℤ◌, ◌≤ℤ◌, Contains, slice_get}
use Rattle.std.specs.List.Sorted.{IsPermutation}
use Rattle.std.proofs.lemmas.Int.{ints}
use Rattle.std.proofs.lemmas.List.{take-append-drop}
use Rattle.std.proofs.lemmas.List.Elements.{Contains-append_left, Contains-append_right, Contains-append_cases}
use Rattle.std.proofs.lemmas.List.Sorted.{Contains-permutation, IsPermutation-sym}
use Rattle.lrp_theory.specs.Bounds.{Within}
use Rattle.lrp_theory.specs.Entries.{AtMost, entry, node}
use Rattle.lrp_matrix.specs.Ranges.{Above}
use Rattle.lrp_zone.specs.Zones.{ZoneView, IsTight, IsZone, columns_of}
use Rattle.lrp_cutting.specs.declared.pairs.NodePair.{NodePair}
use Rattle.lrp_cutting.specs.declared.windows.CutterWindow.{CutterWindow as Window}
use Rattle.lrp_cutting.specs.Axes.{AreAxisWindows, AreHolding, HoldsWindow, IsAxisWindow, IsWindowOfBounds}
use Rattle.lrp_cutting.specs.Windows.{IsBefore, ReachTo}
use Rattle.lrp_cutting.proofs.Lists.{below_or, in_none, in_one, one_in}

-- a stored bound is small
small_if_tight : (k w : ℤ) (e : Option ℤ) → IsTight k w e → AtMost (2 ^ 62) e
small_if_tight k w None t = tt
small_if_tight k w (Some a) t = t.1

pub stored_small : (z : ZoneView) (i j : ℕ) → IsZone z → i ≤ columns_of z → j ≤ columns_of z → AtMost (2 ^ 62) (entry z.bounds i j)
stored_small z i j valid il jl = small_if_tight (pos z.period) (node z.residues i -ℤ node z.residues j) (entry z.bounds i j) (valid.shape.tight i j il jl)

-- ---- the windows of zones
pub axis_none : (zones : List ZoneView) (p : NodePair) → AreAxisWindows zones p 0 []
axis_none zones p = record { each = λ w l. absurd (in_none w l); whole = λ q l. absurd (omega arith) }

pub axis_more : (zones : List ZoneView) (p : NodePair) (n : ℕ) (ws : List Window) (z : ZoneView) (w : Window) → AreAxisWindows zones p n ws → slice_get zones n ≡ Some z → IsWindowOfBounds z.bounds p w → w.place ≡ n → AreAxisWindows zones p (n + 1) (ws ++ w ∷ [])
axis_more zones p n ws z w a is v at = record {
  each = λ y l. elim (Contains-append_cases ws (w ∷ []) y l) [
    | inl k ↦ a.each y k
    | inr k ↦ subst (IsAxisWindow zones p) (in_one w y k) (record { zone = z; is = ap (slice_get zones) at ∙ is; ends = v })
  ];
  whole = λ q l. elim (below_or q n) [
    | inl lt ↦ (let r = a.whole q lt in (r.0, Contains-append_left ws (w ∷ []) r.0 r.1, r.2))
    | inr ge ↦ (w, Contains-append_right ws (w ∷ []) w (one_in w), (let e : n ≡ q = omega arith in at ∙ e))
  ];
}

-- in another order
pub axis_moved : (zones : List ZoneView) (p : NodePair) (n : ℕ) (ws vs : List Window) → IsPermutation ws vs → AreAxisWindows zones p n ws → AreAxisWindows zones p n vs
axis_moved zones p n ws vs o a = record {
  each = λ w l. a.each w (Contains-permutation _ _ w (IsPermutation-sym _ _ o) l);
  whole = λ q l. (let r = a.whole q l in (r.0, Contains-permutation _ _ r.0 o r.1, r.2));
}

-- ---- the windows that hold another one
itself : (a : ℤ) → a ≤ℤ a
itself a = omega (arith, ints)

-- an end after which none comes is not before one that a later end reaches
not_passed : (e m f : Option ℤ) → ((x : ℤ) → Within x m → Within x f) → ((x : ℤ) → Within x f → Within x e) → IsBefore e m → ⊥
not_passed e None f a b h = h.none (pos 0) (b (pos 0) (a (pos 0) tt)) tt
not_passed e (Some m) f a b h = h.none m (b m (a m (itself m))) (itself m)

-- a start is not before one that is no later
not_late : (v w : Option ℤ) → ((x : ℤ) → Above x v → Above x w) → IsBefore v w → ⊥
not_late None w a h = h.none (pos 0) tt (a (pos 0) tt)
not_late (Some v) w a h = h.none v (itself v) (a v (itself v))

pub holding_is : (v : Window) (ws rest some : List Window) (es : List (Option ℤ)) (start end : ℕ) → ReachTo ws es → start ≤ length es → (0 < start → IsBefore (get_or es (start - 1) None) v.most) → rest ≡ drop start ws → some ≡ take end rest → ((w : Window) → Contains (drop end rest) w → IsBefore v.least w.least) → AreHolding v ws some
holding_is v ws rest some es start end r within before re ne after = record {
  listed = λ w l. subst (λ q. Contains q w) (take-append-drop start ws) (Contains-append_right (take start ws) (drop start ws) w (subst (λ q. Contains q w) re
      (subst (λ q. Contains q w) (take-append-drop end rest) (Contains-append_left (take end rest) (drop end rest) w (subst (λ q. Contains q w) ne l)))));
  whole = λ w l h. elim (Contains-append_cases (take start ws) (drop start ws) w (subst (λ q. Contains q w) (sym (take-append-drop start ws)) l)) [
    | inl a ↦ absurd (passed w a h)
    | inr a ↦ elim (Contains-append_cases (take end rest) (drop end rest) w (subst (λ q. Contains q w) (sym (take-append-drop end rest)) (subst (λ q. Contains q w) (sym re) a))) [
      | inl b ↦ subst (λ q. Contains q w) (sym ne) b
      | inr b ↦ absurd (not_late v.least w.least h.low.each (after w b))
    ]
  ];
}
  where
    passed : (w : Window) → Contains (take start ws) w → HoldsWindow v w → ⊥
    passed w a h = elim (below_or 0 start) [
      | inl lt ↦ (let on : start ≡ start - 1 + 1 = omega arith in
          not_passed (get_or es (start - 1) None) v.most w.most h.high (r.each (start - 1) (omega arith) w (subst (λ n. Contains (take n ws) w) on a)) (before lt))
      | inr ge ↦ (let none : start ≡ 0 = omega arith in in_none w (subst (λ n. Contains (take n ws) w) none a))
    ]
