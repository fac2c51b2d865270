-- A set of spans repeats far up exactly as the residues of the spans without a last turn do.
use Rattle.std.proofs.Common.{◌≡◌, ℕ, zero, suc, ◌+◌, ◌*◌, ◌<◌, ◌≤◌, ◌⊎◌, inl, inr, List, Option, Some, None, arith, refl, sym, subst}
use Rattle.std.specs.Prelude.{ℤ, pos, negsuc, nat_abs, ◌+ℤ◌, ◌-ℤ◌, ◌≤ℤ◌, ◌<ℤ◌, neg_ℤ, Contains}
use Rattle.std.proofs.Math.IntN.{◌*ℤ◌}
use Rattle.std.proofs.lemmas.Int.{ints}
use Rattle.lrp_theory.specs.Bounds.{Within}
use Rattle.lrp_theory.specs.Divides.{Divides}
use Rattle.lrp_theory.specs.Entries.{AtMost}
use Rattle.lrp_theory.proofs.Modulo.{Divides-+, Divides-is, Divides-neg, distrib, minus_right}
use Rattle.lrp_theory.proofs.Multiples.{Divides-multiple}
use Rattle.lrp_matrix.specs.Ranges.{Above}
use Rattle.lrp_spans.specs.declared.spans.Span.{Span}
use Rattle.lrp_spans.specs.Repeating.{HasOneOf, Repeats, RepeatsAtEnds}
use Rattle.lrp_spans.specs.Spans.{AreOpenAbove, AreOpenBelow, SpansHaveNumber, IsSpan}

-- another number of the same residue
pub moved : (k : ℕ) (residues : List ℕ) (x y : ℤ) → Divides (pos k) (y -ℤ x) → HasOneOf k residues x → HasOneOf k residues y
moved k residues x y d o = record { residue = o.residue; listed = o.listed; is = Divides-is (pos k) ((y -ℤ x) +ℤ (x -ℤ pos o.residue)) _ (omega (arith, ints)) (Divides-+ (pos k) _ _ d o.is) }

pub at_least : (k n : ℕ) → 0 < k → n ≤ k * n
at_least zero n l = absurd (omega arith)
at_least (suc k) n l = omega arith

no_more : (k m n : ℕ) → m ≤ n → k * m ≤ k * n
no_more zero m n l = omega arith
no_more (suc k) m n l = let p : k * m ≤ k * n = no_more k m n l in omega (arith, p, l)

-- a turn that is far enough is after each first end, and before no last one
pub after_first : (h : ℕ) (n : ℤ) (e : Option ℤ) → AtMost h e → pos h ≤ℤ n → Above n e
after_first h n None a l = tt
after_first h n (Some f) a l = let m : f ≤ℤ pos h = a.1 in omega (arith, ints)

no_last : (h : ℕ) (n : ℤ) (e : Option ℤ) → AtMost h e → pos h <ℤ n → Within n e → e ≡ None
no_last h n None a l w = refl
no_last h n (Some f) a l w = let m : f ≤ℤ pos h = a.1 in absurd (omega (arith, ints))

-- and one far down is before each last end, and after no first one
pub before_last : (h : ℕ) (n : ℤ) (e : Option ℤ) → AtMost h e → n ≤ℤ neg_ℤ (pos h) → Within n e
before_last h n None a l = tt
before_last h n (Some f) a l = let m : neg_ℤ (pos h) ≤ℤ f = a.0 in omega (arith, ints)

pub no_first : (h : ℕ) (n : ℤ) (e : Option ℤ) → AtMost h e → n <ℤ neg_ℤ (pos h) → Above n e → e ≡ None
no_first h n None a l w = refl
no_first h n (Some f) a l w = let m : neg_ℤ (pos h) ≤ℤ f = a.0 in absurd (omega (arith, ints))

-- a number far down is of a turn far down
pub deep_turn : (k h r : ℕ) (n y : ℤ) → 0 < k → y ≡ pos r +ℤ (pos k *ℤ n) → y ≤ℤ neg_ℤ (pos (k * (h + 1))) → n <ℤ neg_ℤ (pos h)
deep_turn k h r (pos m) y l e g =
    let f : y ≡ pos r +ℤ pos (k * m) = e in
    let p : h + 1 ≤ k * (h + 1) = at_least k (h + 1) l in
    absurd (omega (arith, ints, p))
deep_turn k h r (negsuc m) y l e g =
    let f : y ≡ pos r +ℤ neg_ℤ (pos (k * suc m)) = e in
    let o : (suc m ≤ h) ⊎ (h < suc m) = grind arith in
    elim o [
      | inl a ↦ (let p : k * suc m ≤ k * h = no_more k (suc m) h a in let q : k * (h + 1) ≡ k * h + k = omega arith in absurd (omega (arith, ints, p, q, l)))
      | inr b ↦ omega (arith, ints)
    ]

-- a number far up is of a turn far up
pub far_turn : (k h r : ℕ) (n y : ℤ) → r < k → y ≡ pos r +ℤ (pos k *ℤ n) → pos (k * (h + 1)) ≤ℤ y → pos h <ℤ n
far_turn k h r (pos m) y l e g =
    let f : y ≡ pos r +ℤ pos (k * m) = e in
    let o : (m ≤ h) ⊎ (h < m) = grind arith in
    elim o [
      | inl a ↦ (let p : k * m ≤ k * h = no_more k m h a in let q : k * (h + 1) ≡ k * h + k = omega arith in absurd (omega (arith, ints, p, q)))
      | inr b ↦ omega (arith, ints)
    ]
far_turn k h r (negsuc m) y l e g =
    let f : y ≡ pos r +ℤ neg_ℤ (pos (k * suc m)) = e in
    let p : k ≤ k * suc m = omega arith in
    absurd (omega (arith, ints))

module _ (k high : ℕ) (spans : List Span) (residues : List ℕ) (low : 0 < k) (each : (s : Span) → Contains spans s → IsSpan high s) (below : (s : Span) → Contains spans s → s.residue < k) (ends : AreOpenAbove spans residues) where
  -- so many periods further up a number of the residues is one of the spans
  to_far : (x : ℤ) (o : HasOneOf k residues x) (c : ℕ) → high + nat_abs o.is.times ≤ c → SpansHaveNumber k spans (x +ℤ pos (k * c))
  to_far x o c l =
      let t = ends.to o.residue o.listed in
      let n : ℤ = o.is.times +ℤ pos c in
      let d : pos k *ℤ n ≡ (pos k *ℤ o.is.times) +ℤ pos (k * c) = distrib (pos k) o.is.times (pos c) in
      let e : x -ℤ pos o.residue ≡ pos k *ℤ o.is.times = o.is.is in
      record {
        residue = o.residue;
        turn = n;
        is = omega (arith, ints);
        inside = record {
          span = t.0;
          listed = t.1;
          is = record {
            residue = t.2;
            low = after_first high n t.0.first (each t.0 t.1).first (far_enough o.is.times c l);
            high = subst (Within n) (sym t.3) tt;
          };
        };
      }
    where
      far_enough : (t : ℤ) (c : ℕ) → high + nat_abs t ≤ c → pos high ≤ℤ (t +ℤ pos c)
      far_enough t c l = omega (arith, ints)

  -- and a number of the spans far up has one of the residues
  pub from_far : (y : ℤ) → pos (k * (high + 1)) ≤ℤ y → SpansHaveNumber k spans y → HasOneOf k residues y
  from_far y g h =
      let s : Span = h.inside.span in
      let v : IsSpan high s = each s h.inside.listed in
      let r : s.residue ≡ h.residue = h.inside.is.residue in
      let l : h.residue < k = subst (λ z. z < k) r (below s h.inside.listed) in
      let n : pos high <ℤ h.turn = far_turn k high h.residue h.turn y l h.is g in
      record {
        residue = h.residue;
        listed = subst (Contains residues) r (ends.from s h.inside.listed (no_last high h.turn s.last v.last n h.inside.is.high));
        is = record { times = h.turn; is = (let e : y ≡ pos h.residue +ℤ (pos k *ℤ h.turn) = h.is in omega (arith, ints)) };
      }

  -- how many periods are enough for a number, so that it comes after the bound and all ends
  enough : (bound : ℕ) (x : ℤ) (t : ℤ) → (c : ℕ) × (high + nat_abs t ≤ c) × (pos bound ≤ℤ (x +ℤ pos (k * c))) × (pos (k * (high + 1)) ≤ℤ (x +ℤ pos (k * c)))
  enough bound x t =
      let rest : ℕ = nat_abs t + bound + nat_abs x in
      let c : ℕ = (high + 1) + rest in
      let p : rest ≤ k * rest = at_least k rest low in
      let q : k * c ≡ k * (high + 1) + k * rest = omega arith in
      (c, omega arith, omega (arith, ints, p, q), omega (arith, ints, p, q))

  back_by : (x : ℤ) (c : ℕ) → Divides (pos k) (x -ℤ (x +ℤ pos (k * c)))
  back_by x c = Divides-is (pos k) (neg_ℤ (pos (k * c))) _ (omega (arith, ints)) (Divides-neg (pos k) (pos (k * c)) (Divides-multiple k c))

  -- where the numbers of the spans repeat far up, so do those of the residues
  pub repeats_above : (bound step : ℕ) → 0 < step → RepeatsAtEnds (SpansHaveNumber k spans) bound step → Repeats (HasOneOf k residues) step
  repeats_above bound step positive r = record {
    positive = positive;
    on = λ x o. (
        let c = enough bound x o.is.times in
        let y : ℤ = x +ℤ pos (k * c.0) in
        let h : SpansHaveNumber k spans (y +ℤ pos step) = r.on y c.2 (to_far x o c.0 c.1) in
        let g : HasOneOf k residues (y +ℤ pos step) = from_far (y +ℤ pos step) (let p : pos (k * (high + 1)) ≤ℤ y = c.3 in omega (arith, ints)) h in
        moved k residues (y +ℤ pos step) (x +ℤ pos step) (Divides-is (pos k) (x -ℤ y) _ (omega (arith, ints)) (back_by x c.0)) g);
    back = λ x o. (
        let c = enough bound x o.is.times in
        let y : ℤ = x +ℤ pos (k * c.0) in
        let e : (x +ℤ pos step) +ℤ pos (k * c.0) ≡ y +ℤ pos step = omega (arith, ints) in
        let h : SpansHaveNumber k spans y = r.back y c.2 (subst (SpansHaveNumber k spans) e (to_far (x +ℤ pos step) o c.0 c.1)) in
        moved k residues y x (back_by x c.0) (from_far y c.3 h));
  }

module _ (k high : ℕ) (spans : List Span) (residues : List ℕ) (low : 0 < k) (each : (s : Span) → Contains spans s → IsSpan high s) (below : (s : Span) → Contains spans s → s.residue < k) (ends : AreOpenBelow spans residues) where
  -- so many periods further down a number of the residues is one of the spans
  to_deep : (x : ℤ) (o : HasOneOf k residues x) (c : ℕ) → high + nat_abs o.is.times ≤ c → SpansHaveNumber k spans (x -ℤ pos (k * c))
  to_deep x o c l =
      let t = ends.to o.residue o.listed in
      let n : ℤ = o.is.times -ℤ pos c in
      let d : pos k *ℤ n ≡ (pos k *ℤ o.is.times) -ℤ pos (k * c) = minus_right (pos k) o.is.times (pos c) in
      let e : x -ℤ pos o.residue ≡ pos k *ℤ o.is.times = o.is.is in
      record {
        residue = o.residue;
        turn = n;
        is = omega (arith, ints);
        inside = record {
          span = t.0;
          listed = t.1;
          is = record {
            residue = t.2;
            low = subst (Above n) (sym t.3) tt;
            high = before_last high n t.0.last (each t.0 t.1).last (deep_enough o.is.times c l);
          };
        };
      }
    where
      deep_enough : (t : ℤ) (c : ℕ) → high + nat_abs t ≤ c → (t -ℤ pos c) ≤ℤ neg_ℤ (pos high)
      deep_enough t c l = omega (arith, ints)

  -- and a number of the spans far down has one of the residues
  pub from_deep : (y : ℤ) → y ≤ℤ neg_ℤ (pos (k * (high + 1))) → SpansHaveNumber k spans y → HasOneOf k residues y
  from_deep y g h =
      let s : Span = h.inside.span in
      let v : IsSpan high s = each s h.inside.listed in
      let r : s.residue ≡ h.residue = h.inside.is.residue in
      let n : h.turn <ℤ neg_ℤ (pos high) = deep_turn k high h.residue h.turn y low h.is g in
      record {
        residue = h.residue;
        listed = subst (Contains residues) r (ends.from s h.inside.listed (no_first high h.turn s.first v.first n h.inside.is.low));
        is = record { times = h.turn; is = (let e : y ≡ pos h.residue +ℤ (pos k *ℤ h.turn) = h.is in omega (arith, ints)) };
      }

  -- how many periods are enough for a number, so that it comes before the negative bound and all ends
  enough_down : (bound : ℕ) (x : ℤ) (t : ℤ) → (c : ℕ) × (high + nat_abs t ≤ c) × ((x -ℤ pos (k * c)) ≤ℤ neg_ℤ (pos bound)) × ((x -ℤ pos (k * c)) ≤ℤ neg_ℤ (pos (k * (high + 1))))
  enough_down bound x t =
      let rest : ℕ = nat_abs t + bound + nat_abs x in
      let c : ℕ = (high + 1) + rest in
      let p : rest ≤ k * rest = at_least k rest low in
      let q : k * c ≡ k * (high + 1) + k * rest = omega arith in
      (c, omega arith, omega (arith, ints, p, q), omega (arith, ints, p, q))

  back_up : (x : ℤ) (c : ℕ) → Divides (pos k) (x -ℤ (x -ℤ pos (k * c)))
  back_up x c = Divides-is (pos k) (pos (k * c)) _ (omega (arith, ints)) (Divides-multiple k c)

  -- where the numbers of the spans repeat far down, so do those of the residues
  pub repeats_below : (bound step : ℕ) → 0 < step → RepeatsAtEnds (SpansHaveNumber k spans) bound step → Repeats (HasOneOf k residues) step
  repeats_below bound step positive r = record {
    positive = positive;
    on = λ x o. (
        let c = enough_down (bound + step + k * (high + 1)) x o.is.times in
        let y : ℤ = x -ℤ pos (k * c.0) in
        let p : y ≤ℤ neg_ℤ (pos (bound + step + k * (high + 1))) = c.2 in
        let e : y ≡ (y +ℤ pos step) -ℤ pos step = omega (arith, ints) in
        let h : SpansHaveNumber k spans (y +ℤ pos step) = r.up (y +ℤ pos step) (omega (arith, ints)) (subst (SpansHaveNumber k spans) e (to_deep x o c.0 c.1)) in
        let g : HasOneOf k residues (y +ℤ pos step) = from_deep (y +ℤ pos step) (omega (arith, ints)) h in
        moved k residues (y +ℤ pos step) (x +ℤ pos step) (Divides-is (pos k) (x -ℤ y) _ (omega (arith, ints)) (back_up x c.0)) g);
    back = λ x o. (
        let c = enough_down (bound + step) (x +ℤ pos step) o.is.times in
        let y : ℤ = (x +ℤ pos step) -ℤ pos (k * c.0) in
        let p : y ≤ℤ neg_ℤ (pos (bound + step)) = c.2 in
        let h : SpansHaveNumber k spans (y -ℤ pos step) = r.down y (omega (arith, ints)) (to_deep (x +ℤ pos step) o c.0 c.1) in
        let q : y ≤ℤ neg_ℤ (pos (k * (high + 1))) = c.3 in
        let g : HasOneOf k residues (y -ℤ pos step) = from_deep (y -ℤ pos step) (omega (arith, ints)) h in
        moved k residues (y -ℤ pos step) x (Divides-is (pos k) ((x +ℤ pos step) -ℤ y) _ (omega (arith, ints)) (back_up (x +ℤ pos step) c.0)) g);
  }
