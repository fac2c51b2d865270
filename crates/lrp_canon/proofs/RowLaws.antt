-- The set of finitely many rows of one period repeats with it at both ends.
use Rattle.std.proofs.Common.{ℕ, ◌+◌, ◌≤◌, inl, inr, List, [], ◌∷◌, Option, Some, None, arith, subst}
use Rattle.std.specs.Prelude.{ℤ, pos, nat_abs, ◌+ℤ◌, ◌-ℤ◌, ◌≤ℤ◌, neg_ℤ, Contains}
use Rattle.std.proofs.lemmas.Int.{ints}
use Rattle.lrp_theory.specs.Bounds.{Within}
use Rattle.lrp_theory.specs.Divides.{Divides}
use Rattle.lrp_theory.proofs.Modulo.{Divides-+, Divides--, Divides-is, Divides-self, Divides-zero}
use Rattle.lrp_matrix.specs.Ranges.{Above}
use Rattle.lrp_spans.specs.Repeating.{RepeatsAtEnds}
use Rattle.lrp_canon.specs.Rows.{InSomeRow, IsSetOfRows, PeriodicRow}
use Rattle.lrp_spans.proofs.Lists.{in_cons, in_none}

-- the magnitude of an end, and those of all ends of rows together
magnitude : Option ℤ → ℕ
magnitude None = 0
magnitude (Some a) = nat_abs a

pub reach : {T : Type 0} → List (PeriodicRow T) → ℕ
unfolding magnitude
reach [] = 1
reach (row ∷ rows) = magnitude row.least + magnitude row.most + reach rows

reach_low : {T : Type 0} (rows : List (PeriodicRow T)) → 1 ≤ reach rows
unfolding reach
reach_low [] = omega arith
reach_low (r ∷ rs) = let p : 1 ≤ reach rs = reach_low rs in omega (arith, p)

reach_row : {T : Type 0} (rows : List (PeriodicRow T)) (row : PeriodicRow T) → Contains rows row → magnitude row.least + magnitude row.most + 1 ≤ reach rows
unfolding reach
reach_row [] row l = absurd (in_none row l)
reach_row (first ∷ rows) row l = elim (in_cons first rows row l) [
  | inl e ↦ subst (λ r. magnitude r.least + magnitude r.most + 1 ≤ magnitude first.least + magnitude first.most + reach rows) e (let p : 1 ≤ reach rows = reach_low rows in omega (arith, p))
  | inr m ↦ (let p : magnitude row.least + magnitude row.most + 1 ≤ reach rows = reach_row rows row m in omega (arith, p))
]

-- after the magnitude of an end
above_far : (x : ℤ) (h : ℕ) (e : Option ℤ) → magnitude e + 1 ≤ h → pos h ≤ℤ x → Above x e
unfolding magnitude
above_far x h None l g = tt
above_far x h (Some a) l g = omega (arith, ints)

within_far : (x y : ℤ) (h : ℕ) (e : Option ℤ) → magnitude e + 1 ≤ h → pos h ≤ℤ x → Within x e → Within y e
unfolding magnitude
within_far x y h None l g w = tt
within_far x y h (Some a) l g w = absurd (omega (arith, ints))

within_deep : (x : ℤ) (h : ℕ) (e : Option ℤ) → magnitude e + 1 ≤ h → x ≤ℤ neg_ℤ (pos h) → Within x e
unfolding magnitude
within_deep x h None l g = tt
within_deep x h (Some a) l g = omega (arith, ints)

above_deep : (x y : ℤ) (h : ℕ) (e : Option ℤ) → magnitude e + 1 ≤ h → x ≤ℤ neg_ℤ (pos h) → Above x e → Above y e
unfolding magnitude
above_deep x y h None l g w = tt
above_deep x y h (Some a) l g w = absurd (omega (arith, ints))

module _ {T : Type 0} (period : ℕ) (rows : List (PeriodicRow T)) (texts : List T) where
  least_far : (row : PeriodicRow T) → Contains rows row → magnitude row.least + 1 ≤ reach rows
  least_far row l = let p : magnitude row.least + magnitude row.most + 1 ≤ reach rows = reach_row rows row l in omega (arith, p)

  most_far : (row : PeriodicRow T) → Contains rows row → magnitude row.most + 1 ≤ reach rows
  most_far row l = let p : magnitude row.least + magnitude row.most + 1 ≤ reach rows = reach_row rows row l in omega (arith, p)

  -- a number of a row far up, and another one of its residue
  moved_up : (x y : ℤ) → pos (reach rows) ≤ℤ x → pos (reach rows) ≤ℤ y → Divides (pos period) (y -ℤ x) → InSomeRow period rows x texts → InSomeRow period rows y texts
  moved_up x y g f d o = record {
    row = o.row;
    listed = o.listed;
    inside = record {
      named = o.inside.named;
      residue = Divides-is (pos period) ((y -ℤ x) +ℤ (x -ℤ o.row.residue)) _ (omega (arith, ints)) (Divides-+ (pos period) _ _ d o.inside.residue);
      low = above_far y (reach rows) o.row.least (least_far o.row o.listed) f;
      high = within_far x y (reach rows) o.row.most (most_far o.row o.listed) g o.inside.high;
    };
  }

  moved_down : (x y : ℤ) → x ≤ℤ neg_ℤ (pos (reach rows)) → y ≤ℤ neg_ℤ (pos (reach rows)) → Divides (pos period) (y -ℤ x) → InSomeRow period rows x texts → InSomeRow period rows y texts
  moved_down x y g f d o = record {
    row = o.row;
    listed = o.listed;
    inside = record {
      named = o.inside.named;
      residue = Divides-is (pos period) ((y -ℤ x) +ℤ (x -ℤ o.row.residue)) _ (omega (arith, ints)) (Divides-+ (pos period) _ _ d o.inside.residue);
      low = above_deep x y (reach rows) o.row.least (least_far o.row o.listed) g o.inside.low;
      high = within_deep y (reach rows) o.row.most (most_far o.row o.listed) f;
    };
  }

  plus : (x : ℤ) → Divides (pos period) ((x +ℤ pos period) -ℤ x)
  plus x = Divides-is (pos period) (pos period) _ (omega (arith, ints)) (Divides-self (pos period))

  minus : (x : ℤ) → Divides (pos period) (x -ℤ (x +ℤ pos period))
  minus x = Divides-is (pos period) (pos 0 -ℤ pos period) _ (omega (arith, ints)) (Divides-- (pos period) (pos 0) (pos period) (Divides-zero (pos period)) (Divides-self (pos period)))

  minus_down : (x : ℤ) → Divides (pos period) ((x -ℤ pos period) -ℤ x)
  minus_down x = Divides-is (pos period) (x -ℤ (x +ℤ pos period)) _ (omega (arith, ints)) (minus x)

  plus_down : (x : ℤ) → Divides (pos period) (x -ℤ (x -ℤ pos period))
  plus_down x = Divides-is (pos period) ((x +ℤ pos period) -ℤ x) _ (omega (arith, ints)) (plus x)

  -- the numbers with these texts repeat at both ends
  pub rows_repeat : RepeatsAtEnds (λ x. InSomeRow period rows x texts) (reach rows) period
  rows_repeat = record {
    on = λ x g o. moved_up x (x +ℤ pos period) g (omega (arith, ints)) (plus x) o;
    back = λ x g o. moved_up (x +ℤ pos period) x (omega (arith, ints)) g (minus x) o;
    down = λ x g o. moved_down x (x -ℤ pos period) g (omega (arith, ints)) (minus_down x) o;
    up = λ x g o. moved_down (x -ℤ pos period) x (omega (arith, ints)) g (plus_down x) o;
  }

-- so a set of such rows repeats at both ends, for all texts from one bound on
pub set_repeats : {T : Type 0} (set : ℤ → List T → Type 0) (period : ℕ) → IsSetOfRows set period → (bound : ℕ) × ((texts : List T) → RepeatsAtEnds (λ x. set x texts) bound period)
set_repeats set period s = (
  reach s.rows,
  λ texts. (
      let r = rows_repeat period s.rows texts in
      record {
        on = λ x g h. s.sound (x +ℤ pos period) texts (r.on x g (s.whole x texts h));
        back = λ x g h. s.sound x texts (r.back x g (s.whole (x +ℤ pos period) texts h));
        down = λ x g h. s.sound (x -ℤ pos period) texts (r.down x g (s.whole x texts h));
        up = λ x g h. s.sound x texts (r.up x g (s.whole (x -ℤ pos period) texts h));
      }),
)
