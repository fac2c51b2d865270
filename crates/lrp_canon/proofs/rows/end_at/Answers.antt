-- The stop at the place has the residue of the start, or there is none.
use Rattle.std.proofs.Common.{◌≡◌, ℕ, ◌<◌, ◌≤◌, ◌^◌, List, Some, None, FitsSigned, arith, get_or, length, subst, sym, ◌∙◌, to_z, of_z, w64}
use Rattle.std.specs.Prelude.{ℤ, pos, Contains, ◌-ℤ◌, ◌≤ℤ◌, neg_ℤ}
use Rattle.std.proofs.lemmas.Int.{ints}
use Rattle.std.proofs.lemmas.List.{get_or_default}
use Rattle.std.proofs.lemmas.List.Elements.{Contains-get_or}
use Rattle.lrp_theory.specs.Entries.{AtMost}
use Rattle.lrp_canon.specs.declared.edges.Edge.{Edge}
use Rattle.lrp_canon.specs.Pairing.{AreStopEdges}
use Rattle.lrp_canon.proofs.PairLaws.{ends_here, ends_other, ends_past}
use Rattle.lrp_canon.proofs.rows.end_at.Goals.{then-place-stops-via-then-place-stops, then-place-stops-via-else-place-stops+then-stops-place}
use Rattle.lrp_canon.proofs.rows.end_at.Goals as goal

-- the place is one of the list, where it is not its end
inside : (place n : ℕ) → place ≤ n → (place ≡ n → ⊥) → place < n
inside place n l ne = grind arith

-- a stop has a number, and the period can be taken from it
never_none : (period : ℕ) (stops : List Edge) (e : Edge) → AreStopEdges period stops → Contains stops e → e.number ≡ None → ⊥
never_none period stops e is l q = let n = is.numbers e l in cc

small : (period : ℕ) (stops : List Edge) (e : Edge) (n : ℤ) → AreStopEdges period stops → Contains stops e → e.number ≡ Some n → AtMost (2 ^ 62) (Some n)
small period stops e n is l q = of (is.numbers e l)
  where
    of : (y : ℤ) × (e.number ≡ Some y) × AtMost (2 ^ 62) (Some y) → AtMost (2 ^ 62) (Some n)
    of t = let f : Some t.0 ≡ Some n = sym t.1 ∙ q in subst (λ o. AtMost (2 ^ 62) o) f t.2

difference : (n : ℤ) (p : ℕ) → AtMost (2 ^ 62) (Some n) → p ≤ 2 ^ 62 → to_z w64 (of_z w64 (to_z w64 (of_z w64 n) -ℤ to_z w64 p)) ≡ n -ℤ pos p
difference n p a l = let b : neg_ℤ (pos (2 ^ 62)) ≤ℤ n = a.0 in let d : n ≤ℤ pos (2 ^ 62) = a.1 in omega (arith, ints)

fits : (n : ℤ) (p : ℕ) → AtMost (2 ^ 62) (Some n) → p ≤ 2 ^ 62 → FitsSigned w64 (to_z w64 (of_z w64 n) -ℤ to_z w64 p)
fits n p a l = let b : neg_ℤ (pos (2 ^ 62)) ≤ℤ n = a.0 in let d : n ≤ℤ pos (2 ^ 62) = a.1 in omega (arith, ints)

pub returns-then-place-stops : goal.returns-then-place-stops
returns-then-place-stops c = elim c.then-place-stops.branch [
  | then-place-stops-via-then-place-stops w ↦ ends_past c.args.period c.args.stops.now c.requires.stops c.args.place c.args.start.now c.requires.before c.requires.stop (omega (arith, w.if-place-stops.true))
  | then-place-stops-via-else-place-stops+then-stops-place w ↦ (
      let l : c.args.place < length c.args.stops.now = inside c.args.place (length c.args.stops.now) c.requires.place w.if-place-stops.false in
      let here : Edge = get_or c.args.stops.now c.args.place (record { residue = 0; number = None }) in
      ends_other c.args.period c.args.stops.now c.requires.stops c.args.place c.args.start.now c.requires.before c.requires.stop here l (get_or_default c.args.stops.now c.args.place here (record { residue = 0; number = None }) l) w.if-stops-place.true)
]

pub returns-in_err-number : goal.returns-in_err-number
returns-in_err-number c =
    let l : c.args.place < length c.args.stops.now = inside c.args.place (length c.args.stops.now) c.requires.place c.if-place-stops.false in
    absurd (never_none c.args.period c.args.stops.now (get_or c.args.stops.now c.args.place (record { residue = 0; number = None })) c.requires.stops (Contains-get_or c.args.stops.now c.args.place (record { residue = 0; number = None }) l) c.in_err-number.was)

pub overflow_sub-result : goal.overflow_sub-result
overflow_sub-result c =
    let l : c.args.place < length c.args.stops.now = inside c.args.place (length c.args.stops.now) c.requires.place c.if-place-stops.false in
    fits c.in_ok-number.number c.args.period (small c.args.period c.args.stops.now (get_or c.args.stops.now c.args.place (record { residue = 0; number = None })) c.in_ok-number.number c.requires.stops (Contains-get_or c.args.stops.now c.args.place (record { residue = 0; number = None }) l) c.in_ok-number.was) c.requires.stops.high

pub returns : goal.returns
returns c =
    let l : c.args.place < length c.args.stops.now = inside c.args.place (length c.args.stops.now) c.requires.place c.if-place-stops.false in
    let here : Edge = get_or c.args.stops.now c.args.place (record { residue = 0; number = None }) in
    ends_here c.args.period c.args.stops.now c.requires.stops c.args.place c.args.start.now c.requires.before c.requires.stop here l (get_or_default c.args.stops.now c.args.place here (record { residue = 0; number = None }) l) c.in_ok-number.number c.if-stops-place.false c.in_ok-number.was _
    (difference c.in_ok-number.number c.args.period (small c.args.period c.args.stops.now here c.in_ok-number.number c.requires.stops (Contains-get_or c.args.stops.now c.args.place (record { residue = 0; number = None }) l) c.in_ok-number.was) c.requires.stops.high)
