-- The sample has at most 16 answers a trip in its first day.
use Rattle.std.proofs.Common.{◌≡◌, ℕ, zero, suc, ◌*◌, ◌/◌, ◌<◌, ◌≤◌, List, [], ◌∷◌, length, get_or, Ordering, Less, Equal, Greater, refl, sym, ap₂, subst, ◌∙◌, inl, inr, arith}
use Rattle.std.specs.Prelude.{ℤ, pos, ◌-ℤ◌, ◌≤ℤ◌, AllPairs}
use Rattle.std.specs.List.{AllByRecursion}
use Rattle.std.specs.Ordering.{ordering_reverse}
use Rattle.std.proofs.lemmas.Bool.{cases_lt}
use Rattle.std.proofs.lemmas.Int.{ints}
use Rattle.lrp_theory.specs.Divides.{IsPointMember}
use Rattle.lrp_theory.proofs.Modulo.{Divides-is, Divides-zero}
use Rattle.lrp_model.specs.Cells.{Many}
use Rattle.lrp_model.specs.Order.{Before, InWindow, tuple_cmp}
use Rattle.lrp_model.specs.Pages.{Rises}
use Rattle.lrp_model.specs.Rows.{Datum, time, text, Tuple}
use Rattle.lrp_model.specs.Satisfaction.{IsAnswer, assignment}
use Rattle.lrp_model.specs.Texts.{Text}
use Rattle.lrp_model.proofs.Resume.{tuples_total}
use Rattle.lrp_sample.specs.Texts.{departure, line}
use Rattle.lrp_sample.specs.Trees.{sample_question, sample_relations}
use Rattle.lrp_sample.specs.Plans.{IsOfFirstDay}
use Rattle.lrp_sample.proofs.Few.{HasSome, few}
use Rattle.lrp_sample.proofs.FormCells.{one_residue}
use Rattle.lrp_sample.proofs.PlanCells.{head_lies}

-- ---- tuples that rise differ

not_less : (o : Ordering) → o ≡ ordering_reverse o → o ≡ Less → ⊥
not_less Less e h = cc
not_less Equal e h = cc
not_less Greater e h = cc

not_before : (t : Tuple) → Before t t → ⊥
not_before t = not_less (tuple_cmp t t) (tuples_total.antisymm t t)

each_later : (t : Tuple) (ts : List Tuple) (j : ℕ) (d : Tuple) → j < length ts → AllByRecursion (Before t) ts → Before t (get_or ts j d)
each_later t [] j d l h = absurd (omega arith)
each_later t (u ∷ us) zero d l h = h.0
each_later t (u ∷ us) (suc j) d l h = each_later t us j d (omega arith) h.1

pairs : (ts : List Tuple) → Rises ts → AllPairs Before ts
pairs [] h i j d low high = absurd (omega arith)
pairs (t ∷ ts) h zero zero d low high = absurd (omega arith)
pairs (t ∷ ts) h zero (suc j) d low high = each_later t ts j d (omega arith) h.0
pairs (t ∷ ts) h (suc i) zero d low high = absurd (omega arith)
pairs (t ∷ ts) h (suc i) (suc j) d low high = pairs ts h.1 i j d (omega arith) (omega arith)

-- ---- the answers of the first day

-- a minute of the day is the residue of its point
own_residue : (r : ℕ) (x : ℤ) → r < 1440 → (pos 0 ≤ℤ x) × (x ≤ℤ pos 1439) → IsPointMember (pos r) (pos 1440) x → pos r ≡ x
own_residue r x l h m = one_residue 1440 (pos r) x x (omega (arith, ints)) (omega (arith, ints)) h.0 (omega (arith, ints)) m (Divides-is (pos 1440) (pos 0) (x -ℤ x) (omega (arith, ints)) (Divides-zero (pos 1440)))

module _ (seed size : ℕ) where
  -- the departure and the line of a trip, with 16 numbers each
  abbrev numbered : ℕ → Tuple
  numbered k = time (pos (departure seed (k / 16))) ∷ text (line (k / 16)) ∷ []

  abbrev Has : Tuple → ℕ → Type 0
  Has t k = t ≡ numbered k

  has_number : (t : Tuple) → IsOfFirstDay seed size t → HasSome Has (16 * size) t
  has_number [] h none = absurd h.is.fits
  has_number (text l ∷ ds) h none = absurd h.is.fits.0
  has_number (time x ∷ []) h none = absurd h.is.fits.1
  has_number (time x ∷ time y ∷ ds) h none = absurd h.is.fits.1.0
  has_number (time x ∷ text l ∷ d ∷ ds) h none = absurd h.is.fits.1.1
  has_number (time x ∷ text l ∷ []) h none =
      head_lies seed size (assignment sample_question.head (time x ∷ text l ∷ [])) h.is.satisfies
      (λ k low lies. none k low (ap₂ (λ (y : ℤ) (m : Text). time y ∷ text m ∷ []) (sym (own_residue (departure seed (k / 16)) x (omega arith) h.inside.0 lies.0.2)) lies.1.0))

  same_number : (a b : Tuple) (k : ℕ) → Has a k → Has b k → Before a b → ⊥
  same_number a b k h g before = not_before b (subst (λ t. Before t b) (h ∙ sym g) before)

  -- no more than 16 a trip
  pub few_of_day : (page : List Tuple) → Rises page → AllByRecursion (IsOfFirstDay seed size) page → length page ≤ 16 * size
  few_of_day [] rises each = omega arith
  few_of_day (t ∷ ts) rises each = elim (cases_lt (length ts) (16 * size)) [
    | inl less ↦ omega arith
    | inr more ↦ absurd (few Has (16 * size) Before (IsOfFirstDay seed size) same_number has_number (length ts) more (record { cells = t ∷ ts; count = omega arith; apart = pairs (t ∷ ts) rises; each = each }))
  ]
