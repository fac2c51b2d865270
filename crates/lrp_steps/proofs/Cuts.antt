-- Cells with one column fewer.
use Rattle.std.proofs.Common.{◌≡◌, ℕ, ◌+◌, ◌<◌, ◌≤◌, List, length, take, inl, inr, sym, ◌∙◌, arith}
use Rattle.std.specs.List.{remove}
use Rattle.std.proofs.lemmas.Bool.{cases_lt}
use Rattle.std.proofs.lemmas.List.{ext_get_or, get_or-take, length-take-le}
use Rattle.std.proofs.lemmas.List.Edits.{length-remove, get_or-remove_below, get_or-remove_above}
use Rattle.lrp_store.specs.Stores.{IsPadded}
use Rattle.lrp_steps.specs.Columns.{IsCut}

module _ {X : Type 0} (nought : X) (place n : ℕ) (old new : List X) (cut : IsCut nought place old new) (low : place ≤ n) (high : n < 8) (size : length old ≡ 8) where
  -- the first values are those of the others
  pub cut_front : take n new ≡ remove (take (n + 1) old) place
  cut_front = ext_get_or nought (take n new) (remove (take (n + 1) old) place) (lengths) (λ i h. elim (cases_lt i place) [
    | inl less ↦ get_or-take n new i nought (omega arith) ∙ cut.before i less ∙ sym (get_or-take (n + 1) old i nought (omega arith)) ∙ sym (get_or-remove_below (take (n + 1) old) place nought i less (omega (arith, long)))
    | inr more ↦ get_or-take n new i nought (within i h) ∙ cut.after i more ∙ sym (get_or-take (n + 1) old (i + 1) nought (let l : i < n = within i h in omega arith)) ∙ sym (get_or-remove_above (take (n + 1) old) place nought i more (omega (arith, long)))
  ])
    where
      long : length (take (n + 1) old) ≡ n + 1
      long = length-take-le (n + 1) old (omega arith)

      short : length (take n new) ≡ n
      short = length-take-le n new (let e : length new ≡ 8 = cut.size in omega arith)

      lengths : length (take n new) ≡ length (remove (take (n + 1) old) place)
      lengths = let l : length (remove (take (n + 1) old) place) + 1 ≡ length (take (n + 1) old) = length-remove (take (n + 1) old) place (omega (arith, long)) in omega (arith, long, short)

      within : (i : ℕ) → i < length (take n new) → i < n
      within i h = omega (arith, short)

  -- and after them there is nothing
  pub cut_padded : IsPadded nought (n + 1) old → IsPadded nought n new
  cut_padded p = record { size = cut.size; zeros = λ i h. cut.after i (omega arith) ∙ p.zeros (i + 1) (omega arith) }
