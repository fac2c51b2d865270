-- Spots in a window of civil times have civil times.
use Rattle.std.proofs.Common.{List, [], ◌∷◌, Bool, true, false, sym, subst, arith}
use Rattle.std.specs.Prelude.{ℤ, ◌≤ℤ◌}
use Rattle.std.specs.List.{AllByRecursion}
use Rattle.std.proofs.lemmas.Int.{ints}
use Rattle.lrp_calendar.specs.Moments.{IsCivilMinute}
use Rattle.lrp_answers.specs.Listing.{AreEnds, window_of}
use Rattle.lrp_model.specs.Rows.{times_of}
use Rattle.lrp_model.specs.declared.tuples.Spot.{Spot}
use Rattle.lrp_answers.specs.declared.answer.Answer.{Answer}
use Rattle.lrp_words.specs.Ranges.{IsEnd}
use Rattle.lrp_outputs.specs.Known.{HasCivilTimes, HaveCivilTimes}
use Rattle.lrp_answers.specs.Standing.{IsStanding}
use Rattle.lrp_outputs.specs.Spots.{answer_tuple}

-- the ends of a window
pub are_ends : (civil : Bool) (from to : ℤ) → IsEnd civil from → IsEnd civil to → AreEnds from to
are_ends civil from to f t = record { from_low = f.low; from_high = f.high; to_low = t.low; to_high = t.high }

-- what lies between civil minutes is one
module _ (from to : ℤ) (f : IsCivilMinute from) (t : IsCivilMinute to) where
  between : (x : ℤ) → (from ≤ℤ x) × (x ≤ℤ to) → IsCivilMinute x
  between x h = (omega (arith, ints, f.0, h.0), omega (arith, ints, t.1, h.1))

  all_between : (xs : List ℤ) → AllByRecursion (λ x. (from ≤ℤ x) × (x ≤ℤ to)) xs → AllByRecursion IsCivilMinute xs
  all_between [] h = tt
  all_between (x ∷ xs) h = (between x h.0, all_between xs h.1)

  spots_between : (a : Answer) (spots : List Spot) → AllByRecursion (IsStanding (window_of a from to)) spots → AllByRecursion (HasCivilTimes a) spots
  spots_between a [] h = tt
  spots_between a (spot ∷ spots) h =
      (subst (AllByRecursion IsCivilMinute) (sym h.0.stands.times) (all_between (times_of (answer_tuple a spot)) h.0.inside), spots_between a spots h.1)

-- the spots of a page
pub page_dates : (civil : Bool) (a : Answer) (from to : ℤ) (spots : List Spot) → IsEnd civil from → IsEnd civil to → AllByRecursion (IsStanding (window_of a from to)) spots → HaveCivilTimes civil a spots
page_dates false a from to spots f t h = tt
page_dates true a from to spots f t h = spots_between from to f.minute t.minute a spots h
