-- Minutes of the years 1 to 9999 are ends of windows.
use Rattle.std.proofs.Common.{◌≡◌, Bool, true, Option, Some, None, arith, sym, subst}
use Rattle.std.proofs.lemmas.Int.{ints}
use Rattle.std.specs.Prelude.{ℤ, pos, neg_ℤ, ◌≤ℤ◌, IfSome}
use Rattle.jiff_core.proofs.CalendarLemmas.{days_from_civil-day_count}
use Rattle.jiff_core.proofs.DateLemmas.{days_from_civil-max}
use Rattle.jiff_core.proofs.SignedLemmas.{signed_arith}
use Rattle.lrp_calendar.specs.Dates.{day_number}
use Rattle.lrp_calendar.specs.Moments.{IsCivilMinute}
use Rattle.lrp_words.specs.Ranges.{IsEnd}

-- the day numbers of the first date and of the last
first_low : neg_ℤ (pos 4371953) ≤ℤ day_number (record { year = 1; month = 1; day = 1 })
first_low = omega (arith, signed_arith, days_from_civil-day_count (pos 1) 1 1)

last_is : day_number (record { year = 9999; month = 12; day = 31 }) ≡ pos 2932896
last_is = days_from_civil-max

-- such a minute is an end
minute_end : (x : ℤ) → IsCivilMinute x → IsEnd true x
minute_end x h = record { low = omega (arith, ints, h.0, first_low); high = omega (arith, ints, h.1, last_is); minute = h }

-- and so is one that was read
pub minute_ends : (civil : Bool) (o : Option ℤ) → civil ≡ true → IfSome o IsCivilMinute → IfSome o (IsEnd civil)
minute_ends civil None e h = tt
minute_ends civil (Some x) e h = subst (λ c. IsEnd c x) (sym e) (minute_end x h)
