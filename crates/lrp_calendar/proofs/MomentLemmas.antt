-- A minute is that of its day and its time of day, and of no others.
use Rattle.std.proofs.Common.{FitsSigned, to_z, of_z, w64, ◌≡◌, ◌<◌, ℕ, ℤ, pos, neg_ℤ, ◌+ℤ◌, ◌*ℤ◌, ◌≤ℤ◌, true, refl, ap, ◌∙◌, arith}
use Rattle.std.specs.Int.{int_div_euclid, int_rem_euclid}
use Rattle.std.specs.Prelude.{unsigned_abs}
use Rattle.std.proofs.lemmas.Bool.Decides.{nat_tests}
use Rattle.std.proofs.lemmas.Int.{to_z-of_z}
use Rattle.jiff_core.proofs.SignedLemmas.{signed_arith}
use Rattle.lrp_calendar.specs.Dates.{IsCivilDay}
use Rattle.lrp_calendar.specs.Moments.{IsCivilMinute, day_of, time_of_day, is_time_of_day}
use Rattle.lrp_calendar.proofs.DateLemmas.{civil_epoch_day}

-- a minute from its day and its time of day
pub minute_is : (x : ℤ) → x ≡ (day_of x *ℤ pos 1440) +ℤ pos (time_of_day x)
minute_is x = omega (arith, signed_arith)

pub time_small : (x : ℤ) → time_of_day x < 1440
time_small x = omega (arith, signed_arith)

-- the day and the time of day of a minute that is given by them
pub day_is : (x day : ℤ) (time : ℕ) → x ≡ (day *ℤ pos 1440) +ℤ pos time → time < 1440 → day_of x ≡ day
day_is x day time e small = omega (arith, signed_arith)

pub time_is : (x day : ℤ) (time : ℕ) → x ≡ (day *ℤ pos 1440) +ℤ pos time → time < 1440 → time_of_day x ≡ time
time_is x day time e small = omega (arith, signed_arith)

-- a minute of a civil day is a civil minute, and the other way about
pub civil_minute : (day : ℤ) (time : ℕ) → IsCivilDay day → is_time_of_day time ≡ true → IsCivilMinute ((day *ℤ pos 1440) +ℤ pos time)
civil_minute day time h k =
    let small : time < 1440 = grind (arith, nat_tests) in
    (omega (arith, signed_arith, h.low), omega (arith, signed_arith, h.high))

pub civil_day : (x : ℤ) → IsCivilMinute x → IsCivilDay (day_of x)
civil_day x h =
    let is = minute_is x in
    let small = time_small x in
    record { low = omega (arith, signed_arith, h.0); high = omega (arith, signed_arith, h.1) }

-- the size of a civil minute
pub minute_size : (day : ℤ) (time : ℕ) → IsCivilDay day → is_time_of_day time ≡ true → (neg_ℤ (pos 8000000000) ≤ℤ (day *ℤ pos 1440)) × ((day *ℤ pos 1440) ≤ℤ pos 8000000000) × (time < 1440)
minute_size day time h k =
    let e = civil_epoch_day day h in
    (omega (arith, signed_arith, e.0), omega (arith, signed_arith, e.1), grind (arith, nat_tests))

-- the code's product and sum, in words of 64 bits
pub word_product : (day : ℤ) → FitsSigned w64 day → neg_ℤ (pos 8000000000) ≤ℤ (day *ℤ pos 1440) → (day *ℤ pos 1440) ≤ℤ pos 8000000000 → to_z w64 (of_z w64 day) *ℤ pos 1440 ≡ day *ℤ pos 1440
word_product day fits low high = rw (to_z-of_z w64 day fits) refl

pub word_sum : (product part : ℤ) (time : ℕ) → neg_ℤ (pos 8000000000) ≤ℤ product → product ≤ℤ pos 8000000000 → part ≡ pos time → time < 1440 → to_z w64 (of_z w64 (to_z w64 (of_z w64 product) +ℤ to_z w64 (of_z w64 part))) ≡ product +ℤ pos time
word_sum product part time low high e small = omega (arith, signed_arith)

-- the code's day and time of day, in words of 64 bits
pub word_day : (x r : ℤ) → FitsSigned w64 x → FitsSigned w64 r → r ≡ int_div_euclid (to_z w64 (of_z w64 x)) (pos 1440) → to_z w64 (of_z w64 r) ≡ day_of x
word_day x r f g e = to_z-of_z w64 r g ∙ e ∙ ap (λ z. int_div_euclid z (pos 1440)) (to_z-of_z w64 x f)

pub word_time : (x r : ℤ) → FitsSigned w64 x → FitsSigned w64 r → r ≡ int_rem_euclid (to_z w64 (of_z w64 x)) (pos 1440) → unsigned_abs (to_z w64 (of_z w64 r)) ≡ time_of_day x
word_time x r f g e = ap unsigned_abs (to_z-of_z w64 r g ∙ e ∙ ap (λ z. int_rem_euclid z (pos 1440)) (to_z-of_z w64 x f))

pub in_day : (x : ℤ) → is_time_of_day (time_of_day x) ≡ true
in_day x = let small = time_small x in grind (arith, nat_tests)
