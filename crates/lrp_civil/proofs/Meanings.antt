-- A civil value falls at the minutes that it stands for.
use Rattle.std.proofs.Common.{◌≡◌, ◌<◌, ◌+◌, ◌*◌, ◌%◌, ◌↔◌, ℕ, ℤ, pos, ◌+ℤ◌, ◌-ℤ◌, ◌*ℤ◌, ◌≤ℤ◌, ◌∙◌, refl, arith}
use Rattle.std.specs.Int.{int_div_euclid, int_rem_euclid}
use Rattle.std.specs.Prelude.{IsTrue, Bool, true, false, ◌&&◌, nat_lt}
use Rattle.std.proofs.lemmas.Bool.Decides.{nat_tests}
use Rattle.jiff_core.specs.Calendar.{weekday_number}
use Rattle.jiff_core.proofs.CalendarLemmas.{weekday_number-parts}
use Rattle.jiff_core.proofs.SignedLemmas.{signed_arith}
use Rattle.lrp_theory.specs.Divides.{Divides, IsPointMember}
use Rattle.lrp_theory.proofs.Modulo.{Divides-+, Divides--, Divides-is, Divides-self, Divides-times, rem_divides}
use Rattle.std.proofs.lemmas.Int.{ints}
use Rattle.std.proofs.Math.IntN.{*ℤ_comm}
use Rattle.lrp_calendar.specs.Dates.{is_date, day_number}
use Rattle.lrp_calendar.specs.Moments.{day_of, minute_at, time_of_day}
use Rattle.lrp_civil.specs.declared.values.CivilValue.{CivilValue}
use Rattle.lrp_civil.specs.declared.values.CivilValue.TheVariants.{Daily, Weekly, On, Every}
use Rattle.lrp_civil.specs.CivilValues.{is_civil, MeansMinute, FallsAt, pace_minutes}
use Rattle.lrp_civil.proofs.EveryLemmas.{tests_of}
use Rattle.lrp_civil.proofs.PaceLemmas.{pace_size}
use Rattle.lrp_calendar.proofs.MomentLemmas.{minute_is, day_is, time_is}

-- ---- each day

pub daily_stands : (time : ℕ) (x : ℤ) → time < 1440 → IsPointMember (pos time) (pos 1440) x → time_of_day x ≡ time
daily_stands time x small m =
    let e = m.is in
    time_is x m.times time (omega (arith, signed_arith)) small

pub daily_falls : (time : ℕ) (x : ℤ) → time_of_day x ≡ time → IsPointMember (pos time) (pos 1440) x
daily_falls time x e = record { times = day_of x; is = omega (arith, signed_arith, minute_is x) }

-- ---- each week

pub weekly_stands : (day time : ℕ) (x : ℤ) → day < 7 → time < 1440 → IsPointMember (pos (1440 * ((day + 4) % 7) + time)) (pos 10080) x → (weekday_number (day_of x) ≡ day) × (time_of_day x ≡ time)
weekly_stands day time x week small m =
    let e = m.is in
    let on : ℤ = (m.times *ℤ pos 7) +ℤ pos ((day + 4) % 7) in
    let is : x ≡ (on *ℤ pos 1440) +ℤ pos time = omega (arith, signed_arith) in
    let here : day_of x ≡ on = day_is x on time is small in
    (rw here (omega (arith, signed_arith, weekday_number-parts on)), time_is x on time is small)

pub weekly_falls : (day time : ℕ) (x : ℤ) → day < 7 → (weekday_number (day_of x) ≡ day) × (time_of_day x ≡ time) → IsPointMember (pos (1440 * ((day + 4) % 7) + time)) (pos 10080) x
weekly_falls day time x week f =
    let on = day_of x in
    let first = (day + 4) % 7 in
    let weeks : ℤ = int_div_euclid (on -ℤ pos first) (pos 7) in
    let parts = weekday_number-parts on in
    let is : on ≡ (weeks *ℤ pos 7) +ℤ pos first = omega (arith, signed_arith, f.0) in
    record { times = weeks; is = omega (arith, signed_arith, minute_is x, f.1) }

-- ---- once

pub on_stands : (day x : ℤ) (time : ℕ) → time < 1440 → x ≡ (day *ℤ pos 1440) +ℤ pos time → (day_of x ≡ day) × (time_of_day x ≡ time)
on_stands day x time small e = (day_is x day time e small, time_is x day time e small)

pub on_falls : (day x : ℤ) (time : ℕ) → (day_of x ≡ day) × (time_of_day x ≡ time) → x ≡ (day *ℤ pos 1440) +ℤ pos time
on_falls day x time f = omega (arith, signed_arith, minute_is x, f.0, f.1)

-- ---- at a pace

-- what is left of two differences from one number
left_over : (x m r : ℤ) → (x -ℤ r) -ℤ (m -ℤ r) ≡ x -ℤ m
left_over x m r = omega (arith, ints)

both_parts : (x m r : ℤ) → (x -ℤ m) +ℤ (m -ℤ r) ≡ x -ℤ r
both_parts x m r = omega (arith, ints)

added : (x m d : ℤ) → x -ℤ m ≡ d → x ≡ m +ℤ d
added x m d e = omega (arith, ints, e)

taken : (x m d : ℤ) → x ≡ m +ℤ d → d ≡ x -ℤ m
taken x m d e = omega (arith, ints, e)

pub pace_stands : (m k x : ℤ) → pos 1 ≤ℤ k → IsPointMember (int_rem_euclid m k) k x → (n : ℤ) × (x ≡ m +ℤ (n *ℤ k))
pace_stands m k x some h =
    let r = int_rem_euclid m k in
    let d : Divides k (x -ℤ m) = Divides-is k ((x -ℤ r) -ℤ (m -ℤ r)) (x -ℤ m) (left_over x m r) (Divides-- k (x -ℤ r) (m -ℤ r) h (rem_divides k m r some refl)) in
    (d.times, added x m (d.times *ℤ k) (d.is ∙ *ℤ_comm k d.times))

pub pace_falls : (m k x : ℤ) → pos 1 ≤ℤ k → (n : ℤ) × (x ≡ m +ℤ (n *ℤ k)) → IsPointMember (int_rem_euclid m k) k x
pace_falls m k x some h =
    let r = int_rem_euclid m k in
    let d : Divides k (x -ℤ m) = Divides-is k (h.0 *ℤ k) (x -ℤ m) (taken x m (h.0 *ℤ k) h.1) (Divides-times k h.0 k (Divides-self k)) in
    Divides-is k ((x -ℤ m) +ℤ (m -ℤ r)) (x -ℤ r) (both_parts x m r) (Divides-+ k (x -ℤ m) (m -ℤ r) d (rem_divides k m r some refl))

-- ---- any of them

both : (a b : Bool) → IsTrue (a && b) → IsTrue a × IsTrue b
both true b h = (refl, h)
both false b h = absurd cc

pub meaning : (value : CivilValue) (x : ℤ) → IsTrue (is_civil value) → MeansMinute value x ↔ FallsAt value x
meaning (Daily time) x h =
    let small : time < 1440 = grind (arith, nat_tests) in
    (daily_stands time x small, daily_falls time x)
meaning (Weekly day time) x h =
    let k = both (nat_lt day 7) (nat_lt time 1440) h in
    let week : day < 7 = grind (arith, nat_tests, k.0) in
    let small : time < 1440 = grind (arith, nat_tests, k.1) in
    (weekly_stands day time x week small, weekly_falls day time x week)
meaning (On date time) x h =
    let k = both (is_date date) (nat_lt time 1440) h in
    let small : time < 1440 = grind (arith, nat_tests, k.1) in
    (on_stands (day_number date) x time small, on_falls (day_number date) x time)
meaning (Every pace date time) x h =
    let size = pace_size pace (tests_of pace date time h).real_pace in
    let k = pos (pace_minutes pace) in
    let some : pos 1 ≤ℤ k = omega (arith, ints, size.low) in
    (pace_stands (minute_at date time) k x some, pace_falls (minute_at date time) k x some)
