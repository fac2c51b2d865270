-- Each day from 0001-01-01 to 9999-12-31 has a date, and no two dates are of one day.
use Rattle.std.proofs.Common.{◌≡◌, ◌≤◌, ◌+◌, ◌-◌, ℕ, suc, ℤ, pos, negsuc, neg_ℤ, ◌+ℤ◌, ◌-ℤ◌, ◌≤ℤ◌, ◌<ℤ◌, inl, inr, Bool, true, false, refl, sym, ap, ◌∙◌, arith, subst}
use Rattle.std.specs.Prelude.{unsigned_abs, int_le, IsTrue}
use Rattle.std.proofs.lemmas.Bool.{cases_order}
use Rattle.std.proofs.lemmas.Bool.Decides.{nat_tests}
use Rattle.std.proofs.lemmas.Int.{by_lt_z, ints}
use Rattle.jiff_core.specs.Calendar.{IsEpochDay, day_count, days_in_month, days_of_months, days_from_civil}
use Rattle.jiff_core.proofs.CalendarLemmas.{days_from_civil-day_count, days_of_months_mono, day_count-later_year, day_count-lt_year, day_count-min, day_count-next_year, day_count-next_month, day_count-last_of_year, day_count-day_of_year, day_count-day, day_count-end}
use Rattle.jiff_core.specs.Date.{epoch_day}
use Rattle.jiff_core.specs.declared.civil.date.Date.{Date as CivilDate}
use Rattle.jiff_core.proofs.DateLemmas.{civil, days_from_civil-max, epoch_day_injective, epoch_day_range}
use Rattle.jiff_core.proofs.SignedLemmas.{signed_arith}
use Rattle.lrp_calendar.specs.declared.dates.Date.{Date}
use Rattle.lrp_calendar.specs.Dates.{is_date, day_number, first_day, year_of, month_of, date_of, IsDateOf, IsCivil, IsCivilDay}
use Rattle.lrp_calendar.proofs.Counts.{OnlyFirst, count_is}
use borrow.Author.Differences.{up, down}

-- a day number and the days before it
pub day_number-day_count : (d : Date) → up (day_number d) + 4371953 ≡ down (day_number d) + day_count (pos d.year) d.month d.day
day_number-day_count d = days_from_civil-day_count (pos d.year) d.month d.day

le_true : (a b : ℤ) → a ≤ℤ b → int_le a b ≡ true
le_true a b h = grind (arith, ints)

true_le : (a b : ℤ) → int_le a b ≡ true → a ≤ℤ b
true_le a b h = grind (arith, ints)

false_lt : (a b : ℤ) → int_le a b ≡ false → b <ℤ a
false_lt a b h = grind (arith, ints)

-- a number that is not negative is its magnitude
pub abs_is : (z : ℤ) → pos 0 ≤ℤ z → z ≡ pos (unsigned_abs z)
abs_is (pos n) h = refl
abs_is (negsuc n) h = absurd (omega (arith, signed_arith))

-- ---- years

year_before : (i j : ℕ) → i ≤ j → day_number (first_day i 1) ≤ℤ day_number (first_day j 1)
year_before i j h =
    elim (cases_order i j) [
      | inl e ↦ rw e (omega (arith, signed_arith))
      | inr (inl lt) ↦ omega (arith, signed_arith, day_number-day_count (first_day i 1), day_number-day_count (first_day j 1), day_count-later_year (pos i) (pos j) (omega (arith, signed_arith)) (omega (arith, signed_arith)))
      | inr (inr gt) ↦ absurd (omega arith)
    ]

years_first : (day : ℤ) → OnlyFirst (λ year. int_le (day_number (first_day year 1)) day)
years_first day = record { down = λ i j low le e. le_true (day_number (first_day i 1)) day (omega (arith, signed_arith, year_before i j le, true_le (day_number (first_day j 1)) day e)) }

-- ---- months

month_count : (year : ℤ) (m : ℕ) → day_count year m 1 ≡ day_count year 1 1 + days_of_months year (m - 1)
month_count year m = omega (arith, day_count-day_of_year year m 1 (omega arith))

month_before : (year i j : ℕ) → i ≤ j → day_number (first_day year i) ≤ℤ day_number (first_day year j)
month_before year i j h =
    omega (arith, signed_arith, day_number-day_count (first_day year i), day_number-day_count (first_day year j), month_count (pos year) i, month_count (pos year) j, days_of_months_mono (pos year) (i - 1) (j - 1) (omega arith))

months_first : (year : ℕ) (day : ℤ) → OnlyFirst (λ month. int_le (day_number (first_day year month)) day)
months_first year day = record { down = λ i j low le e. le_true (day_number (first_day year i)) day (omega (arith, signed_arith, month_before year i j le, true_le (day_number (first_day year j)) day e)) }

-- ---- the date of a day

-- the year of a day is one in which it lies
record IsYearOf (day : ℤ) (year : ℕ) : Type 0 where
  low : 1 ≤ year
  high : year ≤ 9999
  begins : day_number (first_day year 1) ≤ℤ day
  ends : day <ℤ day_number (first_day (year + 1) 1)

year_is : (day : ℤ) → IsCivilDay day → IsYearOf day (year_of day)
year_is day h =
    let test : ℕ → Bool = λ year. int_le (day_number (first_day year 1)) day in
    let k = count_is 9999 test (years_first day) in
    let some : 1 ≤ year_of day = (elim (cases_order (year_of day) 0) [
      | inl e ↦ absurd (omega (arith, signed_arith, h.low, false_lt (day_number (first_day 1 1)) day (rw e at (k.fail (omega (arith, e))))))
      | inr (inl lt) ↦ absurd (omega arith)
      | inr (inr gt) ↦ omega arith
    ]) in
    record {
      low = some;
      high = k.few;
      begins = true_le (day_number (first_day (year_of day) 1)) day (k.pass some);
      ends = elim (cases_order (year_of day) 9999) [
        | inl e ↦ rw e (omega (arith, signed_arith, h.high, day_number-day_count (first_day 10000 1), day_number-day_count (record { year = 9999; month = 12; day = 31 }), day_count-end, day_count-last_of_year (pos 9999), day_count-next_year (pos 9999) (pos 10000) (omega (arith, signed_arith)) refl))
        | inr (inl lt) ↦ let next : suc (year_of day) ≡ year_of day + 1 = omega arith in false_lt (day_number (first_day (year_of day + 1) 1)) day (rw next at (k.fail lt))
        | inr (inr gt) ↦ absurd (omega (arith, k.few))
      ];
    }

-- the month of a day is one of its year in which it lies
record IsMonthOf (day : ℤ) (year month : ℕ) : Type 0 where
  low : 1 ≤ month
  high : month ≤ 12
  begins : day_number (first_day year month) ≤ℤ day
  ends : day <ℤ (day_number (first_day year month) +ℤ pos (days_in_month (pos year) month))

month_is : (day : ℤ) → IsCivilDay day → IsMonthOf day (year_of day) (month_of day)
month_is day h =
    let year = year_of day in
    let month = month_of day in
    let y = year_is day h in
    let test : ℕ → Bool = λ m. int_le (day_number (first_day year m)) day in
    let k = count_is 12 test (months_first year day) in
    let some : 1 ≤ month = (elim (cases_order month 0) [
      | inl e ↦ absurd (omega (arith, signed_arith, y.begins, false_lt (day_number (first_day year 1)) day (rw e at (k.fail (omega (arith, e))))))
      | inr (inl lt) ↦ absurd (omega arith)
      | inr (inr gt) ↦ omega arith
    ]) in
    record {
      low = some;
      high = k.few;
      begins = true_le (day_number (first_day year month)) day (k.pass some);
      ends = elim (cases_order month 12) [
        | inl e ↦ rw e (omega (arith, signed_arith, y.ends, day_number-day_count (first_day year 12), day_number-day_count (first_day (year + 1) 1), day_count-last_of_year (pos year), day_count-day (pos year) 12 31 1 (omega arith) (omega arith), day_count-next_year (pos year) (pos (year + 1)) (omega (arith, signed_arith)) (omega (arith, signed_arith))))
        | inr (inl lt) ↦
            let next : suc month ≡ month + 1 = omega arith in
            omega (arith, signed_arith, false_lt (day_number (first_day year (month + 1))) day (rw next at (k.fail lt)), day_number-day_count (first_day year month), day_number-day_count (first_day year (month + 1)), day_count-next_month (pos year) month some)
        | inr (inr gt) ↦ absurd (omega (arith, k.few))
      ];
    }

-- the parts of the date of a day
date_of-parts : (day : ℤ) → date_of day ≡ record { year = year_of day; month = month_of day; day = unsigned_abs (day -ℤ day_number (first_day (year_of day) (month_of day))) + 1 }
unfolding date_of
date_of-parts day = refl

is_real : (year month day : ℕ) → 1 ≤ year → year ≤ 9999 → 1 ≤ month → month ≤ 12 → 1 ≤ day → day ≤ days_in_month (pos year) month → is_date (record { year = year; month = month; day = day }) ≡ true
is_real year month day a b c d e f = grind (arith, nat_tests)

-- the date has its day
pub date_is : (day : ℤ) → IsCivilDay day → IsDateOf day (date_of day)
date_is day h =
    let y = year_is day h in
    let m = month_is day h in
    let first = first_day (year_of day) (month_of day) in
    let n = unsigned_abs (day -ℤ day_number first) + 1 in
    let date : Date = record { year = year_of day; month = month_of day; day = n } in
    let gap = abs_is (day -ℤ day_number first) (omega (arith, signed_arith, m.begins)) in
    let long : n ≤ days_in_month (pos (year_of day)) (month_of day) = omega (arith, signed_arith, m.begins, m.ends) in
    let low : 1 ≤ n = omega arith in
    let number : day_number date ≡ day = omega (arith, signed_arith, m.begins, day_number-day_count first, day_number-day_count date, day_count-day (pos (year_of day)) (month_of day) 1 n (omega arith) low) in
    let same : date_of day ≡ date = date_of-parts day in
    record { real = ap is_date same ∙ is_real (year_of day) (month_of day) n y.low y.high m.low m.high low long; number = ap day_number same ∙ number }

-- ---- one date for a day

-- the numbers of a real date are in range
pub record IsReal (d : Date) : Type 0 where
  pub year_low : 1 ≤ d.year
  pub year_high : d.year ≤ 9999
  pub month_low : 1 ≤ d.month
  pub month_high : d.month ≤ 12
  pub day_low : 1 ≤ d.day
  pub day_high : d.day ≤ days_in_month (pos d.year) d.month

pub real_parts : (d : Date) → IsTrue (is_date d) → IsReal d
real_parts d h = record { year_low = grind (arith, nat_tests, h); year_high = grind (arith, nat_tests, h); month_low = grind (arith, nat_tests, h); month_high = grind (arith, nat_tests, h); day_low = grind (arith, nat_tests, h); day_high = grind (arith, nat_tests, h) }

-- a real date as one of the kit's
unfoldable pub civil_date : (d : Date) → IsReal d → CivilDate
civil_date d r = record {
  year = pos d.year;
  month = d.month;
  day = d.day;
  year_in = omega (arith, signed_arith, r.year_high);
  month_in = (r.month_low, r.month_high);
  day_in = (r.day_low, r.day_high);
}

-- dates with the same numbers are the same
pub same_date : (c d : Date) → c.year ≡ d.year → c.month ≡ d.month → c.day ≡ d.day → c ≡ d
same_date c d y m n =
    ap (λ year. record { year = year; month = c.month; day = c.day }) y
    ∙ ap (λ month. record { year = d.year; month = month; day = c.day }) m
    ∙ ap (λ day. record { year = d.year; month = d.month; day = day }) n

-- real dates of one number are the same
pub date_unique : (a b : Date) → IsTrue (is_date a) → IsTrue (is_date b) → day_number a ≡ day_number b → a ≡ b
unfolding civil_date
date_unique a b h k e =
    let same = epoch_day_injective (civil_date a (real_parts a h)) (civil_date b (real_parts b k)) e in
    let year : a.year ≡ b.year = cc (same.0) in
    same_date a b year same.1 same.2

-- a civil day has no date but its own
pub date_of_number : (d : Date) → IsTrue (is_date d) → IsCivilDay (day_number d) → date_of (day_number d) ≡ d
date_of_number d h k = let is = date_is (day_number d) k in date_unique (date_of (day_number d)) d is.real h is.number

-- ---- the dates of the kit's calendar

-- it has each civil day
pub civil_epoch_day : (day : ℤ) → IsCivilDay day → IsEpochDay day
civil_epoch_day day h = (
  omega (arith, signed_arith, h.low, day_number-day_count (first_day 1 1), day_count-later_year (neg_ℤ (pos 9999)) (pos 1) (omega (arith, signed_arith)) (omega (arith, signed_arith)), day_count-min),
  omega (arith, signed_arith, h.high, days_from_civil-max),
)

-- its date of a civil day is of a year from 1 on
pub civil_year : (d : CivilDate) (day : ℤ) → IsCivilDay day → epoch_day d ≡ day → pos 1 ≤ℤ d.year
civil_year d day h e =
    by_lt_z d.year (pos 1)
    (λ lt. absurd (omega (arith, signed_arith, h.low, e, days_from_civil-day_count d.year d.month d.day, day_number-day_count (first_day 1 1), day_count-lt_year d.year d.month d.day (pos 1) 1 1 (civil d) (omega arith) lt)))
    (λ le. le)

-- and has the numbers of the date of that day
pub civil_numbers : (d : CivilDate) (day : ℤ) (year : ℕ) → IsCivilDay day → epoch_day d ≡ day → d.year ≡ pos year → record { year = year; month = d.month; day = d.day } ≡ date_of day
civil_numbers d day year h e is =
    let date : Date = record { year = year; month = d.month; day = d.day } in
    let low = civil_year d day h e in
    let found = date_is day h in
    let long : d.day ≤ days_in_month (pos year) d.month = subst (λ y. d.day ≤ days_in_month y d.month) is d.day_in.1 in
    let real : is_date date ≡ true = is_real year d.month d.day (omega (arith, signed_arith, is, low)) (omega (arith, signed_arith, is, d.year_in)) d.month_in.0 d.month_in.1 d.day_in.0 long in
    let number : day_number date ≡ day = ap (λ y. days_from_civil y d.month d.day) (sym is) ∙ e in
    date_unique date (date_of day) real found.real (number ∙ sym found.number)

-- it is that date
pub civil_of_day : (d : CivilDate) (day : ℤ) → IsCivilDay day → epoch_day d ≡ day → IsCivil (date_of day) d
civil_of_day d day h e =
    let year : d.year ≡ pos (unsigned_abs d.year) = abs_is d.year (omega (arith, signed_arith, civil_year d day h e)) in
    let same = sym (civil_numbers d day (unsigned_abs d.year) h e year) in
    record { real = (date_is day h).real; year = ap (λ date. pos date.year) same ∙ sym year; month = ap (λ date. date.month) same; day = ap (λ date. date.day) same }

is_day : (d : Date) (r : IsReal d) → epoch_day (civil_date d r) ≡ day_number d
unfolding civil_date
is_day d r = refl

-- the day of a real date is a civil one
pub real_day : (d : Date) → IsTrue (is_date d) → IsCivilDay (day_number d)
real_day d h =
    let r = real_parts d h in
    let high = epoch_day_range (civil_date d r) in
    record {
      low = omega (arith, signed_arith, year_before 1 d.year r.year_low, day_number-day_count d, day_number-day_count (first_day d.year 1), day_count-day_of_year (pos d.year) d.month d.day r.day_low);
      high = omega (arith, signed_arith, days_from_civil-max, is_day d r, high.1);
    }
