-- Dates of the proleptic Gregorian calendar, and the days between them.
use Rattle.std.specs.Prelude.{◌≡◌, ◌≤ℤ◌, true, IsTrue, ℕ, zero, suc, ℤ, pos, ◌+◌, ◌-ℤ◌, unsigned_abs, int_le, Bool, ◌&&◌, if◌then◌else◌}
use Rattle.jiff_core.specs.Calendar.{days_in_month, days_from_civil}
use Rattle.jiff_core.specs.declared.civil.date.Date.{Date as CivilDate}
use Rattle.std.specs.Int.{is_in_range}
use Rattle.lrp_calendar.specs.declared.dates.Date.{Date}

-- the calendar has the date, and its year is one of 1 to 9999
abbrev pub is_date : Date → Bool
is_date d = is_in_range 1 9999 d.year && is_in_range 1 12 d.month && is_in_range 1 (days_in_month (pos d.year) d.month) d.day

-- the day number of a date: how many days it comes after 1970-01-01, and negative before it
abbrev pub day_number : Date → ℤ
day_number d = days_from_civil (pos d.year) d.month d.day

-- the first day of a month
abbrev pub first_day : ℕ → ℕ → Date
first_day year month = record { year = year; month = month; day = 1 }

-- how many of the numbers from 1 to n pass the test
unfoldable pub count_to : ℕ → (ℕ → Bool) → ℕ
count_to zero test = 0
count_to (suc n) test = if test (suc n) then count_to n test + 1 else count_to n test

-- the year of a day: how many years have begun by then
abbrev pub year_of : ℤ → ℕ
year_of day = count_to 9999 (λ year. int_le (day_number (first_day year 1)) day)

-- the month of a day: how many months of its year have begun by then
abbrev pub month_of : ℤ → ℕ
month_of day = count_to 12 (λ month. int_le (day_number (first_day (year_of day) month)) day)

-- the date of a day number
unfoldable pub date_of : ℤ → Date
date_of day = record {
  year = year_of day;
  month = month_of day;
  day = unsigned_abs (day -ℤ day_number (first_day (year_of day) (month_of day))) + 1;
}

-- the calendar has the date, and it has this day number
pub record IsDateOf (day : ℤ) (date : Date) : Type 0 where
  pub real : IsTrue (is_date date)
  pub number : day_number date ≡ day

-- the day is one of 0001-01-01 to 9999-12-31
pub record IsCivilDay (day : ℤ) : Type 0 where
  pub low : day_number (record { year = 1; month = 1; day = 1 }) ≤ℤ day
  pub high : day ≤ℤ day_number (record { year = 9999; month = 12; day = 31 })

-- the date with the numbers of the kit's, which the calendar has
pub record IsCivil (date : Date) (civil : CivilDate) : Type 0 where
  pub real : is_date date ≡ true
  pub year : pos date.year ≡ civil.year
  pub month : date.month ≡ civil.month
  pub day : date.day ≡ civil.day

-- the numbers of one of the kit's dates, without the sign of its year
abbrev pub date_numbers : CivilDate → Date
date_numbers civil = record { year = unsigned_abs civil.year; month = civil.month; day = civil.day }
