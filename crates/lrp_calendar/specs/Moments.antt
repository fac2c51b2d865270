-- Minutes from 1970-01-01 00:00 on: their days and times of day, and how these are written.
use Rattle.std.specs.Prelude.{◌≡◌, ℕ, ℤ, pos, ◌+◌, ◌/◌, ◌%◌, ◌+ℤ◌, ◌*ℤ◌, ◌≤ℤ◌, unsigned_abs, nat_lt, Bool, List, [], ◌∷◌, ◌++◌, codes}
use Rattle.std.specs.Int.{int_div_euclid, int_rem_euclid}
use Rattle.lrp_calendar.specs.declared.dates.Date.{Date}
use Rattle.jiff_core.specs.declared.civil.datetime.DateTime.{DateTime as CivilDateTime}
use Rattle.jiff_core.specs.declared.civil.time.Time.{Time as CivilTime}
use Rattle.lrp_calendar.specs.Dates.{IsCivil, day_number, date_of}

-- the day number of a minute: the minute divided by 1440, rounded down
abbrev pub day_of : ℤ → ℤ
day_of x = int_div_euclid x (pos 1440)

-- its time of day, in minutes from midnight: the minute modulo 1440
abbrev pub time_of_day : ℤ → ℕ
time_of_day x = unsigned_abs (int_rem_euclid x (pos 1440))

-- the minute of a date and a time of day
abbrev pub minute_at : Date → ℕ → ℤ
minute_at date time = (day_number date *ℤ pos 1440) +ℤ pos time

-- the minute is one of 0001-01-01 00:00 to 9999-12-31 23:59
abbrev pub IsCivilMinute : ℤ → Type 0
IsCivilMinute x = (minute_at (record { year = 1; month = 1; day = 1 }) 0 ≤ℤ x) × (x ≤ℤ minute_at (record { year = 9999; month = 12; day = 31 }) 1439)

-- a time of day, in minutes from midnight
abbrev pub is_time_of_day : ℕ → Bool
is_time_of_day time = nat_lt time 1440

-- a number below 100 in two digits
abbrev pub two_digits : ℕ → List ℕ
two_digits n = (48 + n / 10) ∷ (48 + n % 10) ∷ []

-- HH:MM
abbrev pub clock_bytes : ℕ → List ℕ
clock_bytes time = two_digits (time / 60) ++ (codes ":" ++ two_digits (time % 60))

-- YYYY-MM-DD
abbrev pub date_bytes : Date → List ℕ
date_bytes d = two_digits (d.year / 100) ++ (two_digits (d.year % 100) ++ (codes "-" ++ (two_digits d.month ++ (codes "-" ++ two_digits d.day))))

-- YYYY-MM-DD HH:MM of a minute
abbrev pub moment_bytes : ℤ → List ℕ
moment_bytes x = date_bytes (date_of (day_of x)) ++ (codes " " ++ clock_bytes (time_of_day x))

-- the kit's time has the hour and the minute of the time of day
pub record IsClock (time : ℕ) (civil : CivilTime) : Type 0 where
  pub hour : civil.hour ≡ time / 60
  pub minute : civil.minute ≡ time % 60

-- the kit's date and time have the date and the time of day of the minute
pub record IsMoment (x : ℤ) (civil : CivilDateTime) : Type 0 where
  pub date : IsCivil (date_of (day_of x)) civil.date
  pub clock : IsClock (time_of_day x) civil.time
