-- Civil values: how they are spelled, what they stand for, and when they fall.
use Rattle.std.specs.Prelude.{◌≡◌, ℕ, ℤ, pos, ◌+◌, ◌-◌, ◌*◌, ◌%◌, ◌+ℤ◌, ◌*ℤ◌, nat_lt, Bool, true, false, ◌&&◌, List, [], ◌∷◌, ◌++◌, length, replicate, slice_index_or, codes}
use Rattle.std.specs.Fmt.{signed_decimal}
use Rattle.jiff_core.specs.Calendar.{weekday_number}
use Rattle.lrp_theory.specs.Divides.{IsPointMember}
use Rattle.lrp_model.specs.Printed.{point_bytes}
use Rattle.lrp_model.specs.declared.relations.RowPoint.{RowPoint}
use Rattle.lrp_civil.specs.declared.values.CivilValue.{CivilValue}
use Rattle.lrp_civil.specs.declared.values.CivilValue.TheVariants.{Daily, Weekly, On, Every}
use Rattle.lrp_civil.specs.declared.values.CivilText.{CivilText}
use Rattle.lrp_civil.specs.declared.values.CivilText.TheVariants.{Database, WideDatabase, WideQuery}
use Rattle.lrp_civil.specs.declared.values.Unit.{Unit as UnitOf}
use Rattle.lrp_civil.specs.declared.values.Unit.TheVariants.{Minutes, Hours, Days, Weeks}
use Rattle.lrp_civil.specs.declared.values.Pace.{Pace}
use Rattle.std.specs.Fmt.{decimal}
use Rattle.std.specs.Int.{int_rem_euclid}
use Rattle.lrp_model.specs.Limits.{greatest_number}
use Rattle.lrp_calendar.specs.Dates.{is_date, day_number}
use Rattle.lrp_calendar.specs.Moments.{day_of, time_of_day, minute_at, clock_bytes, date_bytes, is_time_of_day}

-- the number of a weekday, from 0 for Monday
abbrev pub is_weekday : ℕ → Bool
is_weekday day = nat_lt day 7

-- the units of paces, how they are spelled, and their minutes
abbrev pub unit_name : UnitOf → List ℕ
unit_name Minutes = codes "minutes"
unit_name Hours = codes "hours"
unit_name Days = codes "days"
unit_name Weeks = codes "weeks"

abbrev pub unit_minutes : UnitOf → ℕ
unit_minutes Minutes = 1
unit_minutes Hours = 60
unit_minutes Days = 1440
unit_minutes Weeks = 10080

abbrev pub pace_minutes : Pace → ℕ
pace_minutes pace = pace.number * unit_minutes pace.unit

-- one unit or more, and at most 2^62 minutes
abbrev pub is_pace : Pace → Bool
is_pace pace = nat_lt 0 pace.number && nat_lt (pace_minutes pace) (greatest_number + 1)

-- how it is spelled: a number and a unit
abbrev pub pace_bytes : Pace → List ℕ
pace_bytes pace = decimal pace.number ++ (codes " " ++ unit_name pace.unit)

-- its numbers are those of a weekday, a date, a time of day and a pace
abbrev pub is_civil : CivilValue → Bool
is_civil (Daily time) = is_time_of_day time
is_civil (Weekly day time) = is_weekday day && is_time_of_day time
is_civil (On date time) = is_date date && is_time_of_day time
is_civil (Every pace date time) = is_pace pace && is_date date && is_time_of_day time

-- the names of the weekdays
abbrev pub day_names : List (List ℕ)
day_names = codes "mon" ∷ codes "tue" ∷ codes "wed" ∷ codes "thu" ∷ codes "fri" ∷ codes "sat" ∷ codes "sun" ∷ []

-- the name of a weekday; a civil value has one of the seven
abbrev pub day_name : ℕ → List ℕ
day_name day = slice_index_or day_names day []

-- how it is spelled: `daily HH:MM`, `weekly DAY HH:MM`, `on YYYY-MM-DD HH:MM` or `every N UNIT from YYYY-MM-DD HH:MM`
abbrev pub spelled : CivilValue → List ℕ
spelled (Daily time) = codes "daily " ++ clock_bytes time
spelled (Weekly day time) = codes "weekly " ++ (day_name day ++ (codes " " ++ clock_bytes time))
spelled (On date time) = codes "on " ++ (date_bytes date ++ (codes " " ++ clock_bytes time))
spelled (Every pace date time) = codes "every " ++ (pace_bytes pace ++ (codes " from " ++ (date_bytes date ++ (codes " " ++ clock_bytes time))))

-- the point of a daily value, and that of a weekly one: day 0 was a Thursday, so day 4 was a Monday
abbrev pub daily_point : ℕ → RowPoint
daily_point time = record { offset = pos time; period = pos 1440 }

abbrev pub weekly_point : ℕ → ℕ → RowPoint
weekly_point day time = record { offset = pos (1440 * ((day + 4) % 7) + time); period = pos 10080 }

-- the point of a pace through a minute
abbrev pub pace_point : Pace → ℤ → RowPoint
pace_point pace minute = record { offset = int_rem_euclid minute (pos (pace_minutes pace)); period = pos (pace_minutes pace) }

-- the minutes that it stands for: those of its point, or one instant
abbrev pub MeansMinute : CivilValue → ℤ → Type 0
MeansMinute (Daily time) x = IsPointMember (daily_point time).offset (daily_point time).period x
MeansMinute (Weekly day time) x = IsPointMember (weekly_point day time).offset (weekly_point day time).period x
MeansMinute (On date time) x = x ≡ minute_at date time
MeansMinute (Every pace date time) x = IsPointMember (pace_point pace (minute_at date time)).offset (pace_point pace (minute_at date time)).period x

-- when it falls: at its time of day, on each day, on each such weekday, on its date, or a whole number of paces from its date and time
abbrev pub FallsAt : CivilValue → ℤ → Type 0
FallsAt (Daily time) x = time_of_day x ≡ time
FallsAt (Weekly day time) x = (weekday_number (day_of x) ≡ day) × (time_of_day x ≡ time)
FallsAt (On date time) x = (day_of x ≡ day_number date) × (time_of_day x ≡ time)
FallsAt (Every pace date time) x = (n : ℤ) × (x ≡ minute_at date time +ℤ (n *ℤ pos (pace_minutes pace)))

-- its plain value: the point, or the number of the instant
abbrev pub plain_bytes : CivilValue → List ℕ
plain_bytes (Daily time) = point_bytes (daily_point time)
plain_bytes (Weekly day time) = point_bytes (weekly_point day time)
plain_bytes (On date time) = signed_decimal (minute_at date time)
plain_bytes (Every pace date time) = point_bytes (pace_point pace (minute_at date time))

-- the plain value with blanks after it, as long as the civil value
abbrev pub padded_bytes : CivilValue → List ℕ
padded_bytes value = plain_bytes value ++ replicate (length (spelled value) - length (plain_bytes value)) 32

-- which values texts of a kind have: databases of the wide language have those of paces too
abbrev pub has_paces : CivilText → Bool
has_paces Database = false
has_paces WideDatabase = true
has_paces WideQuery = false

abbrev pub is_value_in : CivilText → CivilValue → Bool
is_value_in kind (Daily time) = is_civil (Daily time)
is_value_in kind (Weekly day time) = is_civil (Weekly day time)
is_value_in kind (On date time) = is_civil (On date time)
is_value_in kind (Every pace date time) = has_paces kind && is_civil (Every pace date time)
