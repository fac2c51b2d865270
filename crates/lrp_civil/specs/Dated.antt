-- Times as dates and times of day where they have one.
use Rattle.std.specs.Prelude.{ℕ, ℤ, int_le, Bool, false, ◌&&◌, List, if◌then◌else◌}
use Rattle.std.specs.Fmt.{signed_decimal}
use Rattle.lrp_model.specs.Rows.{Tuple}
use Rattle.lrp_answer_text.specs.Lines.{tuple_line}
use Rattle.lrp_calendar.specs.Moments.{minute_at, moment_bytes}

-- whether a minute is one of 0001-01-01 00:00 to 9999-12-31 23:59
abbrev pub is_civil_minute : ℤ → Bool
is_civil_minute x = int_le (minute_at (record { year = 1; month = 1; day = 1 }) 0) x && int_le x (minute_at (record { year = 9999; month = 12; day = 31 }) 1439)

-- a minute of those years as its date and its time of day, and any other as its number
abbrev pub dated_bytes : ℤ → List ℕ
dated_bytes x = if is_civil_minute x then moment_bytes x else signed_decimal x

-- the plain line of a tuple with its times written so
abbrev pub dated_line : Tuple → List ℕ
dated_line = tuple_line dated_bytes false
