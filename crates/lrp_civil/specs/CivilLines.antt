-- The lines of answers with their times as dates and times of day.
use Rattle.std.specs.Prelude.{ℕ, ℤ, Bool, true, false, List, ◌++◌, codes}
use Rattle.lrp_model.specs.Rows.{Tuple}
use Rattle.lrp_answer_text.specs.Lines.{tuple_line}
use Rattle.lrp_calendar.specs.Moments.{moment_bytes}

-- a time as its date and its time of day, in quotes where the flag is set
abbrev pub civil_time_bytes : Bool → ℤ → List ℕ
civil_time_bytes false x = moment_bytes x
civil_time_bytes true x = codes "\"" ++ (moment_bytes x ++ codes "\"")

-- the line of a tuple with its times written so, in JSON where the flag is set
abbrev pub civil_line : Bool → Tuple → List ℕ
civil_line json = tuple_line (civil_time_bytes json) json
