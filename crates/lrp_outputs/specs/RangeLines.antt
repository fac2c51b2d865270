-- The line of the number of answers in a window; and the lines of its ranges, and the line after them.
use Rattle.std.specs.Prelude.{ℕ, ℤ, Bool, true, false, List, [], ◌∷◌, ◌++◌, flat_map, codes}
use Rattle.std.specs.Fmt.{decimal, signed_decimal}
use Rattle.std.specs.List.{AllByRecursion}
use Rattle.lrp_model.specs.Rows.{time}
use Rattle.lrp_civil.specs.CivilLines.{civil_time_bytes}
use Rattle.lrp_calendar.specs.Moments.{IsCivilMinute}
use Rattle.lrp_count.specs.declared.windows.Range.{Range}
use Rattle.lrp_outputs.specs.PageLines.{line_as}

-- the line of a number of answers
abbrev pub count_line : ℕ → List ℕ
count_line number = decimal number ++ codes "\n"

-- the two ends of a range
abbrev pub range_ends : Range → List ℤ
range_ends range = range.from ∷ range.to ∷ []

-- the line of a range, which is that of a tuple of its two ends: with dates where the first flag is set, and in JSON where the second is
abbrev pub range_line : Bool → Bool → Range → List ℕ
range_line civil json range = line_as civil json (time range.from ∷ time range.to ∷ [])

-- the line after those of the ranges, in JSON where the first flag is set: whether a further range is left
abbrev pub last_line : Bool → Bool → List ℕ
last_line false false = codes "end\n"
last_line false true = codes "more\n"
last_line true false = codes "{\"more\":false}\n"
last_line true true = codes "{\"more\":true}\n"

-- the lines of ranges, and the line after them
abbrev pub ranges_bytes : Bool → Bool → List Range → Bool → List ℕ
ranges_bytes civil json ranges more = flat_map (range_line civil json) ranges ++ last_line json more

-- an end as it stands in a line
abbrev pub end_bytes : Bool → Bool → ℤ → List ℕ
end_bytes false json = signed_decimal
end_bytes true json = civil_time_bytes json

-- where times are dates, it is a minute of the years 1 to 9999
abbrev pub IsDatedWhere : Bool → ℤ → Type 0
IsDatedWhere false end = Unit {0}
IsDatedWhere true end = IsCivilMinute end

-- and so are both ends of a range
abbrev pub HasEndsAs : Bool → Range → Type 0
HasEndsAs civil range = AllByRecursion (IsDatedWhere civil) (range_ends range)
