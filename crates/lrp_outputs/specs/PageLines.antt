-- The lines of a page, and the line after them.
use Rattle.std.specs.Prelude.{ℕ, Bool, true, false, List, ◌++◌, flat_map}
use Rattle.lrp_model.specs.Pages.{last_of}
use Rattle.lrp_model.specs.Rows.{Tuple}
use Rattle.lrp_model.specs.PrintedPages.{answer_line, end_line, token_after}
use Rattle.lrp_civil.specs.CivilLines.{civil_line}

-- the line of a tuple: with its times as dates where the first flag is set, and in JSON where the second is
abbrev pub line_as : Bool → Bool → Tuple → List ℕ
line_as false json = answer_line json
line_as true json = civil_line json

-- the lines of a page, and the line after it
abbrev pub listed_bytes : Bool → Bool → List ℕ → List Tuple → Bool → List ℕ
listed_bytes civil json files page more = flat_map (line_as civil json) page ++ end_line json (token_after files more (last_of page))
