-- The least answer of a query, where there is one, and its line.
use Rattle.std.specs.Prelude.{ℕ, Bool, true, false, List, Option, Some, None, codes}
use Rattle.lrp_civil.specs.Dated.{dated_line}
use Rattle.lrp_model.specs.Formulas.{Question}
use Rattle.lrp_model.specs.Order.{IsLeast}
use Rattle.lrp_model.specs.Rows.{Tuple}
use Rattle.lrp_model.specs.PrintedPages.{plain_line}
use Rattle.lrp_model.specs.Satisfaction.{IsAnswer}
use Rattle.lrp_model.specs.declared.relations.Relation.{Relation}

-- the least answer, where there is one
abbrev pub IsFirst : List Relation → Question → Option Tuple → Type 0
IsFirst db q None = (tuple : Tuple) → IsAnswer db q tuple → ⊥
IsFirst db q (Some tuple) = IsLeast (IsAnswer db q) tuple

-- the line of a least answer: with its times of the years 1 to 9999 as dates where the flag is set
abbrev pub least_line : Bool → Tuple → List ℕ
least_line false = plain_line
least_line true = dated_line

-- the line of the least answer, where there is one
abbrev pub first_line : Option Tuple → List ℕ
first_line None = codes "none\n"
first_line (Some tuple) = plain_line tuple
