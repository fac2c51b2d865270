-- What the text of each command tells.
use Rattle.std.specs.Prelude.{◌≡◌, ◌⊎◌, ℕ, ℤ, Bool, List, ◌++◌, Option, codes}
use Rattle.lrp_model.specs.Formulas.{Question}
use Rattle.lrp_model.specs.Order.{IsLeast}
use Rattle.lrp_model.specs.Pages.{IsPage}
use Rattle.lrp_model.specs.Rows.{Tuple}
use Rattle.lrp_model.specs.Printed.{database_bytes}
use Rattle.lrp_model.specs.PrintedPlans.{plan_bytes}
use Rattle.lrp_model.specs.RawQueries.{RawQuestion}
use Rattle.lrp_model.specs.Satisfaction.{IsAnswer}
use Rattle.lrp_model.specs.declared.plans.Plan.{Plan}
use Rattle.lrp_model.specs.declared.relations.Relation.{Relation}
use Rattle.lrp_print.specs.ReadBack.{ReadsBack}
use Rattle.lrp_count.specs.Numbers.{HasSize}
use Rattle.lrp_count.specs.Ranges.{AreRanges, InWindowOf, IsAnswerTime}
use Rattle.lrp_count.specs.declared.windows.Range.{Range}
use Rattle.lrp_lint.specs.Listed.{AreFindings}
use Rattle.lrp_lint.specs.Reports.{report_text}
use Rattle.lrp_lint.specs.declared.findings.Findings.{Findings}
use Rattle.lrp_outputs.specs.First.{least_line}
use Rattle.lrp_outputs.specs.PageLines.{listed_bytes}
use Rattle.lrp_outputs.specs.RangeLines.{count_line, ranges_bytes}

-- the text is that of the relations, and reads back as relations that hold the same
abbrev pub TellsRelations : List Relation → List ℕ → Type 0
TellsRelations db bytes = (bytes ≡ database_bytes db) × ReadsBack db

-- the text is that of the plan
abbrev pub TellsPlan : Plan → List ℕ → Type 0
TellsPlan p bytes = bytes ≡ plan_bytes p

-- the query has no answer, and the text says so
pub record TellsNone (db : List Relation) (q : Question) (bytes : List ℕ) : Type 0 where
  pub none : (tuple : Tuple) → IsAnswer db q tuple → ⊥
  pub spelled : bytes ≡ codes "Empty\n"

-- the text has the line of the query's least answer, with its times of the years 1 to 9999 as dates where the flag is set
pub record TellsLeast (dates : Bool) (db : List Relation) (q : Question) (bytes : List ℕ) : Type 0 where
  pub tuple : Tuple
  pub least : IsLeast (IsAnswer db q) tuple
  pub spelled : bytes ≡ codes "Nonempty\n" ++ least_line dates tuple

-- the one or the other
abbrev pub TellsWitness : Bool → List Relation → Question → List ℕ → Type 0
TellsWitness dates db q bytes = TellsNone db q bytes ⊎ TellsLeast dates db q bytes

-- the text is that of the number of the query's answers in the window
pub record TellsNumber (db : List Relation) (q : Question) (from to : ℤ) (bytes : List ℕ) : Type 0 where
  pub number : ℕ
  pub is : HasSize (InWindowOf (IsAnswer db q) from to) number
  pub spelled : bytes ≡ count_line number

-- the text is that of the first ranges of the query's answers in the window
pub record TellsRanges (db : List Relation) (q : Question) (from to : ℤ) (limit : ℕ) (civil json : Bool) (bytes : List ℕ) : Type 0 where
  pub ranges : List Range
  pub more : Bool
  pub are : AreRanges (IsAnswerTime (IsAnswer db q)) from to limit ranges more
  pub spelled : bytes ≡ ranges_bytes civil json ranges more

-- the text is that of the page of the query's answers in the window after a tuple, with tokens of the files' digest
pub record TellsPage (db : List Relation) (q : Question) (from to : ℤ) (after : Option Tuple) (limit : ℕ) (civil json : Bool) (digest : List ℕ) (bytes : List ℕ) : Type 0 where
  pub page : List Tuple
  pub more : Bool
  pub is : IsPage (IsAnswer db q) from to after limit page more
  pub spelled : bytes ≡ listed_bytes civil json digest page more

-- the text is that of what is silently wrong in the database, and in a query over it where there is one
pub record TellsFindings (db : List Relation) (asked : Option RawQuestion) (bytes : List ℕ) : Type 0 where
  pub findings : Findings
  pub are : AreFindings db asked findings
  pub spelled : bytes ≡ report_text (record { database = db; findings = findings })
