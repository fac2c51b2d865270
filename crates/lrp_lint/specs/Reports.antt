-- The lines of what is found.
use Rattle.std.specs.Prelude.{◌+◌, ℕ, List, [], ◌++◌, flat_map, Option, Some, None, codes, slice_get}
use Rattle.std.specs.Fmt.{decimal}
use Rattle.lrp_model.specs.declared.relations.Relation.{Relation}
use Rattle.lrp_lint.specs.declared.flaws.RowFlaw.{RowFlaw}
use Rattle.lrp_lint.specs.declared.flaws.RowFlaw.TheVariants.{EmptyRow, UntiedTimes, RowLimit}
use Rattle.lrp_lint.specs.declared.flaws.QueryFlaw.{QueryFlaw}
use Rattle.lrp_lint.specs.declared.flaws.QueryFlaw.TheVariants.{UnknownText, EmptyRelation}
use Rattle.lrp_lint.specs.declared.flaws.RowFinding.{RowFinding}
use Rattle.lrp_lint.specs.declared.flaws.QueryFinding.{QueryFinding}
use Rattle.lrp_lint.specs.declared.report.LintReport.{LintReport}

abbrev pub row_flaw_word : RowFlaw → List ℕ
row_flaw_word EmptyRow = codes "EmptyRow"
row_flaw_word UntiedTimes = codes "UntiedTimes"
row_flaw_word RowLimit = codes "RowLimit"

abbrev pub query_flaw_word : QueryFlaw → List ℕ
query_flaw_word UnknownText = codes "UnknownText"
query_flaw_word EmptyRelation = codes "EmptyRelation"

-- the name of a relation; each finding is of one that is there
abbrev pub told_name : Option Relation → List ℕ
told_name None = []
told_name (Some relation) = relation.name

abbrev pub relation_name : List Relation → ℕ → List ℕ
relation_name relations number = told_name (slice_get relations number)

-- `database KIND NAME NUMBER`, where the rows of a relation are counted from 1
abbrev pub flaw_line : List ℕ → List ℕ → ℕ → List ℕ
flaw_line flaw name row = codes "database " ++ (flaw ++ (codes " " ++ (name ++ (codes " " ++ (decimal (row + 1) ++ codes "\n")))))

abbrev pub row_finding_line : List Relation → RowFinding → List ℕ
row_finding_line relations f = flaw_line (row_flaw_word f.flaw) (relation_name relations f.relation) f.row

abbrev pub row_lines : List Relation → List RowFinding → List ℕ
row_lines relations = flat_map (row_finding_line relations)

-- `query KIND at LINE:COLUMN`
abbrev pub query_finding_line : QueryFinding → List ℕ
query_finding_line f = codes "query " ++ (query_flaw_word f.flaw ++ (codes " at " ++ (decimal f.line ++ (codes ":" ++ (decimal f.column ++ codes "\n")))))

abbrev pub query_lines : List QueryFinding → List ℕ
query_lines = flat_map query_finding_line

-- the lines of rows, then those of the query, and `end`
abbrev pub report_text : LintReport → List ℕ
report_text report = row_lines report.database report.findings.rows ++ (query_lines report.findings.query ++ codes "end\n")
