-- What is found in a database and a query, each once and in order.
use Rattle.std.specs.Prelude.{◌≡◌, ◌↔◌, ◌⊎◌, ℕ, List, [], ◌∷◌, Contains, Option, Some, None, slice_get, Bool, true, false}
use Rattle.std.specs.declared.cmp.Ordering.{Ordering}
use Rattle.std.specs.List.Sorted.{IsStrictlySortedBy}
use Rattle.lrp_model.specs.RawQueries.{RawQuestion}
use Rattle.lrp_model.specs.declared.relations.Column.{Column}
use Rattle.lrp_model.specs.declared.relations.Relation.{Relation}
use Rattle.lrp_model.specs.declared.relations.Row.{Row}
use Rattle.lrp_lint.specs.Flaws.{HasFlaw}
use Rattle.lrp_lint.specs.Mentions.{query_findings}
use Rattle.lrp_lint.specs.declared.flaws.RowFlaw.{RowFlaw}
use Rattle.lrp_lint.specs.declared.flaws.RowFlaw.TheVariants.{UntiedTimes}
use Rattle.lrp_lint.specs.contracts.flaws.QueryFindingOrd.TheImpl as by_place
use Rattle.lrp_lint.specs.contracts.flaws.RowFindingOrd.TheImpl as by_row
use Rattle.lrp_lint.specs.declared.flaws.RowFinding.{RowFinding}
use Rattle.lrp_lint.specs.declared.flaws.QueryFinding.{QueryFinding}
use Rattle.lrp_lint.specs.declared.findings.Findings.{Findings}

-- findings of rows are ordered by relation, row and kind, in the order in which these are declared
abbrev pub row_order : RowFinding → RowFinding → Ordering
row_order = (by_row.ghosts).cmp

-- findings of a query are ordered by line, column and kind
abbrev pub query_order : QueryFinding → QueryFinding → Ordering
query_order = (by_place.ghosts).cmp

-- the row of this number, of the relation of this number, both from 0, has the flaw
pub record IsRowFinding (db : List Relation) (f : RowFinding) : Type 0 where
  pub relation : Relation
  pub row : Row
  pub named : slice_get db f.relation ≡ Some relation
  pub at : slice_get relation.rows f.row ≡ Some row
  pub flaw : HasFlaw f.flaw relation.columns row

-- the list has just the findings that there are, each once and in this order
pub record IsListOfAll {F : Type 0} (order : F → F → Ordering) (Is : F → Type 0) (found : List F) : Type 0 where
  pub same : (f : F) → Contains found f ↔ Is f
  pub ascending : IsStrictlySortedBy order found

-- those of the other list, each once and in this order
abbrev pub AreEachOnce : {F : Type 0} → (F → F → Ordering) → List F → List F → Type 0
AreEachOnce order all found = IsListOfAll order (Contains all) found

-- what is wrong with what a query names, where there is one
abbrev pub AreQueryFindings : List Relation → Option RawQuestion → List QueryFinding → Type 0
AreQueryFindings db None found = found ≡ []
AreQueryFindings db (Some q) found = AreEachOnce query_order (query_findings db q) found

-- what is found in a database, and in a query over it where there is one
pub record AreFindings (db : List Relation) (asked : Option RawQuestion) (findings : Findings) : Type 0 where
  pub rows : IsListOfAll row_order (IsRowFinding db) findings.rows
  pub query : AreQueryFindings db asked findings.query

-- ---- inside

-- those of the set are found besides
abbrev pub FindsMore : {F : Type 0} → (F → Type 0) → List F → List F → Type 0
FindsMore {F} Is old new = (f : F) → Contains new f ↔ (Contains old f ⊎ Is f)

-- in the relation of this number
pub record IsFindingIn (number : ℕ) (relation : Relation) (f : RowFinding) : Type 0 where
  pub here : f.relation ≡ number
  pub row : Row
  pub at : slice_get relation.rows f.row ≡ Some row
  pub flaw : HasFlaw f.flaw relation.columns row

-- in the row of this number
pub record IsFindingAt (relation number : ℕ) (columns : List Column) (row : Row) (f : RowFinding) : Type 0 where
  pub here : f.relation ≡ relation
  pub there : f.row ≡ number
  pub flaw : HasFlaw f.flaw columns row

-- the finding of a flaw in that row
abbrev pub flaw_at : ℕ → ℕ → RowFlaw → RowFinding
flaw_at relation number flaw = record { relation = relation; row = number; flaw = flaw }

-- the flaw of the row's content, where it has one
abbrev pub content_findings : ℕ → ℕ → Option RowFlaw → List RowFinding
content_findings relation number None = []
content_findings relation number (Some flaw) = flaw_at relation number flaw ∷ []

-- that its times are untied, where they are
abbrev pub untied_findings : ℕ → ℕ → Bool → List RowFinding
untied_findings relation number false = []
untied_findings relation number true = flaw_at relation number UntiedTimes ∷ []
