-- What the answer of a query is as a text: a relation `answer` whose rows hold exactly the answers, or `Empty`.
use Rattle.std.specs.Prelude.{◌≡◌, ◌≢◌, ◌↔◌, ◌≤◌, ◌+ℤ◌, ◌-ℤ◌, ◌≤ℤ◌, ◌<ℤ◌, ℕ, zero, suc, ℤ, pos, List, [], ◌∷◌, AllPairs, Contains, codes}
use Rattle.std.specs.List.{AllByRecursion}
use Rattle.std.specs.Ordering.{int_cmp, nat_cmp, ordering_then}
use Rattle.std.specs.declared.cmp.Ordering.{Ordering}
use Rattle.std.specs.declared.cmp.Ordering.TheVariants.{Less, Equal, Greater}
use Rattle.std.specs.Cmp.Lexicographic.{slice_cmp}
use Rattle.lrp_model.specs.Texts.{Identifier, Text, text_cmp}
use Rattle.lrp_model.specs.Rows.{Tuple, IsOf, times_of, IsInRow, Holds}
use Rattle.lrp_model.specs.Formulas.{Question}
use Rattle.lrp_model.specs.Satisfaction.{IsAnswer}
use Rattle.lrp_model.specs.Periods.{period}
use Rattle.lrp_model.specs.Sorts.{time_count}
use Rattle.lrp_model.specs.DatabaseReading.{IsDatabase}
use Rattle.lrp_model.specs.Printed.{relation_bytes}
use Rattle.lrp_model.specs.declared.relations.Value.{Value}
use Rattle.lrp_model.specs.declared.relations.Value.TheVariants.{Point, Const}
use Rattle.lrp_model.specs.declared.relations.Bound.{Bound}
use Rattle.lrp_model.specs.declared.relations.Row.{Row}
use Rattle.lrp_model.specs.declared.relations.Relation.{Relation}
use Rattle.lrp_theory.specs.Entries.{node}

-- ---- the cell of a row

-- the texts of a row, in head order
abbrev pub value_texts : List Value → List Text
value_texts [] = []
value_texts (Point p ∷ values) = value_texts values
value_texts (Const t ∷ values) = t ∷ value_texts values

-- its residues, in head order
abbrev pub value_residues : List Value → List ℤ
value_residues [] = []
value_residues (Point p ∷ values) = p.offset ∷ value_residues values
value_residues (Const t ∷ values) = value_residues values

-- the order of cells: by the texts, and then by the residues
abbrev pub row_cell_cmp : Row → Row → Ordering
row_cell_cmp r s = ordering_then (slice_cmp text_cmp (value_texts r.values) (value_texts s.values)) (slice_cmp int_cmp (value_residues r.values) (value_residues s.values))

-- two rows are of one cell
abbrev pub OfOneCell : Row → Row → Type 0
OfOneCell r s = row_cell_cmp r s ≡ Equal

-- the cell of the first row is not after that of the second
abbrev pub InOrder : Row → Row → Type 0
InOrder r s = row_cell_cmp r s ≢ Greater

-- ---- a row by itself

-- a point has the period K, and an offset that is a residue
abbrev pub HasPeriod : ℕ → Value → Type 0
HasPeriod K (Const t) = Unit {0}
HasPeriod K (Point p) = (p.period ≡ pos K) × (pos 0 ≤ℤ p.offset) × (p.offset <ℤ pos K)

-- time column i minus time column j is at most the number in each member of the row, and some member attains it
pub record IsLeastRowBound (row : Row) (i j : ℕ) (a : ℤ) : Type 0 where
  pub met : (tuple : Tuple) → IsInRow row tuple → (node (times_of tuple) i -ℤ node (times_of tuple) j) ≤ℤ a
  pub attained : (tuple : Tuple) × IsInRow row tuple × (node (times_of tuple) i -ℤ node (times_of tuple) j ≡ a)

-- the bound is on two of the columns from 0 to m, and is the least one
pub record IsOwnBound (row : Row) (m : ℕ) (bound : Bound) : Type 0 where
  pub left : bound.left ≤ m
  pub right : bound.right ≤ m
  pub apart : bound.left ≢ bound.right
  pub least : IsLeastRowBound row bound.left bound.right bound.most

-- bounds row by row: by their left columns, and then by their right ones
abbrev pub ComesBefore : Bound → Bound → Type 0
ComesBefore b c = ordering_then (nat_cmp b.left c.left) (nat_cmp b.right c.right) ≡ Less

-- a row of an answer with m time columns and the period K: its bounds are all least bounds of its members, in order
pub record IsAnswerRow (K m : ℕ) (row : Row) : Type 0 where
  pub period : AllByRecursion (HasPeriod K) row.values
  pub own : AllByRecursion (IsOwnBound row m) row.bounds
  pub all : (i j : ℕ) (a : ℤ) → i ≤ m → j ≤ m → i ≢ j → IsLeastRowBound row i j a → Contains row.bounds (record { left = i; right = j; most = a })
  pub ordered : AllPairs ComesBefore row.bounds

-- ---- the rows of one cell

-- with one time column, every member of the first row comes before those of the second, and the next integer of the cell is between: the rows are the maximal disjoint intervals, ascending
abbrev pub IsApart : ℕ → Row → Row → Type 0
IsApart K r s = (t u : Tuple) → IsInRow r t → IsInRow s u → (node (times_of t) 1 +ℤ pos K) <ℤ node (times_of u) 1

-- the answers in the row's cell are the members of one zone, which is that cell with some bounds
pub record IsOneZone (answers : Tuple → Type 0) (row : Row) : Type 0 where
  pub bounds : List Bound
  pub same : (tuple : Tuple) → IsOf row.values tuple → answers tuple ↔ IsInRow (record { values = row.values; bounds = bounds }) tuple

-- every member of the first row is one of the second
abbrev pub LiesWithin : Row → Row → Type 0
LiesWithin r s = (tuple : Tuple) → IsInRow r tuple → IsInRow s tuple

-- the answers in the rows' cell are not those of one zone, and neither row lies within the other
pub record AreTwoOfMany (answers : Tuple → Type 0) (r s : Row) : Type 0 where
  pub many : IsOneZone answers r → ⊥
  pub forth : LiesWithin r s → ⊥
  pub back : LiesWithin s r → ⊥

-- what holds of two rows of one cell, by the number of time columns: with none there are no two, with one they lie apart, and with more they are two of many
abbrev pub MayStandBeside : (Tuple → Type 0) → ℕ → ℕ → Row → Row → Type 0
MayStandBeside answers K zero r s = ⊥
MayStandBeside answers K (suc zero) r s = IsApart K r s
MayStandBeside answers K (suc (suc m)) r s = AreTwoOfMany answers r s

-- ---- the text

-- the relation of this name that has the answers of a query, in rows of period K: it has the head's columns and holds exactly the answers, cell by cell
pub record IsAnswerRelation (called : Identifier) (K : ℕ) (db : List Relation) (q : Question) (answer : Relation) : Type 0 where
  pub name : answer.name ≡ called
  pub columns : answer.columns ≡ q.head
  pub holds : (tuple : Tuple) → IsAnswer db q tuple ↔ Holds (answer ∷ []) answer.name tuple
  pub rows : AllByRecursion (IsAnswerRow K (time_count q.head)) answer.rows
  pub cells : AllPairs InOrder answer.rows
  pub beside : AllPairs (λ r s. OfOneCell r s → MayStandBeside (IsAnswer db q) K (time_count q.head) r s) answer.rows

-- the text is such a relation as it is written out, and is read back as it
pub record IsRelationText (called : Identifier) (K : ℕ) (db : List Relation) (q : Question) (bytes : List ℕ) : Type 0 where
  pub answer : Relation
  pub is : IsAnswerRelation called K db q answer
  pub layout : bytes ≡ relation_bytes answer
  pub read : IsDatabase bytes (answer ∷ [])

-- the text of a query's answer in rows of period K: the line `Empty` where no tuple satisfies the query, and such a relation where one does
pub record IsAnswerTextOf (called : Identifier) (K : ℕ) (db : List Relation) (q : Question) (bytes : List ℕ) : Type 0 where
  pub none : ((tuple : Tuple) → IsAnswer db q tuple → ⊥) → bytes ≡ codes "Empty\n"
  pub some : (tuple : Tuple) → IsAnswer db q tuple → IsRelationText called K db q bytes

-- in rows of the query's period
abbrev pub IsAnswerText : Identifier → List Relation → Question → List ℕ → Type 0
IsAnswerText called db q = IsAnswerTextOf called (period db q.body) db q
