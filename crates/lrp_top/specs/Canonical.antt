-- The canonical answer of a query with one time column: the number of its rows, and its text.
use Rattle.std.specs.Prelude.{◌≡◌, ℕ, List}
use Rattle.lrp_model.specs.AnswerTexts.{IsAnswerTextOf}
use Rattle.lrp_model.specs.Formulas.{Question}
use Rattle.lrp_model.specs.Texts.{Identifier}
use Rattle.lrp_model.specs.Sorts.{time_count}
use Rattle.lrp_model.specs.declared.relations.Relation.{Relation}
use Rattle.lrp_canon.specs.Answers.{HasNumber}
use Rattle.lrp_canon.specs.Rows.{HasRowCount, IsLeastPeriod}

-- the answers have so many maximal rows of their least period
abbrev pub HasCanonicalRows : List Relation → Question → ℕ → Type 0
HasCanonicalRows db q = HasRowCount (HasNumber db q)

-- the text is that of the canonical answer: the head has one time column, and it is an answer text in rows of the least period with which finitely many rows give the answers
pub record IsCanonicalText (called : Identifier) (db : List Relation) (q : Question) (bytes : List ℕ) : Type 0 where
  pub column : time_count q.head ≡ 1
  pub period : ℕ
  pub least : IsLeastPeriod (HasNumber db q) period
  pub text : IsAnswerTextOf called period db q bytes
