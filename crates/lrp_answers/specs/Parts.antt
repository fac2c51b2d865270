-- Answers in parts, each in cells of a period of its own.
use Rattle.std.specs.Prelude.{◌≡◌, List, Contains}
use Rattle.lrp_model.specs.Rows.{Datum}
use Rattle.lrp_store.specs.Tables.{InAnswer}
use Rattle.lrp_answers.specs.declared.answer.Answer.{Answer}

-- one of the parts has the tuple
pub record IsInSomePart (parts : List Answer) (tuple : List Datum) : Type 0 where
  pub part : Answer
  pub listed : Contains parts part
  pub is : InAnswer part.head.columns part.domain part.store tuple

-- the parts have one head and one domain
pub record AreAlike (parts : List Answer) : Type 0 where
  pub head : (a b : Answer) → Contains parts a → Contains parts b → a.head.columns ≡ b.head.columns
  pub domain : (a b : Answer) → Contains parts a → Contains parts b → a.domain ≡ b.domain
