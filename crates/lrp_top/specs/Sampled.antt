-- What the sample tells.
use Rattle.std.specs.Prelude.{◌≡◌, ℕ, pos, List, length, Option}
use Rattle.lrp_model.specs.DatabaseReading.{IsDatabase}
use Rattle.lrp_model.specs.Formulas.{Question}
use Rattle.lrp_model.specs.Rows.{Tuple}
use Rattle.lrp_model.specs.Plans.{plan}
use Rattle.lrp_model.specs.declared.relations.Relation.{Relation}
use Rattle.lrp_eval.specs.Counts.{HasAnswerCount, HasCells}
use Rattle.lrp_outputs.specs.First.{IsFirst}
use Rattle.lrp_sample.specs.Texts.{sample_database, sample_query}
use Rattle.lrp_outputs.specs.SampleLines.{sample_lines}
use Rattle.lrp_top.specs.Written.{IsSorted}

-- the text tells of the relations and the query that the sample's two texts mean: how many rows there are, how many cells the last step of its plan as it is written inhabits, the least answer, and how many answers lie in the minutes 0 to 1439
pub record TellsSample (seed size : ℕ) (bytes : List ℕ) : Type 0 where
  pub db : List Relation
  pub q : Question
  pub database : IsDatabase (sample_database seed size) db
  pub query : IsSorted db sample_query q
  pub cells : ℕ
  pub counted : HasCells (plan db q) db q (length (plan db q)) cells
  pub first : Option Tuple
  pub least : IsFirst db q first
  pub window : ℕ
  pub answers : HasAnswerCount db q (pos 0) (pos 1439) window
  pub spelled : bytes ≡ sample_lines size cells first window
