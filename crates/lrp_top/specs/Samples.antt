-- The program's question of a sample, against the relations and the query that its texts mean.
use Rattle.std.specs.Prelude.{◌≡◌, ℕ, Result, Ok, Err}
use Rattle.lrp_model.specs.Formulas.{question_of}
use Rattle.lrp_model.specs.declared.plans.Planning.TheVariants.{Written}
use Rattle.lrp_sample.specs.Trees.{sample_question, sample_relations}
use Rattle.lrp_top.specs.Questions.{IsMemory, IsReady}
use Rattle.lrp_outputs.specs.declared.refusal.Refusal.{Refusal}
use Rattle.lrp_top.specs.declared.question.Question.{Question}

-- the question is ready and planned as it is written, and its relations and its query are the sample's
pub record IsSampleQuestion (seed size : ℕ) (question : Question) : Type 0 where
  pub ready : IsReady question
  pub planning : question.planning ≡ Written
  pub relations : question.database.relations ≡ sample_relations seed size
  pub query : question_of question.query.query ≡ sample_question

-- such a question, unless memory ran out
abbrev pub IsSampleOrMemory : ℕ → ℕ → Result Question Refusal → Type 0
IsSampleOrMemory seed size (Ok question) = IsSampleQuestion seed size question
IsSampleOrMemory seed size (Err refusal) = IsMemory refusal
