-- Runs that told the canonical answers of two queries with the same answers.
use Rattle.std.specs.Prelude.{◌≡◌, ◌↔◌, ℕ, true, List}
use Rattle.lrp_io.specs.declared.shelf.File.{File}
use Rattle.lrp_words.specs.Commands.{FilesAsked}
use Rattle.lrp_words.specs.Commands.Task.{ask}
use Rattle.lrp_model.specs.Formulas.{Question}
use Rattle.lrp_model.specs.Rows.{Tuple}
use Rattle.lrp_model.specs.Satisfaction.{IsAnswer}
use Rattle.lrp_model.specs.declared.relations.Relation.{Relation}
use Rattle.lrp_outputs.specs.declared.status.Status.TheVariants as status
use Rattle.lrp_run_laws.specs.Contents.{contents_at, SaysQuestion, SaysRelations}
use Rattle.lrp_run_laws.specs.Runs.{IsRunOf, Run, WroteAll}
use Rattle.lrp_top.specs.Languages.{civil_by, language_by}
use Rattle.lrp_model.specs.Texts.{Identifier}

-- the queries, each over its relations, have one head and the same answers
pub record HaveSameAnswers (db further : List Relation) (q r : Question) : Type 0 where
  pub head : q.head ≡ r.head
  pub answers : (tuple : Tuple) → IsAnswer db q tuple ↔ IsAnswer further r tuple

-- a run that asks for the canonical answer by some way of planning, over files that say these relations and this query, ended with Done
pub record HasToldCanonical (run : Run) (called : Identifier) (db : List Relation) (q : Question) : Type 0 where
  pub of : FilesAsked
  pub cap : ℕ
  pub held : List File
  pub is : IsRunOf (ask of cap true called) held run
  pub relations : SaysRelations (civil_by of) (contents_at held of) db
  pub question : SaysQuestion (language_by of) (contents_at held of) db q
  pub done : run.ended ≡ status.Done

-- both wrote the same bytes, and nothing else
pub record WroteAlike (run other : Run) : Type 0 where
  pub text : List ℕ
  pub written : WroteAll run.taken text
  pub written_again : WroteAll other.taken text
