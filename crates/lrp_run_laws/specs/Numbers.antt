-- Runs that told how many answers windows have, of which two make up a third.
use Rattle.std.specs.Prelude.{◌≡◌, ℕ, ℤ, ◌+◌, List}
use Rattle.lrp_io.specs.declared.shelf.File.{File}
use Rattle.lrp_words.specs.Commands.{FilesAsked}
use Rattle.lrp_words.specs.Commands.Task.{count}
use Rattle.lrp_model.specs.Formulas.{Question}
use Rattle.lrp_model.specs.declared.relations.Relation.{Relation}
use Rattle.lrp_outputs.specs.RangeLines.{count_line}
use Rattle.lrp_outputs.specs.declared.status.Status.TheVariants as status
use Rattle.lrp_run_laws.specs.Contents.{contents_at, SaysQuestion, SaysRelations}
use Rattle.lrp_run_laws.specs.Runs.{IsRunOf, Run, WroteAll}
use Rattle.lrp_top.specs.Languages.{civil_by, language_by}

-- a run that asks how many answers a window has, over files that say these relations and this query, ended with Done
pub record HasToldNumber (run : Run) (db : List Relation) (q : Question) (from to : ℤ) : Type 0 where
  pub of : FilesAsked
  pub cap : ℕ
  pub held : List File
  pub is : IsRunOf (count of from to cap) held run
  pub relations : SaysRelations (civil_by of) (contents_at held of) db
  pub question : SaysQuestion (language_by of) (contents_at held of) db q
  pub done : run.ended ≡ status.Done

-- the third wrote the sum of the numbers that the first two wrote
pub record HaveAddedUp (one next whole : Run) : Type 0 where
  pub first : ℕ
  pub second : ℕ
  pub written : WroteAll one.taken (count_line first)
  pub written_next : WroteAll next.taken (count_line second)
  pub written_whole : WroteAll whole.taken (count_line (first + second))
