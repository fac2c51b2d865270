-- Two runs that end alike.
use Rattle.std.specs.Prelude.{◌≡◌, ℕ, false, List}
use Rattle.lrp_words.specs.Commands.{Task}
use Rattle.lrp_words.specs.Commands.Task.{ask}
use Rattle.lrp_model.specs.AnswerTexts.{IsAnswerText}
use Rattle.lrp_outputs.specs.declared.status.Status.{Status}
use Rattle.lrp_outputs.specs.declared.status.Status.TheVariants as status
use Rattle.lrp_run_laws.specs.Contents.{Contents, Asking}
use Rattle.lrp_run_laws.specs.Runs.{Run, WroteAll}

-- a status that the words and the contents of the files decide
abbrev pub IsDecidedByFiles : Status → Type 0
IsDecidedByFiles status.Memory = ⊥
IsDecidedByFiles status.Read = ⊥
IsDecidedByFiles status.Write = ⊥
IsDecidedByFiles _ = Unit {0}

-- two outputs are one: for `ask` without a canonical answer both are answer texts of what the files ask, and for every other task they are equal
abbrev pub AreOneOutput : Task → Contents → List ℕ → List ℕ → Type 0
AreOneOutput (ask of cap false called) files text other = Asking of files (λ db q. IsAnswerText called db q text × IsAnswerText called db q other)
AreOneOutput _ files text other = text ≡ other

-- the texts of two runs that ended with this status: refusals are equal
abbrev pub AreOneText : Status → Task → Contents → List ℕ → List ℕ → Type 0
AreOneText status.Done task files text other = AreOneOutput task files text other
AreOneText _ task files text other = text ≡ other

-- two runs of the task ended alike: with one status, and with one text
pub record EndedAlike (task : Task) (files : Contents) (run other : Run) : Type 0 where
  pub status : run.ended ≡ other.ended
  pub text : List ℕ
  pub text_again : List ℕ
  pub written : WroteAll run.taken text
  pub written_again : WroteAll other.taken text_again
  pub same : AreOneText run.ended task files text text_again
