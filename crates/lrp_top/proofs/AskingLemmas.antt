-- The question that words ask, and what is due for it.
use Rattle.std.proofs.Common.{◌≡◌, List, [], ◌∷◌, None, Some, sym, subst}
use Rattle.std.specs.List.{AllByRecursion}
use Rattle.lrp_io.specs.Starts.{Start, StartsOnly}
use Rattle.lrp_model.specs.Texts.{Identifier}
use Rattle.lrp_outputs.specs.Outcomes.{Outcome}
use Rattle.lrp_outputs.specs.declared.head.HeadNeed.TheVariants as needs
use Rattle.lrp_words.specs.Commands.{HasCivil, HasCivilOfFiles, after_text, asked_files, asked_task, task_of}
use Rattle.lrp_words.specs.Ranges.{IsEnd, IsInRange}
use Rattle.lrp_words.specs.declared.command.Command.{Command}
use Rattle.lrp_words.specs.declared.command.Command.TheVariants.{Question}
use Rattle.lrp_words.specs.declared.command.QuestionFiles.{QuestionFiles}
use Rattle.lrp_words.specs.declared.purpose.Asked.{Asked}
use Rattle.lrp_words.specs.declared.purpose.Purpose.{Purpose}
use Rattle.lrp_words.specs.declared.purpose.Purpose.TheVariants.{Plan, Answer, Witness, Page, Count, Ranges}
use Rattle.lrp_top.specs.Due.{IsDueOf, IsLengthOrMemory, IsListed, IsPlannedFor, IsRanged, files_of}
use Rattle.lrp_top.specs.Lengths.{TellsLength}
use Rattle.lrp_top.specs.Questions.{IsProperPurpose, IsAsked, IsServed, need_of}
use Rattle.lrp_top.specs.Seen.{IsOverrun, ShelfSeen}

-- ---- what is due

abbrev IsDueFor : QuestionFiles → Purpose → ShelfSeen → Outcome → Type 0
IsDueFor files purpose seen outcome = IsAsked files (need_of purpose) seen (IsServed files.planning purpose) outcome

-- what is due for the question is due for its task
due_of_asked : (files : QuestionFiles) (purpose : Purpose) (seen : ShelfSeen) (outcome : Outcome) → HasCivil files.civil purpose → IsDueFor files purpose seen outcome → IsDueOf (asked_task (asked_files files) purpose) seen outcome
due_of_asked files Plan seen outcome own h = h
due_of_asked files (Answer cap canon name) seen outcome own h = h
due_of_asked files (Witness cap dates) seen outcome own h = h
due_of_asked files (Page p) seen outcome own h =
    subst (λ civil. IsPlannedFor (asked_files files) None seen (IsListed files.planning civil p.from p.to p.limit (after_text p.after) p.json p.cap) outcome) own h
due_of_asked files (Count k) seen outcome own h = h
due_of_asked files (Ranges r) seen outcome own h =
    subst (λ civil. IsPlannedFor (asked_files files) (Some needs.Ranges) seen (IsRanged files.planning civil r.from r.to r.limit r.json r.cap) outcome) own h

-- its window has ends, and its answers' relation a name, where what its task says is in range
asked_proper : (files : QuestionFiles) (purpose : Purpose) → HasCivil files.civil purpose → IsInRange (asked_task (asked_files files) purpose) → IsProperPurpose purpose
asked_proper files Plan own h = h
asked_proper files (Answer cap canon name) own h = h
asked_proper files (Witness cap dates) own h = h
asked_proper files (Page p) own h = subst (λ civil. IsEnd civil p.from × IsEnd civil p.to) (sym own) h
asked_proper files (Count k) own h = subst (λ civil. IsEnd civil k.from × IsEnd civil k.to) (sym own) h
asked_proper files (Ranges r) own h = subst (λ civil. IsEnd civil r.from × IsEnd civil r.to) (sym own) h

-- a question has files
has_files : (files : QuestionFiles) (purpose : Purpose) → files_of (asked_task (asked_files files) purpose) ≡ [] → ⊥
has_files files Plan none = cc
has_files files (Answer cap canon name) none = cc
has_files files (Witness cap dates) none = cc
has_files files (Page p) none = cc
has_files files (Count k) none = cc
has_files files (Ranges r) none = cc

-- ---- lengths

-- what tells of any file's length tells of those of these names
pub lengths_told : (seen : ShelfSeen) (outcome : Outcome) (names : List Identifier) → TellsLength seen outcome → AllByRecursion (λ name. IsOverrun seen name → IsLengthOrMemory outcome) names
lengths_told seen outcome [] h = tt
lengths_told seen outcome (name ∷ names) h = (h name, lengths_told seen outcome names h)

-- ---- starts

-- the files of the question are those of its task
starts_asked : (files : QuestionFiles) (purpose : Purpose) (old new : List Start) → StartsOnly old new (files.database.now ∷ files.query.now ∷ []) → StartsOnly old new (files_of (asked_task (asked_files files) purpose))
starts_asked files Plan old new h = h
starts_asked files (Answer cap canon name) old new h = h
starts_asked files (Witness cap dates) old new h = h
starts_asked files (Page p) old new h = h
starts_asked files (Count k) old new h = h
starts_asked files (Ranges r) old new h = h

-- ---- a command that asks a question

module _ (command : Command) (asked : Asked) (is : command ≡ Question asked) where
  pub proper_of_command : HasCivilOfFiles command → IsInRange (task_of command) → IsProperPurpose asked.purpose
  proper_of_command own range = asked_proper asked.files asked.purpose (subst HasCivilOfFiles is own) (subst (λ k. IsInRange (task_of k)) is range)

  pub due_of_command : (seen : ShelfSeen) (outcome : Outcome) → HasCivilOfFiles command → IsDueFor asked.files asked.purpose seen outcome → IsDueOf (task_of command) seen outcome
  due_of_command seen outcome own h =
      subst (λ k. IsDueOf (task_of k) seen outcome) (sym is) (due_of_asked asked.files asked.purpose seen outcome (subst HasCivilOfFiles is own) h)

  pub command_has_files : files_of (task_of command) ≡ [] → ⊥
  command_has_files none = has_files asked.files asked.purpose (subst (λ k. files_of (task_of k) ≡ []) is none)

  pub starts_of_command : (old new : List Start) → StartsOnly old new (asked.files.database.now ∷ asked.files.query.now ∷ []) → StartsOnly old new (files_of (task_of command))
  starts_of_command old new h = subst (λ k. StartsOnly old new (files_of (task_of k))) (sym is) (starts_asked asked.files asked.purpose old new h)
