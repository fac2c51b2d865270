-- What is due for the question is due for the command that asks it.
use Rattle.lrp_outputs.specs.Outputs.{told}
use Rattle.lrp_top.specs.Due.{files_of}
use Rattle.lrp_words.specs.Commands.{task_of}
use Rattle.lrp_top.proofs.AskingLemmas.{command_has_files, due_of_command, lengths_told, proper_of_command, starts_of_command}
use Rattle.lrp_io.proofs.StartsLemmas.{none_started}
use Rattle.lrp_top.proofs.deciding.carry_out.Goals as goal

pub answer_to-requires : goal.answer_to-requires
answer_to-requires g c = record { proper = proper_of_command c.args.command c.in-Question.asked c.in-Question.is c.requires.civil c.requires.range }

pub returns-in-Question-clause-due : goal.returns-in-Question-clause-due
returns-in-Question-clause-due g c =
    due_of_command c.args.command c.in-Question.asked c.in-Question.is _ (told c.answer_to.result) c.requires.civil c.answer_to.ensures.due

pub returns-in-Question-clause-long : goal.returns-in-Question-clause-long
returns-in-Question-clause-long g c = lengths_told _ (told c.answer_to.result) (files_of (task_of c.args.command)) c.answer_to.ensures.long

pub returns-in-Question-clause-unread : goal.returns-in-Question-clause-unread
returns-in-Question-clause-unread g c = λ none. absurd (command_has_files c.args.command c.in-Question.asked c.in-Question.is none)

pub returns-in-Question-clause-starts : goal.returns-in-Question-clause-starts
returns-in-Question-clause-starts g c = starts_of_command c.args.command c.in-Question.asked c.in-Question.is _ _ c.answer_to.ensures.starts

pub returns-in-Lint-clause-long : goal.returns-in-Lint-clause-long
returns-in-Lint-clause-long g c = lengths_told _ (told c.lint.result) (files_of (task_of c.args.command)) c.lint.ensures.long

pub returns-in-Sample-clause-starts : goal.returns-in-Sample-clause-starts
returns-in-Sample-clause-starts g c = none_started _ _
