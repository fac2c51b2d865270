-- A file says one thing, its expanded query; what refuses it is what refuses the text or the expansion.
use Rattle.std.proofs.Common.{◌≡◌, ◌∙◌, [], sym, ap, subst}
use Rattle.std.proofs.lemmas.Result.{err_from_is_err_and}
use Rattle.lrp_model.specs.RawQueries.{RawFileView, raw_file_of, raw_question_of}
use Rattle.lrp_top.specs.Questions.{IsMemory, IsUnreadIn}
use Rattle.lrp_top.specs.declared.language.QueryLanguage.TheVariants.{Wide}
use Rattle.lrp_top.proofs.WideLemmas.{unread_file, file_refused, unread_every_file, refused_memory, lawful_file}
use Rattle.lrp_wide.specs.Inlining.{expanded_file}
use Rattle.lrp_wide.specs.Limits.{IsSmallFile}
use Rattle.lrp_wide.specs.WideSorting.{own_faults}
use Rattle.std.specs.Prelude.{false}
use Rattle.lrp_top.proofs.reading.wide_query.Goals as goal

pub expand_file-requires : goal.expand_file-requires
expand_file-requires c = c.files_can_be_expanded.ensures c.args.bytes.now (raw_file_of c.in_ok-file.file) c.in_ok-file.ensures.file

pub returns-in_err-file-clause-refused : goal.returns-in_err-file-clause-refused
returns-in_err-file-clause-refused c =
    let p = err_from_is_err_and c.from_residual.result c.from_residual.ensures.1 in
    rw (p.1, p.2) (unread_file c.args.database.now c.args.bytes.now c.in_err-file.field-0.0 c.in_err-file.ensures.refused)

pub returns-in_err-file-clause-every : goal.returns-in_err-file-clause-every
returns-in_err-file-clause-every c =
    let p = err_from_is_err_and c.from_residual.result c.from_residual.ensures.1 in
    λ raw said. rw (p.1, p.2) (unread_every_file said.file c.in_err-file.field-0.0 (c.in_err-file.ensures.every_file said.file said.is))

pub returns-in-Ok-clause-said : goal.returns-in-Ok-clause-said
returns-in-Ok-clause-said c = record {
  file = raw_file_of c.in_ok-file.file;
  is = c.in_ok-file.ensures.file;
  small = c.in-Ok.ensures.small;
  sorted = c.in-Ok.ensures.sorted;
  written = c.in-Ok.ensures.query;
}

pub returns-in-Ok-clause-lawful : goal.returns-in-Ok-clause-lawful
returns-in-Ok-clause-lawful c =
    λ sorted. lawful_file c.expanded_files_are_lawful.ensures c.args.database.now c.args.bytes.now (raw_file_of c.in_ok-file.file) (raw_question_of c.in-Ok.raw) c.in_ok-file.ensures.file c.relations.ensures.kept c.in-Ok.ensures.small c.in-Ok.ensures.sorted c.in-Ok.ensures.query sorted

pub returns-in-Ok-clause-every : goal.returns-in-Ok-clause-every
returns-in-Ok-clause-every c =
    λ raw said.
    let same : raw_file_of c.in_ok-file.file ≡ said.file = c.in_ok-file.ensures.every_file said.file said.is in
    c.in-Ok.ensures.query ∙ ap (expanded_file c.args.database.now) same ∙ sym said.written

pub returns-in-Err-clause-refused : goal.returns-in-Err-clause-refused
returns-in-Err-clause-refused c =
    subst (IsUnreadIn (Wide false) c.args.database.now c.args.bytes.now) (sym c.refusal.ensures)
    (file_refused c.args.database.now c.args.bytes.now (raw_file_of c.in_ok-file.file) c.in-Err.read c.in_ok-file.ensures.file c.in-Err.ensures.refused)

pub returns-in-Err-clause-every : goal.returns-in-Err-clause-every
returns-in-Err-clause-every c =
    λ raw said.
    let same : raw_file_of c.in_ok-file.file ≡ said.file = c.in_ok-file.ensures.every_file said.file said.is in
    let small : IsSmallFile c.args.database.now (raw_file_of c.in_ok-file.file) = subst (IsSmallFile c.args.database.now) (sym same) said.small in
    let own : own_faults c.args.database.now (raw_file_of c.in_ok-file.file) ≡ [] = subst (λ f. own_faults c.args.database.now f ≡ []) (sym same) said.sorted in
    subst IsMemory (sym c.refusal.ensures) (refused_memory c.in-Err.read (c.in-Err.ensures.every_file small own))
