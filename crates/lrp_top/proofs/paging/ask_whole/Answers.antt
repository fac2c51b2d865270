-- What is due is told, and what was kept is kept.
use Rattle.std.proofs.Common.{ap, subst, sym}
use Rattle.std.specs.Prelude.{IfSome}
use Rattle.lrp_outputs.specs.Outputs.{told}
use Rattle.lrp_top.specs.Keeping.{IsAnswerKept, IsFileRead, civil_asked}
use Rattle.lrp_top.specs.declared.files.DatabaseFile.{DatabaseFile}
use Rattle.lrp_top.proofs.paging.ask_whole.Goals as goal

pub returns-clause-told : goal.returns-clause-told
returns-clause-told g c = record { outcome = told c.answer_over-outcome.result.outcome; is = c.answer_over-outcome.ensures.due; ends = c.tell-status.ensures }

pub returns-clause-kept : goal.returns-clause-kept
returns-clause-kept g c =
    let kept = c.requires.kept in
    let same = c.answer_over-outcome.ensures.file in
    record {
      civil_is = kept.civil_is;
      bytes_are = ap (λ (d : DatabaseFile). d.bytes) same;
      read = subst (λ (d : DatabaseFile). IsFileRead (civil_asked c.args.asked.now.files) d) (sym same) kept.read;
      last = subst (λ (d : DatabaseFile). IfSome c.args.kept.last (IsAnswerKept d)) (sym same) kept.last;
    }
