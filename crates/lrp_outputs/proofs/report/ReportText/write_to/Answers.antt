-- The four lines, in three pieces.
use Rattle.std.proofs.Common.{◌++◌}
use Rattle.std.proofs.lemmas.Result.{err_from_is_err_and}
use Rattle.lrp_io.proofs.PieceLemmas.{front_before, front_after, written_after, written_err}
use Rattle.lrp_outputs.specs.Outputs.{least_of, sample_text}
use Rattle.lrp_outputs.specs.SampleLines.{counts_text, window_line}
use Rattle.lrp_outputs.specs.First.{first_line}
use Rattle.lrp_outputs.proofs.report.ReportText.write_to.Goals as goal

pub returns-in_err-write_counts-clause-text : goal.returns-in_err-write_counts-clause-text
returns-in_err-write_counts-clause-text g c =
    let report = c.args.self.now in
    let p = err_from_is_err_and c.from_residual.result c.from_residual.ensures.1 in
    written_err _ _ (sample_text report) _ p.0 p.1 (front_before _ _ (counts_text report.rows report.cells) (first_line (least_of report.first) ++ window_line report.window) c.in_err-write_counts.ensures.text)

pub returns-in_err-write_first-clause-text : goal.returns-in_err-write_first-clause-text
returns-in_err-write_first-clause-text g c =
    let report = c.args.self.now in
    let line = first_line (least_of report.first) in
    let p = err_from_is_err_and c.from_residual-in_err-write_first.result c.from_residual-in_err-write_first.ensures.1 in
    written_err _ _ (sample_text report) _ p.0 p.1
    (front_after _ _ _ (counts_text report.rows report.cells) (line ++ window_line report.window) c.in_ok-write_counts.ensures.text (front_before _ _ line (window_line report.window) c.in_err-write_first.ensures.text))

pub returns-clause-text : goal.returns-clause-text
returns-clause-text g c =
    let report = c.args.self.now in
    let line = first_line (least_of report.first) in
    written_after _ _ _ (counts_text report.rows report.cells) (line ++ window_line report.window) _ c.in_ok-write_counts.ensures.text
    (written_after _ _ _ line (window_line report.window) _ c.in_ok-write_first.ensures.text c.write_window.ensures.text)
