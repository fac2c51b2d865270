-- The lines of rows, those of the query, and the last line.
use Rattle.std.proofs.Common.{◌++◌, ◌∙◌, ap, codes}
use Rattle.std.specs.List.{flat_map}
use Rattle.std.proofs.lemmas.Result.{err_from_is_err_and}
use Rattle.lrp_io.proofs.PieceLemmas.{written_after, written_err, front_after, front_before}
use Rattle.lrp_print.proofs.Lines.{front_as, ok_as}
use Rattle.lrp_lint.specs.Reports.{query_finding_line, query_lines, report_text, row_finding_line, row_lines}
use Rattle.lrp_lint.proofs.Lines.{all_spelled, query_lines_as, row_lines_as}
use Rattle.lrp_lint.proofs.report.LintReportText.write_to.Goals as goal

pub write_each-requires : goal.write_each-requires
write_each-requires g c = all_spelled c.as_slice.result.now

pub write_each-requires-2 : goal.write_each-requires-2
write_each-requires-2 g c = all_spelled c.as_slice-2.result.now

pub returns-in_err-write_each-clause-text : goal.returns-in_err-write_each-clause-text
returns-in_err-write_each-clause-text g c =
    let report = c.args.self.now in
    let p = err_from_is_err_and c.from_residual.result c.from_residual.ensures.1 in
    written_err _ _ (report_text report) _ p.0 p.1
    (front_before _ _ (row_lines report.database report.findings.rows) (query_lines report.findings.query ++ codes "end\n")
    (front_as _ _ _ _ (row_lines_as c.as_slice-relations.result.now report.database c.as_slice.result.now report.findings.rows c.as_slice-relations.ensures.same c.as_slice.ensures) c.in_err-write_each.ensures.text))

pub returns-in_err-write_each-2-clause-text : goal.returns-in_err-write_each-2-clause-text
returns-in_err-write_each-2-clause-text g c =
    let report = c.args.self.now in
    let p = err_from_is_err_and c.from_residual-in_err-write_each-2.result c.from_residual-in_err-write_each-2.ensures.1 in
    written_err _ _ (report_text report) _ p.0 p.1
    (front_after _ _ _ (row_lines report.database report.findings.rows) (query_lines report.findings.query ++ codes "end\n")
    (ok_as _ _ _ _ (row_lines_as c.as_slice-relations.result.now report.database c.as_slice.result.now report.findings.rows c.as_slice-relations.ensures.same c.as_slice.ensures) c.in_ok-write_each.ensures.text)
    (front_before _ _ (query_lines report.findings.query) (codes "end\n") (front_as _ _ _ _ (query_lines_as c.as_slice-2.result.now report.findings.query c.as_slice-2.ensures) c.in_err-write_each-2.ensures.text)))

pub returns-clause-text : goal.returns-clause-text
returns-clause-text g c =
    let report = c.args.self.now in
    written_after _ _ _ (row_lines report.database report.findings.rows) (query_lines report.findings.query ++ codes "end\n") _
    (ok_as _ _ _ _ (row_lines_as c.as_slice-relations.result.now report.database c.as_slice.result.now report.findings.rows c.as_slice-relations.ensures.same c.as_slice.ensures) c.in_ok-write_each.ensures.text)
    (written_after _ _ _ (query_lines report.findings.query) (codes "end\n") _ (ok_as _ _ _ _ (query_lines_as c.as_slice-2.result.now report.findings.query c.as_slice-2.ensures) c.in_ok-write_each-2.ensures.text) c.write_bytes.ensures.text)
