-- The lines, and then the line after them.
use Rattle.std.proofs.Common.{map}
use Rattle.std.specs.Prelude.{flat_map}
use Rattle.std.proofs.lemmas.Result.{err_from_is_err_and}
use Rattle.lrp_io.proofs.PieceLemmas.{front_before, written_after, written_err}
use Rattle.lrp_print.proofs.Lines.{front_as, ok_as}
use Rattle.lrp_answer_text.specs.Lines.{is_json}
use Rattle.lrp_model.specs.Pages.{last_of}
use Rattle.lrp_model.specs.PrintedPages.{end_line, token_after}
use Rattle.lrp_outputs.specs.Spots.{answer_tuple}
use Rattle.lrp_outputs.specs.Outputs.{page_text}
use Rattle.lrp_outputs.specs.PageLines.{line_as}
use Rattle.lrp_outputs.proofs.PageLemmas.{lines_mapped}
use Rattle.lrp_outputs.proofs.lines.write_page.Goals as goal

pub returns-in_err-write_lines-clause-text : goal.returns-in_err-write_lines-clause-text
returns-in_err-write_lines-clause-text g c =
    let page = c.args.page.now in
    let tuples = map (answer_tuple page.answer) page.spots in
    let p = err_from_is_err_and c.from_residual.result c.from_residual.ensures.1 in
    written_err _ _ (page_text page) _ p.0 p.1
    (front_before _ _ (flat_map (line_as page.civil (is_json page.form)) tuples) (end_line (is_json page.form) (token_after page.files page.more (last_of tuples)))
    (front_as _ _ _ _ (lines_mapped page.civil (is_json page.form) (answer_tuple page.answer) page.spots) c.in_err-write_lines.ensures.text))

pub returns-clause-text : goal.returns-clause-text
returns-clause-text g c =
    let page = c.args.page.now in
    let tuples = map (answer_tuple page.answer) page.spots in
    written_after _ _ _ (flat_map (line_as page.civil (is_json page.form)) tuples) (end_line (is_json page.form) (token_after page.files page.more (last_of tuples))) _
    (ok_as _ _ _ _ (lines_mapped page.civil (is_json page.form) (answer_tuple page.answer) page.spots) c.in_ok-write_lines.ensures.text) c.write_end.ensures.text
