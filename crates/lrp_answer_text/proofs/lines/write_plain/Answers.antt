use Rattle.std.proofs.Common.{false, codes}
use Rattle.std.proofs.lemmas.Result.{err_from_is_err_and}
use Rattle.lrp_model.specs.Tuples.{in_head_order, texts_at}
use Rattle.lrp_io.proofs.PieceLemmas.{written_after, written_err, front_before}
use Rattle.lrp_print.proofs.Lines.{written_as, front_as}
use Rattle.lrp_answer_text.specs.Lines.{tuple_line, values_after}
use Rattle.lrp_answer_text.proofs.LineLaws.{plain_line_is}
use Rattle.lrp_answer_text.proofs.lines.write_plain.Goals as goal

pub returns-in_err-write_values-clause-text : goal.returns-in_err-write_values-clause-text
returns-in_err-write_values-clause-text g c =
    let times = g.T.Notation.bytes c.args.spelling.now.times.now in
    let domain = c.args.values.domain.now in
    let values = c.args.values in
    let tuple = in_head_order values.columns.now values.times.now (texts_at domain values.numbers.now) in
    let p = err_from_is_err_and c.from_residual.result c.from_residual.ensures.1 in
    written_err _ _ (tuple_line times false tuple) _ p.0 p.1
    (front_as _ _ _ _ (plain_line_is times domain values.columns.now values.times.now values.numbers.now c.is_empty.result c.is_empty.ensures c.if-is_empty.false c.requires.count c.requires.all)
    (front_before _ _ (values_after times (codes "") (codes ", ") tuple) (codes "\n") c.in_err-write_values.ensures.text))

pub returns-clause-text : goal.returns-clause-text
returns-clause-text g c =
    let times = g.T.Notation.bytes c.args.spelling.now.times.now in
    let domain = c.args.values.domain.now in
    let values = c.args.values in
    let tuple = in_head_order values.columns.now values.times.now (texts_at domain values.numbers.now) in
    written_as _ _ _ _ _ (plain_line_is times domain values.columns.now values.times.now values.numbers.now c.is_empty.result c.is_empty.ensures c.if-is_empty.false c.requires.count c.requires.all)
    (written_after _ _ _ (values_after times (codes "") (codes ", ") tuple) (codes "\n") _ c.in_ok-write_values.ensures.text c.write_bytes-2.ensures.text)
