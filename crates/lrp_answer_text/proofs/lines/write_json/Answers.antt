use Rattle.std.proofs.Common.{◌++◌, true, codes}
use Rattle.std.proofs.lemmas.Result.{err_from_is_err_and}
use Rattle.lrp_model.specs.Tuples.{in_head_order, texts_at}
use Rattle.lrp_io.proofs.PieceLemmas.{written_after, written_err, front_before, front_after}
use Rattle.lrp_print.proofs.Lines.{written_as, front_as}
use Rattle.lrp_answer_text.specs.Lines.{tuple_line, values_after}
use Rattle.lrp_answer_text.proofs.LineLaws.{json_line_is}
use Rattle.lrp_answer_text.proofs.lines.write_json.Goals as goal

pub returns-in_err-write_values-clause-text : goal.returns-in_err-write_values-clause-text
returns-in_err-write_values-clause-text g c =
    let times = g.T.Notation.bytes c.args.spelling.now.times.now in
    let values = c.args.values in
    let tuple = in_head_order values.columns.now values.times.now (texts_at c.args.values.domain.now values.numbers.now) in
    let p = err_from_is_err_and c.from_residual-in_err-write_values.result c.from_residual-in_err-write_values.ensures.1 in
    written_err _ _ (tuple_line times true tuple) _ p.0 p.1
    (front_as _ _ _ _ (json_line_is times tuple)
    (front_after _ _ _ (codes "[") (values_after times (codes "") (codes ",") tuple ++ codes "]\n") c.in_ok-write_bytes.ensures.text
    (front_before _ _ (values_after times (codes "") (codes ",") tuple) (codes "]\n") c.in_err-write_values.ensures.text)))

pub returns-clause-text : goal.returns-clause-text
returns-clause-text g c =
    let times = g.T.Notation.bytes c.args.spelling.now.times.now in
    let values = c.args.values in
    let tuple = in_head_order values.columns.now values.times.now (texts_at c.args.values.domain.now values.numbers.now) in
    written_as _ _ _ _ _ (json_line_is times tuple)
    (written_after _ _ _ (codes "[") (values_after times (codes "") (codes ",") tuple ++ codes "]\n") _ c.in_ok-write_bytes.ensures.text
    (written_after _ _ _ (values_after times (codes "") (codes ",") tuple) (codes "]\n") _ c.in_ok-write_values.ensures.text c.write_bytes-2.ensures.text))
