use Rattle.std.proofs.Common.{◌++◌, ◌∙◌, ap₂, codes}
use Rattle.std.proofs.lemmas.Result.{err_from_is_err_and}
use Rattle.lrp_model.specs.Printed.{joined_by, bounds_bytes, value_bytes}
use Rattle.lrp_io.proofs.PieceLemmas.{written_after, written_err, front_after, front_before}
use Rattle.lrp_print.proofs.Lines.{ok_as, front_as}
use Rattle.lrp_answer_text.specs.AnswerText.{cell_values, closed_bounds}
use Rattle.lrp_answer_text.proofs.answers.write_row.Goals as goal

pub returns-in_err-write_bytes-clause-text : goal.returns-in_err-write_bytes-clause-text
returns-in_err-write_bytes-clause-text g c =
    let columns = c.args.answer.now.head.columns in
    let values = joined_by (codes ", ") value_bytes (cell_values columns c.args.answer.now.domain c.args.answer.now.store c.args.cell.now) in
    let conditions = bounds_bytes columns (closed_bounds c.args.zone.now) in
    let p = err_from_is_err_and c.from_residual.result c.from_residual.ensures.1 in
    written_err _ _ (codes "  (" ++ (values ++ (codes ")" ++ (conditions ++ codes ";\n")))) _ p.0 p.1
    (front_before _ _ (codes "  (") (values ++ (codes ")" ++ (conditions ++ codes ";\n"))) c.in_err-write_bytes.ensures.text)

pub returns-in_err-write_cell_values-clause-text : goal.returns-in_err-write_cell_values-clause-text
returns-in_err-write_cell_values-clause-text g c =
    let columns = c.args.answer.now.head.columns in
    let values = joined_by (codes ", ") value_bytes (cell_values columns c.args.answer.now.domain c.args.answer.now.store c.args.cell.now) in
    let conditions = bounds_bytes columns (closed_bounds c.args.zone.now) in
    let p = err_from_is_err_and c.from_residual-in_err-write_cell_values.result c.from_residual-in_err-write_cell_values.ensures.1 in
    written_err _ _ (codes "  (" ++ (values ++ (codes ")" ++ (conditions ++ codes ";\n")))) _ p.0 p.1
    (front_after _ _ _ (codes "  (") (values ++ (codes ")" ++ (conditions ++ codes ";\n"))) c.in_ok-write_bytes.ensures.text
    (front_before _ _ values (codes ")" ++ (conditions ++ codes ";\n")) c.in_err-write_cell_values.ensures.text))

pub returns-in_err-write_bytes-2-clause-text : goal.returns-in_err-write_bytes-2-clause-text
returns-in_err-write_bytes-2-clause-text g c =
    let columns = c.args.answer.now.head.columns in
    let values = joined_by (codes ", ") value_bytes (cell_values columns c.args.answer.now.domain c.args.answer.now.store c.args.cell.now) in
    let conditions = bounds_bytes columns (closed_bounds c.args.zone.now) in
    let p = err_from_is_err_and c.from_residual-in_err-write_bytes-2.result c.from_residual-in_err-write_bytes-2.ensures.1 in
    written_err _ _ (codes "  (" ++ (values ++ (codes ")" ++ (conditions ++ codes ";\n")))) _ p.0 p.1
    (front_after _ _ _ (codes "  (") (values ++ (codes ")" ++ (conditions ++ codes ";\n"))) c.in_ok-write_bytes.ensures.text
    (front_after _ _ _ values (codes ")" ++ (conditions ++ codes ";\n")) c.in_ok-write_cell_values.ensures.text
    (front_before _ _ (codes ")") (conditions ++ codes ";\n") c.in_err-write_bytes-2.ensures.text)))

pub returns-in_err-write_conditions-clause-text : goal.returns-in_err-write_conditions-clause-text
returns-in_err-write_conditions-clause-text g c =
    let columns = c.args.answer.now.head.columns in
    let values = joined_by (codes ", ") value_bytes (cell_values columns c.args.answer.now.domain c.args.answer.now.store c.args.cell.now) in
    let conditions = bounds_bytes columns (closed_bounds c.args.zone.now) in
    let p = err_from_is_err_and c.from_residual-in_err-write_conditions.result c.from_residual-in_err-write_conditions.ensures.1 in
    written_err _ _ (codes "  (" ++ (values ++ (codes ")" ++ (conditions ++ codes ";\n")))) _ p.0 p.1
    (front_after _ _ _ (codes "  (") (values ++ (codes ")" ++ (conditions ++ codes ";\n"))) c.in_ok-write_bytes.ensures.text
    (front_after _ _ _ values (codes ")" ++ (conditions ++ codes ";\n")) c.in_ok-write_cell_values.ensures.text
    (front_after _ _ _ (codes ")") (conditions ++ codes ";\n") c.in_ok-write_bytes-2.ensures.text
    (front_before _ _ conditions (codes ";\n") (front_as _ _ _ _ (ap₂ bounds_bytes c.as_slice.ensures (c.as_slice-2.ensures ∙ c.closed_bounds-bounds.ensures.bounds)) c.in_err-write_conditions.ensures.text)))))

pub returns-clause-text : goal.returns-clause-text
returns-clause-text g c =
    let columns = c.args.answer.now.head.columns in
    let values = joined_by (codes ", ") value_bytes (cell_values columns c.args.answer.now.domain c.args.answer.now.store c.args.cell.now) in
    let conditions = bounds_bytes columns (closed_bounds c.args.zone.now) in
    written_after _ _ _ (codes "  (") (values ++ (codes ")" ++ (conditions ++ codes ";\n"))) _ c.in_ok-write_bytes.ensures.text
    (written_after _ _ _ values (codes ")" ++ (conditions ++ codes ";\n")) _ c.in_ok-write_cell_values.ensures.text
    (written_after _ _ _ (codes ")") (conditions ++ codes ";\n") _ c.in_ok-write_bytes-2.ensures.text
    (written_after _ _ _ conditions (codes ";\n") _ (ok_as _ _ _ _ (ap₂ bounds_bytes c.as_slice.ensures (c.as_slice-2.ensures ∙ c.closed_bounds-bounds.ensures.bounds)) c.in_ok-write_conditions.ensures.text)
    c.write_bytes-3.ensures.text)))
