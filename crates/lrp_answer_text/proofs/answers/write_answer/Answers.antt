use Rattle.std.proofs.Common.{◌++◌, ap, codes}
use Rattle.std.proofs.lemmas.Result.{err_from_is_err_and}
use Rattle.std.specs.List.{flat_map}
use Rattle.lrp_model.specs.Printed.{joined_by, column_bytes, row_line}
use Rattle.lrp_io.proofs.PieceLemmas.{written_after, written_err, front_after, front_before}
use Rattle.lrp_print.proofs.Lines.{ok_as, front_as, written_as}
use Rattle.lrp_answer_text.specs.AnswerText.{named_answer_text, answer_rows}
use Rattle.lrp_answer_text.proofs.Rows.{opening, text_is}
use Rattle.lrp_answer_text.proofs.answers.write_answer.Goals as goal

pub returns-in_err-write_opening-clause-text : goal.returns-in_err-write_opening-clause-text
returns-in_err-write_opening-clause-text g c =
    let columns = c.args.answer.now.head.columns in
    let heads = joined_by (codes ", ") column_bytes columns in
    let rows = flat_map (row_line columns) (answer_rows columns c.args.answer.now.domain c.args.answer.now.store) in
    let p = err_from_is_err_and c.from_residual.result c.from_residual.ensures.1 in
    written_err _ _ (named_answer_text c.args.name.now c.args.answer.now) _ p.0 p.1
    (front_as _ _ _ _ (text_is c.args.name.now c.args.answer.now c.len.result c.len.ensures c.if-len-eq0.false)
    (front_before _ _ (opening c.args.name.now) (heads ++ (codes ") {\n" ++ (rows ++ codes "}\n"))) c.in_err-write_opening.ensures.text))

pub returns-in_err-write_columns-clause-text : goal.returns-in_err-write_columns-clause-text
returns-in_err-write_columns-clause-text g c =
    let columns = c.args.answer.now.head.columns in
    let heads = joined_by (codes ", ") column_bytes columns in
    let rows = flat_map (row_line columns) (answer_rows columns c.args.answer.now.domain c.args.answer.now.store) in
    let p = err_from_is_err_and c.from_residual-in_err-write_columns.result c.from_residual-in_err-write_columns.ensures.1 in
    written_err _ _ (named_answer_text c.args.name.now c.args.answer.now) _ p.0 p.1
    (front_as _ _ _ _ (text_is c.args.name.now c.args.answer.now c.len.result c.len.ensures c.if-len-eq0.false)
    (front_after _ _ _ (opening c.args.name.now) (heads ++ (codes ") {\n" ++ (rows ++ codes "}\n"))) c.in_ok-write_opening.ensures.text
    (front_before _ _ heads (codes ") {\n" ++ (rows ++ codes "}\n")) (front_as _ _ _ _ (ap (joined_by (codes ", ") column_bytes) c.as_slice.ensures) c.in_err-write_columns.ensures.text))))

pub returns-in_err-write_bytes-clause-text : goal.returns-in_err-write_bytes-clause-text
returns-in_err-write_bytes-clause-text g c =
    let columns = c.args.answer.now.head.columns in
    let heads = joined_by (codes ", ") column_bytes columns in
    let rows = flat_map (row_line columns) (answer_rows columns c.args.answer.now.domain c.args.answer.now.store) in
    let p = err_from_is_err_and c.from_residual-in_err-write_bytes.result c.from_residual-in_err-write_bytes.ensures.1 in
    written_err _ _ (named_answer_text c.args.name.now c.args.answer.now) _ p.0 p.1
    (front_as _ _ _ _ (text_is c.args.name.now c.args.answer.now c.len.result c.len.ensures c.if-len-eq0.false)
    (front_after _ _ _ (opening c.args.name.now) (heads ++ (codes ") {\n" ++ (rows ++ codes "}\n"))) c.in_ok-write_opening.ensures.text
    (front_after _ _ _ heads (codes ") {\n" ++ (rows ++ codes "}\n")) (ok_as _ _ _ _ (ap (joined_by (codes ", ") column_bytes) c.as_slice.ensures) c.in_ok-write_columns.ensures.text)
    (front_before _ _ (codes ") {\n") (rows ++ codes "}\n") c.in_err-write_bytes.ensures.text))))

pub returns-in_err-write_cells-clause-text : goal.returns-in_err-write_cells-clause-text
returns-in_err-write_cells-clause-text g c =
    let columns = c.args.answer.now.head.columns in
    let heads = joined_by (codes ", ") column_bytes columns in
    let rows = flat_map (row_line columns) (answer_rows columns c.args.answer.now.domain c.args.answer.now.store) in
    let p = err_from_is_err_and c.from_residual-in_err-write_cells.result c.from_residual-in_err-write_cells.ensures.1 in
    written_err _ _ (named_answer_text c.args.name.now c.args.answer.now) _ p.0 p.1
    (front_as _ _ _ _ (text_is c.args.name.now c.args.answer.now c.len.result c.len.ensures c.if-len-eq0.false)
    (front_after _ _ _ (opening c.args.name.now) (heads ++ (codes ") {\n" ++ (rows ++ codes "}\n"))) c.in_ok-write_opening.ensures.text
    (front_after _ _ _ heads (codes ") {\n" ++ (rows ++ codes "}\n")) (ok_as _ _ _ _ (ap (joined_by (codes ", ") column_bytes) c.as_slice.ensures) c.in_ok-write_columns.ensures.text)
    (front_after _ _ _ (codes ") {\n") (rows ++ codes "}\n") c.in_ok-write_bytes.ensures.text
    (front_before _ _ rows (codes "}\n") c.in_err-write_cells.ensures.text)))))

pub returns-clause-text : goal.returns-clause-text
returns-clause-text g c =
    let columns = c.args.answer.now.head.columns in
    let heads = joined_by (codes ", ") column_bytes columns in
    let rows = flat_map (row_line columns) (answer_rows columns c.args.answer.now.domain c.args.answer.now.store) in
    written_as _ _ _ _ _ (text_is c.args.name.now c.args.answer.now c.len.result c.len.ensures c.if-len-eq0.false)
    (written_after _ _ _ (opening c.args.name.now) (heads ++ (codes ") {\n" ++ (rows ++ codes "}\n"))) _ c.in_ok-write_opening.ensures.text
    (written_after _ _ _ heads (codes ") {\n" ++ (rows ++ codes "}\n")) _ (ok_as _ _ _ _ (ap (joined_by (codes ", ") column_bytes) c.as_slice.ensures) c.in_ok-write_columns.ensures.text)
    (written_after _ _ _ (codes ") {\n") (rows ++ codes "}\n") _ c.in_ok-write_bytes.ensures.text
    (written_after _ _ _ rows (codes "}\n") _ c.in_ok-write_cells.ensures.text c.write_bytes-3.ensures.text))))
