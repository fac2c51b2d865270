use Rattle.std.proofs.Common.{◌++◌, ap, codes}
use Rattle.std.proofs.lemmas.Result.{err_from_is_err_and}
use Rattle.lrp_model.specs.Printed.{joined_by, bounds_bytes, value_bytes, row_line}
use Rattle.lrp_io.proofs.PieceLemmas.{written_after, written_err, front_after, front_before}
use Rattle.lrp_print.proofs.Lines.{ok_as, front_as}
use Rattle.lrp_print.proofs.relations.RowsNotation.write.Goals as goal

pub returns-in_err-write_bytes-clause-text : goal.returns-in_err-write_bytes-clause-text
returns-in_err-write_bytes-clause-text g c =
    let p = err_from_is_err_and c.from_residual.result c.from_residual.ensures.1 in
    written_err _ _ (row_line c.args.self.now.columns.now c.args.row.now) _ p.0 p.1 (front_before _ _ (codes "  (") (joined_by (codes ", ") value_bytes c.args.row.now.values ++ (codes ")" ++ (bounds_bytes c.args.self.now.columns.now c.args.row.now.bounds ++ (codes ";\n")))) c.in_err-write_bytes.ensures.text)

pub returns-in_err-write_joined-clause-text : goal.returns-in_err-write_joined-clause-text
returns-in_err-write_joined-clause-text g c =
    let p = err_from_is_err_and c.from_residual-in_err-write_joined.result c.from_residual-in_err-write_joined.ensures.1 in
    written_err _ _ (row_line c.args.self.now.columns.now c.args.row.now) _ p.0 p.1 (front_after _ _ _ (codes "  (") (joined_by (codes ", ") value_bytes c.args.row.now.values ++ (codes ")" ++ (bounds_bytes c.args.self.now.columns.now c.args.row.now.bounds ++ (codes ";\n")))) c.in_ok-write_bytes.ensures.text (front_before _ _ (joined_by (codes ", ") value_bytes c.args.row.now.values) (codes ")" ++ (bounds_bytes c.args.self.now.columns.now c.args.row.now.bounds ++ (codes ";\n"))) (front_as _ _ _ _ (ap (joined_by (codes ", ") value_bytes) c.as_slice.ensures) c.in_err-write_joined.ensures.text)))

pub returns-in_err-write_bytes-2-clause-text : goal.returns-in_err-write_bytes-2-clause-text
returns-in_err-write_bytes-2-clause-text g c =
    let p = err_from_is_err_and c.from_residual-in_err-write_bytes-2.result c.from_residual-in_err-write_bytes-2.ensures.1 in
    written_err _ _ (row_line c.args.self.now.columns.now c.args.row.now) _ p.0 p.1 (front_after _ _ _ (codes "  (") (joined_by (codes ", ") value_bytes c.args.row.now.values ++ (codes ")" ++ (bounds_bytes c.args.self.now.columns.now c.args.row.now.bounds ++ (codes ";\n")))) c.in_ok-write_bytes.ensures.text (front_after _ _ _ (joined_by (codes ", ") value_bytes c.args.row.now.values) (codes ")" ++ (bounds_bytes c.args.self.now.columns.now c.args.row.now.bounds ++ (codes ";\n"))) (ok_as _ _ _ _ (ap (joined_by (codes ", ") value_bytes) c.as_slice.ensures) c.in_ok-write_joined.ensures.text) (front_before _ _ (codes ")") (bounds_bytes c.args.self.now.columns.now c.args.row.now.bounds ++ (codes ";\n")) c.in_err-write_bytes-2.ensures.text)))

pub returns-in_err-write_conditions-clause-text : goal.returns-in_err-write_conditions-clause-text
returns-in_err-write_conditions-clause-text g c =
    let p = err_from_is_err_and c.from_residual-in_err-write_conditions.result c.from_residual-in_err-write_conditions.ensures.1 in
    written_err _ _ (row_line c.args.self.now.columns.now c.args.row.now) _ p.0 p.1 (front_after _ _ _ (codes "  (") (joined_by (codes ", ") value_bytes c.args.row.now.values ++ (codes ")" ++ (bounds_bytes c.args.self.now.columns.now c.args.row.now.bounds ++ (codes ";\n")))) c.in_ok-write_bytes.ensures.text (front_after _ _ _ (joined_by (codes ", ") value_bytes c.args.row.now.values) (codes ")" ++ (bounds_bytes c.args.self.now.columns.now c.args.row.now.bounds ++ (codes ";\n"))) (ok_as _ _ _ _ (ap (joined_by (codes ", ") value_bytes) c.as_slice.ensures) c.in_ok-write_joined.ensures.text) (front_after _ _ _ (codes ")") (bounds_bytes c.args.self.now.columns.now c.args.row.now.bounds ++ (codes ";\n")) c.in_ok-write_bytes-2.ensures.text (front_before _ _ (bounds_bytes c.args.self.now.columns.now c.args.row.now.bounds) (codes ";\n") (front_as _ _ _ _ (ap (bounds_bytes c.args.self.now.columns.now) c.as_slice-2.ensures) c.in_err-write_conditions.ensures.text)))))

pub returns-clause-text : goal.returns-clause-text
returns-clause-text g c = written_after _ _ _ (codes "  (") (joined_by (codes ", ") value_bytes c.args.row.now.values ++ (codes ")" ++ (bounds_bytes c.args.self.now.columns.now c.args.row.now.bounds ++ (codes ";\n")))) _ c.in_ok-write_bytes.ensures.text (written_after _ _ _ (joined_by (codes ", ") value_bytes c.args.row.now.values) (codes ")" ++ (bounds_bytes c.args.self.now.columns.now c.args.row.now.bounds ++ (codes ";\n"))) _ (ok_as _ _ _ _ (ap (joined_by (codes ", ") value_bytes) c.as_slice.ensures) c.in_ok-write_joined.ensures.text) (written_after _ _ _ (codes ")") (bounds_bytes c.args.self.now.columns.now c.args.row.now.bounds ++ (codes ";\n")) _ c.in_ok-write_bytes-2.ensures.text (written_after _ _ _ (bounds_bytes c.args.self.now.columns.now c.args.row.now.bounds) (codes ";\n") _ (ok_as _ _ _ _ (ap (bounds_bytes c.args.self.now.columns.now) c.as_slice-2.ensures) c.in_ok-write_conditions.ensures.text) (c.write_bytes-3.ensures.text))))
