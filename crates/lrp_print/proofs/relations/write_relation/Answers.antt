use Rattle.std.proofs.Common.{◌++◌, ap, codes, sym}
use Rattle.std.proofs.lemmas.Result.{err_from_is_err_and}
use Rattle.lrp_model.specs.Printed.{joined_by, column_bytes, row_line, relation_bytes}
use Rattle.lrp_io.proofs.PieceLemmas.{written_after, written_err, front_after, front_before}
use Rattle.lrp_print.proofs.Lines.{ok_as, front_as}
use Rattle.lrp_print.proofs.relations.write_relation.Goals as goal
use Rattle.std.proofs.Common.{subst}
use Rattle.std.specs.List.{flat_map, AllByRecursion}
use Rattle.lrp_model.specs.Kept.{IsWritable}
use Rattle.lrp_print.proofs.RowLemmas.{rows_as, kept_writable}
use Rattle.lrp_print.proofs.Reading.{one_reads_back}

pub write_each-requires : goal.write_each-requires
write_each-requires g c = subst (AllByRecursion IsWritable) (sym c.as_slice.ensures) (kept_writable c.args.relation.now c.requires)

pub returns-in_err-write_bytes-clause-text : goal.returns-in_err-write_bytes-clause-text
returns-in_err-write_bytes-clause-text g c =
    let p = err_from_is_err_and c.from_residual.result c.from_residual.ensures.1 in
    written_err _ _ (relation_bytes c.args.relation.now) _ p.0 p.1 (front_before _ _ (codes "relation ") (c.args.relation.now.name ++ (codes "(" ++ (joined_by (codes ", ") column_bytes c.args.relation.now.columns ++ (codes ") {\n" ++ (flat_map (row_line c.args.relation.now.columns) c.args.relation.now.rows ++ (codes "}\n")))))) c.in_err-write_bytes.ensures.text)

pub returns-in_err-write_bytes-2-clause-text : goal.returns-in_err-write_bytes-2-clause-text
returns-in_err-write_bytes-2-clause-text g c =
    let p = err_from_is_err_and c.from_residual-in_err-write_bytes-2.result c.from_residual-in_err-write_bytes-2.ensures.1 in
    written_err _ _ (relation_bytes c.args.relation.now) _ p.0 p.1 (front_after _ _ _ (codes "relation ") (c.args.relation.now.name ++ (codes "(" ++ (joined_by (codes ", ") column_bytes c.args.relation.now.columns ++ (codes ") {\n" ++ (flat_map (row_line c.args.relation.now.columns) c.args.relation.now.rows ++ (codes "}\n")))))) c.in_ok-write_bytes.ensures.text (front_before _ _ (c.args.relation.now.name) (codes "(" ++ (joined_by (codes ", ") column_bytes c.args.relation.now.columns ++ (codes ") {\n" ++ (flat_map (row_line c.args.relation.now.columns) c.args.relation.now.rows ++ (codes "}\n"))))) (front_as _ _ _ _ c.as_bytes.ensures c.in_err-write_bytes-2.ensures.text)))

pub returns-in_err-write_bytes-3-clause-text : goal.returns-in_err-write_bytes-3-clause-text
returns-in_err-write_bytes-3-clause-text g c =
    let p = err_from_is_err_and c.from_residual-in_err-write_bytes-3.result c.from_residual-in_err-write_bytes-3.ensures.1 in
    written_err _ _ (relation_bytes c.args.relation.now) _ p.0 p.1 (front_after _ _ _ (codes "relation ") (c.args.relation.now.name ++ (codes "(" ++ (joined_by (codes ", ") column_bytes c.args.relation.now.columns ++ (codes ") {\n" ++ (flat_map (row_line c.args.relation.now.columns) c.args.relation.now.rows ++ (codes "}\n")))))) c.in_ok-write_bytes.ensures.text (front_after _ _ _ (c.args.relation.now.name) (codes "(" ++ (joined_by (codes ", ") column_bytes c.args.relation.now.columns ++ (codes ") {\n" ++ (flat_map (row_line c.args.relation.now.columns) c.args.relation.now.rows ++ (codes "}\n"))))) (ok_as _ _ _ _ c.as_bytes.ensures c.in_ok-write_bytes-2.ensures.text) (front_before _ _ (codes "(") (joined_by (codes ", ") column_bytes c.args.relation.now.columns ++ (codes ") {\n" ++ (flat_map (row_line c.args.relation.now.columns) c.args.relation.now.rows ++ (codes "}\n")))) c.in_err-write_bytes-3.ensures.text)))

pub returns-in_err-write_columns-clause-text : goal.returns-in_err-write_columns-clause-text
returns-in_err-write_columns-clause-text g c =
    let p = err_from_is_err_and c.from_residual-in_err-write_columns.result c.from_residual-in_err-write_columns.ensures.1 in
    written_err _ _ (relation_bytes c.args.relation.now) _ p.0 p.1 (front_after _ _ _ (codes "relation ") (c.args.relation.now.name ++ (codes "(" ++ (joined_by (codes ", ") column_bytes c.args.relation.now.columns ++ (codes ") {\n" ++ (flat_map (row_line c.args.relation.now.columns) c.args.relation.now.rows ++ (codes "}\n")))))) c.in_ok-write_bytes.ensures.text (front_after _ _ _ (c.args.relation.now.name) (codes "(" ++ (joined_by (codes ", ") column_bytes c.args.relation.now.columns ++ (codes ") {\n" ++ (flat_map (row_line c.args.relation.now.columns) c.args.relation.now.rows ++ (codes "}\n"))))) (ok_as _ _ _ _ c.as_bytes.ensures c.in_ok-write_bytes-2.ensures.text) (front_after _ _ _ (codes "(") (joined_by (codes ", ") column_bytes c.args.relation.now.columns ++ (codes ") {\n" ++ (flat_map (row_line c.args.relation.now.columns) c.args.relation.now.rows ++ (codes "}\n")))) c.in_ok-write_bytes-3.ensures.text (front_before _ _ (joined_by (codes ", ") column_bytes c.args.relation.now.columns) (codes ") {\n" ++ (flat_map (row_line c.args.relation.now.columns) c.args.relation.now.rows ++ (codes "}\n"))) (front_as _ _ _ _ (ap (joined_by (codes ", ") column_bytes) c.as_slice-columns.ensures) c.in_err-write_columns.ensures.text)))))

pub returns-in_err-write_bytes-4-clause-text : goal.returns-in_err-write_bytes-4-clause-text
returns-in_err-write_bytes-4-clause-text g c =
    let p = err_from_is_err_and c.from_residual-in_err-write_bytes-4.result c.from_residual-in_err-write_bytes-4.ensures.1 in
    written_err _ _ (relation_bytes c.args.relation.now) _ p.0 p.1 (front_after _ _ _ (codes "relation ") (c.args.relation.now.name ++ (codes "(" ++ (joined_by (codes ", ") column_bytes c.args.relation.now.columns ++ (codes ") {\n" ++ (flat_map (row_line c.args.relation.now.columns) c.args.relation.now.rows ++ (codes "}\n")))))) c.in_ok-write_bytes.ensures.text (front_after _ _ _ (c.args.relation.now.name) (codes "(" ++ (joined_by (codes ", ") column_bytes c.args.relation.now.columns ++ (codes ") {\n" ++ (flat_map (row_line c.args.relation.now.columns) c.args.relation.now.rows ++ (codes "}\n"))))) (ok_as _ _ _ _ c.as_bytes.ensures c.in_ok-write_bytes-2.ensures.text) (front_after _ _ _ (codes "(") (joined_by (codes ", ") column_bytes c.args.relation.now.columns ++ (codes ") {\n" ++ (flat_map (row_line c.args.relation.now.columns) c.args.relation.now.rows ++ (codes "}\n")))) c.in_ok-write_bytes-3.ensures.text (front_after _ _ _ (joined_by (codes ", ") column_bytes c.args.relation.now.columns) (codes ") {\n" ++ (flat_map (row_line c.args.relation.now.columns) c.args.relation.now.rows ++ (codes "}\n"))) (ok_as _ _ _ _ (ap (joined_by (codes ", ") column_bytes) c.as_slice-columns.ensures) c.in_ok-write_columns.ensures.text) (front_before _ _ (codes ") {\n") (flat_map (row_line c.args.relation.now.columns) c.args.relation.now.rows ++ (codes "}\n")) c.in_err-write_bytes-4.ensures.text)))))

pub returns-in_err-write_each-clause-text : goal.returns-in_err-write_each-clause-text
returns-in_err-write_each-clause-text g c =
    let p = err_from_is_err_and c.from_residual-in_err-write_each.result c.from_residual-in_err-write_each.ensures.1 in
    written_err _ _ (relation_bytes c.args.relation.now) _ p.0 p.1 (front_after _ _ _ (codes "relation ") (c.args.relation.now.name ++ (codes "(" ++ (joined_by (codes ", ") column_bytes c.args.relation.now.columns ++ (codes ") {\n" ++ (flat_map (row_line c.args.relation.now.columns) c.args.relation.now.rows ++ (codes "}\n")))))) c.in_ok-write_bytes.ensures.text (front_after _ _ _ (c.args.relation.now.name) (codes "(" ++ (joined_by (codes ", ") column_bytes c.args.relation.now.columns ++ (codes ") {\n" ++ (flat_map (row_line c.args.relation.now.columns) c.args.relation.now.rows ++ (codes "}\n"))))) (ok_as _ _ _ _ c.as_bytes.ensures c.in_ok-write_bytes-2.ensures.text) (front_after _ _ _ (codes "(") (joined_by (codes ", ") column_bytes c.args.relation.now.columns ++ (codes ") {\n" ++ (flat_map (row_line c.args.relation.now.columns) c.args.relation.now.rows ++ (codes "}\n")))) c.in_ok-write_bytes-3.ensures.text (front_after _ _ _ (joined_by (codes ", ") column_bytes c.args.relation.now.columns) (codes ") {\n" ++ (flat_map (row_line c.args.relation.now.columns) c.args.relation.now.rows ++ (codes "}\n"))) (ok_as _ _ _ _ (ap (joined_by (codes ", ") column_bytes) c.as_slice-columns.ensures) c.in_ok-write_columns.ensures.text) (front_after _ _ _ (codes ") {\n") (flat_map (row_line c.args.relation.now.columns) c.args.relation.now.rows ++ (codes "}\n")) c.in_ok-write_bytes-4.ensures.text (front_before _ _ (flat_map (row_line c.args.relation.now.columns) c.args.relation.now.rows) (codes "}\n") (front_as _ _ _ _ (rows_as _ _ _ _ c.as_slice-columns.ensures c.as_slice.ensures) c.in_err-write_each.ensures.text)))))))

pub returns-clause-text : goal.returns-clause-text
returns-clause-text g c = written_after _ _ _ (codes "relation ") (c.args.relation.now.name ++ (codes "(" ++ (joined_by (codes ", ") column_bytes c.args.relation.now.columns ++ (codes ") {\n" ++ (flat_map (row_line c.args.relation.now.columns) c.args.relation.now.rows ++ (codes "}\n")))))) _ c.in_ok-write_bytes.ensures.text (written_after _ _ _ (c.args.relation.now.name) (codes "(" ++ (joined_by (codes ", ") column_bytes c.args.relation.now.columns ++ (codes ") {\n" ++ (flat_map (row_line c.args.relation.now.columns) c.args.relation.now.rows ++ (codes "}\n"))))) _ (ok_as _ _ _ _ c.as_bytes.ensures c.in_ok-write_bytes-2.ensures.text) (written_after _ _ _ (codes "(") (joined_by (codes ", ") column_bytes c.args.relation.now.columns ++ (codes ") {\n" ++ (flat_map (row_line c.args.relation.now.columns) c.args.relation.now.rows ++ (codes "}\n")))) _ c.in_ok-write_bytes-3.ensures.text (written_after _ _ _ (joined_by (codes ", ") column_bytes c.args.relation.now.columns) (codes ") {\n" ++ (flat_map (row_line c.args.relation.now.columns) c.args.relation.now.rows ++ (codes "}\n"))) _ (ok_as _ _ _ _ (ap (joined_by (codes ", ") column_bytes) c.as_slice-columns.ensures) c.in_ok-write_columns.ensures.text) (written_after _ _ _ (codes ") {\n") (flat_map (row_line c.args.relation.now.columns) c.args.relation.now.rows ++ (codes "}\n")) _ c.in_ok-write_bytes-4.ensures.text (written_after _ _ _ (flat_map (row_line c.args.relation.now.columns) c.args.relation.now.rows) (codes "}\n") _ (ok_as _ _ _ _ (rows_as _ _ _ _ c.as_slice-columns.ensures c.as_slice.ensures) c.in_ok-write_each.ensures.text) (c.write_bytes-5.ensures.text))))))

pub returns-in_err-write_bytes-clause-reads_back : goal.returns-in_err-write_bytes-clause-reads_back
returns-in_err-write_bytes-clause-reads_back g c = one_reads_back c.args.relation.now c.requires

pub returns-in_err-write_bytes-2-clause-reads_back : goal.returns-in_err-write_bytes-2-clause-reads_back
returns-in_err-write_bytes-2-clause-reads_back g c = one_reads_back c.args.relation.now c.requires

pub returns-in_err-write_bytes-3-clause-reads_back : goal.returns-in_err-write_bytes-3-clause-reads_back
returns-in_err-write_bytes-3-clause-reads_back g c = one_reads_back c.args.relation.now c.requires

pub returns-in_err-write_columns-clause-reads_back : goal.returns-in_err-write_columns-clause-reads_back
returns-in_err-write_columns-clause-reads_back g c = one_reads_back c.args.relation.now c.requires

pub returns-in_err-write_bytes-4-clause-reads_back : goal.returns-in_err-write_bytes-4-clause-reads_back
returns-in_err-write_bytes-4-clause-reads_back g c = one_reads_back c.args.relation.now c.requires

pub returns-in_err-write_each-clause-reads_back : goal.returns-in_err-write_each-clause-reads_back
returns-in_err-write_each-clause-reads_back g c = one_reads_back c.args.relation.now c.requires

pub returns-clause-reads_back : goal.returns-clause-reads_back
returns-clause-reads_back g c = one_reads_back c.args.relation.now c.requires
