use Rattle.std.proofs.Common.{◌++◌, codes}
use Rattle.lrp_model.specs.Printed.{sort_bytes}
use Rattle.std.proofs.lemmas.Result.{err_from_is_err_and}
use Rattle.lrp_io.proofs.PieceLemmas.{written_after, written_err, front_after, front_before}
use Rattle.lrp_print.proofs.Lines.{ok_as, front_as}
use Rattle.lrp_print.proofs.plans.write_element.Goals as goal

pub returns-in_err-write_bytes-clause-text : goal.returns-in_err-write_bytes-clause-text
returns-in_err-write_bytes-clause-text g c =
    let p = err_from_is_err_and c.from_residual.result c.from_residual.ensures.1 in
    written_err _ _ ((codes "sort ") ++ ((sort_bytes c.args.sort.now) ++ ((codes "(") ++ (c.args.name.now ++ (codes ")"))))) _ p.0 p.1
    (front_before _ _ (codes "sort ") ((sort_bytes c.args.sort.now) ++ ((codes "(") ++ (c.args.name.now ++ (codes ")")))) c.in_err-write_bytes.ensures.text)

pub returns-in_err-write_sort-clause-text : goal.returns-in_err-write_sort-clause-text
returns-in_err-write_sort-clause-text g c =
    let p = err_from_is_err_and c.from_residual-in_err-write_sort.result c.from_residual-in_err-write_sort.ensures.1 in
    written_err _ _ ((codes "sort ") ++ ((sort_bytes c.args.sort.now) ++ ((codes "(") ++ (c.args.name.now ++ (codes ")"))))) _ p.0 p.1
    (front_after _ _ _ (codes "sort ") ((sort_bytes c.args.sort.now) ++ ((codes "(") ++ (c.args.name.now ++ (codes ")")))) c.in_ok-write_bytes.ensures.text (front_before _ _ (sort_bytes c.args.sort.now) ((codes "(") ++ (c.args.name.now ++ (codes ")"))) c.in_err-write_sort.ensures.text))

pub returns-in_err-write_bytes-2-clause-text : goal.returns-in_err-write_bytes-2-clause-text
returns-in_err-write_bytes-2-clause-text g c =
    let p = err_from_is_err_and c.from_residual-in_err-write_bytes-2.result c.from_residual-in_err-write_bytes-2.ensures.1 in
    written_err _ _ ((codes "sort ") ++ ((sort_bytes c.args.sort.now) ++ ((codes "(") ++ (c.args.name.now ++ (codes ")"))))) _ p.0 p.1
    (front_after _ _ _ (codes "sort ") ((sort_bytes c.args.sort.now) ++ ((codes "(") ++ (c.args.name.now ++ (codes ")")))) c.in_ok-write_bytes.ensures.text (front_after _ _ _ (sort_bytes c.args.sort.now) ((codes "(") ++ (c.args.name.now ++ (codes ")"))) c.in_ok-write_sort.ensures.text (front_before _ _ (codes "(") (c.args.name.now ++ (codes ")")) c.in_err-write_bytes-2.ensures.text)))

pub returns-in_err-write_bytes-3-clause-text : goal.returns-in_err-write_bytes-3-clause-text
returns-in_err-write_bytes-3-clause-text g c =
    let p = err_from_is_err_and c.from_residual-in_err-write_bytes-3.result c.from_residual-in_err-write_bytes-3.ensures.1 in
    written_err _ _ ((codes "sort ") ++ ((sort_bytes c.args.sort.now) ++ ((codes "(") ++ (c.args.name.now ++ (codes ")"))))) _ p.0 p.1
    (front_after _ _ _ (codes "sort ") ((sort_bytes c.args.sort.now) ++ ((codes "(") ++ (c.args.name.now ++ (codes ")")))) c.in_ok-write_bytes.ensures.text (front_after _ _ _ (sort_bytes c.args.sort.now) ((codes "(") ++ (c.args.name.now ++ (codes ")"))) c.in_ok-write_sort.ensures.text (front_after _ _ _ (codes "(") (c.args.name.now ++ (codes ")")) c.in_ok-write_bytes-2.ensures.text (front_before _ _ c.args.name.now (codes ")") (front_as _ _ _ _ c.as_bytes.ensures c.in_err-write_bytes-3.ensures.text)))))

pub returns-clause-text : goal.returns-clause-text
returns-clause-text g c =
    written_after _ _ _ (codes "sort ") ((sort_bytes c.args.sort.now) ++ ((codes "(") ++ (c.args.name.now ++ (codes ")")))) _ c.in_ok-write_bytes.ensures.text (written_after _ _ _ (sort_bytes c.args.sort.now) ((codes "(") ++ (c.args.name.now ++ (codes ")"))) _ c.in_ok-write_sort.ensures.text (written_after _ _ _ (codes "(") (c.args.name.now ++ (codes ")")) _ c.in_ok-write_bytes-2.ensures.text (written_after _ _ _ c.args.name.now (codes ")") _ (ok_as _ _ _ _ c.as_bytes.ensures c.in_ok-write_bytes-3.ensures.text) c.write_bytes-4.ensures.text)))
