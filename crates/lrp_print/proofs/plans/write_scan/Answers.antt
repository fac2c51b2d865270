use Rattle.std.proofs.Common.{◌++◌, codes}
use Rattle.lrp_model.specs.Printed.{joined_by}
use Rattle.lrp_model.specs.PrintedPlans.{term_bytes}
use Rattle.std.proofs.lemmas.Result.{err_from_is_err_and}
use Rattle.lrp_io.proofs.PieceLemmas.{written_after, written_err, front_after, front_before}
use Rattle.lrp_print.proofs.Lines.{ok_as, front_as}
use Rattle.lrp_print.proofs.plans.write_scan.Goals as goal

pub returns-in_err-write_bytes-clause-text : goal.returns-in_err-write_bytes-clause-text
returns-in_err-write_bytes-clause-text g c =
    let p = err_from_is_err_and c.from_residual.result c.from_residual.ensures.1 in
    written_err _ _ ((codes "scan ") ++ (c.args.relation.now ++ ((codes "(") ++ ((joined_by (codes ", ") term_bytes c.args.terms.now) ++ (codes ")"))))) _ p.0 p.1
    (front_before _ _ (codes "scan ") (c.args.relation.now ++ ((codes "(") ++ ((joined_by (codes ", ") term_bytes c.args.terms.now) ++ (codes ")")))) c.in_err-write_bytes.ensures.text)

pub returns-in_err-write_bytes-2-clause-text : goal.returns-in_err-write_bytes-2-clause-text
returns-in_err-write_bytes-2-clause-text g c =
    let p = err_from_is_err_and c.from_residual-in_err-write_bytes-2.result c.from_residual-in_err-write_bytes-2.ensures.1 in
    written_err _ _ ((codes "scan ") ++ (c.args.relation.now ++ ((codes "(") ++ ((joined_by (codes ", ") term_bytes c.args.terms.now) ++ (codes ")"))))) _ p.0 p.1
    (front_after _ _ _ (codes "scan ") (c.args.relation.now ++ ((codes "(") ++ ((joined_by (codes ", ") term_bytes c.args.terms.now) ++ (codes ")")))) c.in_ok-write_bytes.ensures.text (front_before _ _ c.args.relation.now ((codes "(") ++ ((joined_by (codes ", ") term_bytes c.args.terms.now) ++ (codes ")"))) (front_as _ _ _ _ c.as_bytes.ensures c.in_err-write_bytes-2.ensures.text)))

pub returns-in_err-write_bytes-3-clause-text : goal.returns-in_err-write_bytes-3-clause-text
returns-in_err-write_bytes-3-clause-text g c =
    let p = err_from_is_err_and c.from_residual-in_err-write_bytes-3.result c.from_residual-in_err-write_bytes-3.ensures.1 in
    written_err _ _ ((codes "scan ") ++ (c.args.relation.now ++ ((codes "(") ++ ((joined_by (codes ", ") term_bytes c.args.terms.now) ++ (codes ")"))))) _ p.0 p.1
    (front_after _ _ _ (codes "scan ") (c.args.relation.now ++ ((codes "(") ++ ((joined_by (codes ", ") term_bytes c.args.terms.now) ++ (codes ")")))) c.in_ok-write_bytes.ensures.text (front_after _ _ _ c.args.relation.now ((codes "(") ++ ((joined_by (codes ", ") term_bytes c.args.terms.now) ++ (codes ")"))) (ok_as _ _ _ _ c.as_bytes.ensures c.in_ok-write_bytes-2.ensures.text) (front_before _ _ (codes "(") ((joined_by (codes ", ") term_bytes c.args.terms.now) ++ (codes ")")) c.in_err-write_bytes-3.ensures.text)))

pub returns-in_err-write_terms-clause-text : goal.returns-in_err-write_terms-clause-text
returns-in_err-write_terms-clause-text g c =
    let p = err_from_is_err_and c.from_residual-in_err-write_terms.result c.from_residual-in_err-write_terms.ensures.1 in
    written_err _ _ ((codes "scan ") ++ (c.args.relation.now ++ ((codes "(") ++ ((joined_by (codes ", ") term_bytes c.args.terms.now) ++ (codes ")"))))) _ p.0 p.1
    (front_after _ _ _ (codes "scan ") (c.args.relation.now ++ ((codes "(") ++ ((joined_by (codes ", ") term_bytes c.args.terms.now) ++ (codes ")")))) c.in_ok-write_bytes.ensures.text (front_after _ _ _ c.args.relation.now ((codes "(") ++ ((joined_by (codes ", ") term_bytes c.args.terms.now) ++ (codes ")"))) (ok_as _ _ _ _ c.as_bytes.ensures c.in_ok-write_bytes-2.ensures.text) (front_after _ _ _ (codes "(") ((joined_by (codes ", ") term_bytes c.args.terms.now) ++ (codes ")")) c.in_ok-write_bytes-3.ensures.text (front_before _ _ (joined_by (codes ", ") term_bytes c.args.terms.now) (codes ")") c.in_err-write_terms.ensures.text))))

pub returns-clause-text : goal.returns-clause-text
returns-clause-text g c =
    written_after _ _ _ (codes "scan ") (c.args.relation.now ++ ((codes "(") ++ ((joined_by (codes ", ") term_bytes c.args.terms.now) ++ (codes ")")))) _ c.in_ok-write_bytes.ensures.text (written_after _ _ _ c.args.relation.now ((codes "(") ++ ((joined_by (codes ", ") term_bytes c.args.terms.now) ++ (codes ")"))) _ (ok_as _ _ _ _ c.as_bytes.ensures c.in_ok-write_bytes-2.ensures.text) (written_after _ _ _ (codes "(") ((joined_by (codes ", ") term_bytes c.args.terms.now) ++ (codes ")")) _ c.in_ok-write_bytes-3.ensures.text (written_after _ _ _ (joined_by (codes ", ") term_bytes c.args.terms.now) (codes ")") _ c.in_ok-write_terms.ensures.text c.write_bytes-4.ensures.text)))
