use Rattle.std.proofs.Common.{codes}
use Rattle.std.proofs.lemmas.Result.{err_from_is_err_and}
use Rattle.lrp_model.specs.Printed.{joined_by}
use Rattle.lrp_io.proofs.PieceLemmas.{written_after, written_err, front_before}
use Rattle.lrp_print.specs.Conditions.{after_where}
use Rattle.lrp_print.proofs.Lines.{front_as, some_after, written_as}
use Rattle.lrp_print.proofs.notation.write_after_where.Goals as goal

pub returns-in_err-write_bytes-in-len1-up-clause-text : goal.returns-in_err-write_bytes-in-len1-up-clause-text
returns-in_err-write_bytes-in-len1-up-clause-text g c =
    let bytes = g.N.Notation.bytes c.args.notation.now in
    let items = c.args.items.now in
    let p = err_from_is_err_and c.from_residual.result c.from_residual.ensures.1 in
    written_err _ _ (after_where bytes items) _ p.0 p.1
    (front_as _ _ _ _ (some_after bytes items c.in-len1-up.len_at_least) (front_before _ _ (codes " where ") (joined_by (codes ", ") bytes items) c.in_err-write_bytes-in-len1-up.ensures.text))

pub returns-in_ok-write_bytes-in-len1-up-clause-text : goal.returns-in_ok-write_bytes-in-len1-up-clause-text
returns-in_ok-write_bytes-in-len1-up-clause-text g c =
    let bytes = g.N.Notation.bytes c.args.notation.now in
    let items = c.args.items.now in
    written_as _ _ _ _ _ (some_after bytes items c.in-len1-up.len_at_least) (written_after _ _ _ (codes " where ") (joined_by (codes ", ") bytes items) _ c.in_ok-write_bytes-in-len1-up.ensures.text c.write_joined.ensures.text)
