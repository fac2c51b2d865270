use Rattle.std.proofs.Common.{◌≡◌, ◌++◌, ◌∙◌, IfSome, ap, map, subst}
use Rattle.lrp_model.specs.Printed.{quoted}
use Rattle.lrp_io.proofs.PieceLemmas.{written_after}
use Rattle.lrp_print.proofs.Lines.{written_as}
use Rattle.lrp_answer_text.proofs.LineLaws.{read_is, json_is}
use Rattle.lrp_answer_text.proofs.values.write_text.Goals as goal

pub returns-in-Some-clause-text : goal.returns-in-Some-clause-text
returns-in-Some-clause-text g c =
    let domain = c.args.domain.now in
    let made = c.as_slice.ensures ∙ subst (λ t. IfSome t (λ texts. texts.now ≡ map quoted domain)) c.in-Some.is c.requires.texts in
    written_as _ _ _ _ _ (ap (λ bytes. c.args.before.now ++ bytes) (c.as_slice-in-Some.ensures ∙ json_is domain c.args.number c.as_slice.result.now c.index-as_slice-number.result made c.requires.known c.index-as_slice-number.is))
    (written_after _ _ _ c.args.before.now c.as_slice-in-Some.result.now _ c.in_ok-write_bytes.ensures.text c.write_bytes-in-Some.ensures.text)

pub returns-in-None-clause-text : goal.returns-in-None-clause-text
returns-in-None-clause-text g c =
    written_as _ _ _ _ _ (ap (λ bytes. c.args.before.now ++ quoted bytes) c.as_bytes.ensures.same ∙ ap (λ bytes. c.args.before.now ++ bytes) (read_is c.args.domain.now c.args.number c.text.result.now c.text.ensures))
    (written_after _ _ _ c.args.before.now (quoted c.as_bytes.result.now) _ c.in_ok-write_bytes.ensures.text c.write_quoted.ensures.text)
