-- A tuple is cut at its first slash.
use Rattle.std.proofs.Common.{sym, subst}
use Rattle.std.specs.Fmt.{signed_decimal}
use Rattle.lrp_model.specs.PrintedPages.{text_part, IsSmall}
use Rattle.lrp_model.specs.DataTexts.{IsDataText}
use Rattle.lrp_model.specs.declared.tuples.Tuple.{Tuple}
use Rattle.lrp_token.specs.Parts.{IsListOf, IsTuple}
use Rattle.lrp_token.proofs.Refusals.{refused}
use Rattle.lrp_token.proofs.Tokens.{cut, of_tuple}
use Rattle.lrp_token.proofs.reading.read_tuple.Goals as goal

pub returns-in_default : goal.returns-in_default
returns-in_default c t s =
    let p = of_tuple c.args.text.now t.times t.texts s in
    rw c.in_default.is at (cut c.args.text.now p.0 p.1 c.split_once.result c.split_once.ensures.cases p.4 p.5)

pub returns-in_err-times : goal.returns-in_err-times
returns-in_err-times c =
    let text = c.args.text.now in
    refused (λ (t : Tuple). IsTuple text t.times t.texts) (IsListOf IsSmall signed_decimal c.in-Some.times.now) c.from_residual.result c.in_err-times.field-0.0 c.from_residual.ensures.1 c.in_err-times.ensures (λ none t s.
    let p = of_tuple text t.times t.texts s in
    let same = rw c.in-Some.is at (cut text p.0 p.1 c.split_once.result c.split_once.ensures.cases p.4 p.5) in
    none t.times (subst (λ x. IsListOf IsSmall signed_decimal x t.times) (sym same.0) p.2))

pub returns-in_err-texts : goal.returns-in_err-texts
returns-in_err-texts c =
    let text = c.args.text.now in
    refused (λ (t : Tuple). IsTuple text t.times t.texts) (IsListOf IsDataText text_part c.in-Some.texts.now) c.from_residual-in_err-texts.result c.in_err-texts.field-0.0 c.from_residual-in_err-texts.ensures.1 c.in_err-texts.ensures (λ none t s.
    let p = of_tuple text t.times t.texts s in
    let same = rw c.in-Some.is at (cut text p.0 p.1 c.split_once.result c.split_once.ensures.cases p.4 p.5) in
    none t.texts (subst (λ x. IsListOf IsDataText text_part x t.texts) (sym same.1) p.3))
