-- A digest stands before the first slash.
use Rattle.std.proofs.Common.{sym, subst}
use Rattle.lrp_model.specs.PrintedPages.{hex}
use Rattle.lrp_model.specs.declared.tuples.Tuple.{Tuple}
use Rattle.lrp_token.specs.declared.resume.Resume.{Resume}
use Rattle.lrp_token.specs.Parts.{HasDigest, IsTuple}
use Rattle.lrp_token.proofs.Refusals.{refused}
use Rattle.lrp_token.proofs.Tokens.{cut, of_digest}
use Rattle.lrp_token.proofs.reading.read_both.Goals as goal

pub returns-in_default : goal.returns-in_default
returns-in_default c r s =
    let text = c.args.text.now in
    let p = of_digest text r.digest r.tuple.times r.tuple.texts s in
    rw c.in_default.is at (cut text (hex p.front) p.back c.split_once.result c.split_once.ensures.cases p.spelled p.free)

pub returns-in_default-digest_of : goal.returns-in_default-digest_of
returns-in_default-digest_of c r s =
    let text = c.args.text.now in
    let p = of_digest text r.digest r.tuple.times r.tuple.texts s in
    let same = rw c.in-Some.is at (cut text (hex p.front) p.back c.split_once.result c.split_once.ensures.cases p.spelled p.free) in
    c.in_default-digest_of.ensures p.front (record { fits = p.fits; spelled = same.0 })

pub returns-in_err-tuple : goal.returns-in_err-tuple
returns-in_err-tuple c =
    let text = c.args.text.now in
    refused (λ (r : Resume). HasDigest text r.digest r.tuple.times r.tuple.texts) (λ (t : Tuple). IsTuple c.in-Some.rest.now t.times t.texts) c.from_residual.result c.in_err-tuple.field-0.0 c.from_residual.ensures.1 c.in_err-tuple.ensures (λ none r s.
    let p = of_digest text r.digest r.tuple.times r.tuple.texts s in
    let same = rw c.in-Some.is at (cut text (hex p.front) p.back c.split_once.result c.split_once.ensures.cases p.spelled p.free) in
    none r.tuple (subst (λ x. IsTuple x r.tuple.times r.tuple.texts) (sym same.1) p.tuple))
