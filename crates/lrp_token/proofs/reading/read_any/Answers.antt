-- After the second version stands a digest.
use Rattle.std.proofs.Common.{◌≡◌, ◌++◌, ◌∷◌, ◌∙◌, ap, codes, lit<}
use Rattle.std.proofs.lemmas.Str.Pattern.{split_parts}
use Rattle.lrp_model.specs.PrintedPages.{IsToken}
use Rattle.lrp_token.specs.declared.resume.Resume.{Resume}
use Rattle.lrp_token.specs.Parts.{HasDigest}
use Rattle.lrp_token.proofs.Refusals.{read_as}
use Rattle.lrp_token.proofs.Tokens.{both_parts, both_token}
use Rattle.lrp_token.proofs.reading.read_any.Goals as goal

pub returns-in-T2 : goal.returns-in-T2
returns-in-T2 c =
    let text = c.args.text.now in
    let parts = rw c.in-Some.is at (split_parts 47 text c.split_once.result c.split_once.ensures.cases (lit< tt)) in
    let e : text ≡ codes "T2" ++ 47 ∷ c.in-Some.rest.now = parts.0 ∙ ap (λ x. x ++ 47 ∷ c.in-Some.rest.now) c.in-T2.is in
    read_as (λ (r : Resume). IsToken text r.digest r.tuple.times r.tuple.texts) (λ (r : Resume). HasDigest c.in-Some.rest.now r.digest r.tuple.times r.tuple.texts) c.read_both.result
    (λ r h. both_token text c.in-Some.rest.now r.digest r.tuple.times r.tuple.texts e h)
    (λ r h. both_parts text c.in-Some.rest.now r.digest r.tuple.times r.tuple.texts e h)
    c.read_both.ensures
