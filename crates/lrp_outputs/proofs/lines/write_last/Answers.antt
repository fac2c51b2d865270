-- The token of a spot is that of its tuple.
use Rattle.std.proofs.Common.{ap, ◌∙◌}
use Rattle.lrp_print.proofs.Lines.{written_as}
use Rattle.lrp_token.specs.Spots.{spot_token}
use Rattle.lrp_outputs.proofs.PageLemmas.{token_is}
use Rattle.lrp_outputs.proofs.lines.write_last.Goals as goal

pub returns-clause-text : goal.returns-clause-text
returns-clause-text g c =
    let page = c.args.page.now in
    let spot = c.args.last.now in
    written_as _ _ _ _ _ (ap (λ shape. spot_token shape page.answer.domain page.files spot) c.shape-shape.ensures.value ∙ token_is page.answer page.files spot c.shape-shape.ensures.valid c.requires.1.0 c.requires.1.1) c.write_token.ensures.text
