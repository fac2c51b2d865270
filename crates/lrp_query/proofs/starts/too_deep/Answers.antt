use Rattle.std.proofs.Common.{◌∙◌, ap, Ok, sym}
use Rattle.lrp_query.proofs.Shown.{look_deep, look_hole}
use Rattle.lrp_query.proofs.starts.too_deep.Goals as goal

pub returns-clause-value : goal.returns-clause-value
returns-clause-value c = look_deep _ _ _ _ c.peek.ensures ∙ ap (λ k. Ok (k, c.args.tokens.now)) (sym c.told.ensures.value)

pub returns-clause-no_hole : goal.returns-clause-no_hole
returns-clause-no_hole c = look_hole _ _ _ _ c.peek.ensures
