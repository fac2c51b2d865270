use Rattle.std.proofs.Common.{◌∷◌, ◌∙◌, ap, sym, subst}
use Rattle.lrp_text.specs.Sources.{IsInnerToken, at_of, tokens_left}
use Rattle.lrp_text.proofs.Standing.{goes_after}
use Rattle.lrp_text.proofs.cursor.TokenCursor.advance.Goals as goal

pub returns : goal.returns
returns c =
    let k = goes_after _ _ _ _ _ _ c.self.invariant.next (subst IsInnerToken (sym c.self.view_is) c.requires) in
    (k.0, sym c.self.view_is ∙ k.1 ∙ ap (λ wide. k.0 ∷ tokens_left wide (at_of c.self.inside.after)) (sym c.self.invariant.signs))
