-- One zone more.
use Rattle.std.proofs.Common.{[], ◌∷◌, ◌++◌, ap, ◌∙◌}
use Rattle.lrp_steps.proofs.Found.{parts_more}
use Rattle.lrp_steps.proofs.lent.ZoneAsked.at.Goals as goal

pub returns : goal.returns
returns c = record {
  zones = parts_more c.args.self.pattern.now.zones _ c.at-last.result _ c.at-last.ensures (c.in_ok-zones.ensures ∙ ap (λ zones. zones ++ c.at-last.result ∷ []) c.zones.ensures);
  texts = c.texts.ensures;
  equal = c.equal.ensures;
}
