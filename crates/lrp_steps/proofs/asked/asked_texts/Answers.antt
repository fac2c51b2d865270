-- One text more.
use Rattle.std.proofs.Common.{◌∙◌, ap, subst, sym}
use Rattle.std.specs.Prelude.{All, Some}
use Rattle.std.proofs.lemmas.List.Elements.{All-push}
use Rattle.lrp_steps.specs.Rows.{IsAskedText}
use Rattle.lrp_steps.proofs.asked.asked_texts.Goals as goal

pub loop-place-preserved : goal.loop-place-preserved
loop-place-preserved c = subst (All (IsAskedText c.args.terms.now)) (sym c.in_ok-push.ensures.items) (All-push (IsAskedText c.args.terms.now) c.loop-place.asked.items _ c.loop-place.invariant (record { is = c.at.ensures ∙ ap Some c.in-Some.ensures }))
