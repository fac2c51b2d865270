-- Texts that are known otherwise leave nothing of the cell.
use Rattle.std.proofs.Common.{length, subst, sym}
use Rattle.lrp_steps.specs.Patterns.{AreKnown, AreNumbersAt}
use Rattle.lrp_steps.proofs.Found.{at_list}
use Rattle.lrp_steps.proofs.lent.PatternRef.may_have.Goals as goal

pub returns-in-None : goal.returns-in-None
returns-in-None c = λ f zone. record {
  none = λ texts h e. c.in-None.ensures.none texts (subst (λ known. AreKnown known texts) (sym c.texts.ensures) h) (subst (λ ps. AreNumbersAt ps c.args.cell.now.texts (length ps) texts) (sym c.as_slice.ensures) (at_list c.args.places.now.texts c.args.cell.now.texts texts c.requires.few c.requires.eight e));
}
