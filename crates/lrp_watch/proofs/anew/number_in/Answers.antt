-- The text is in the other domain.
use Rattle.lrp_watch.proofs.KnownTexts.{text_in}
use Rattle.lrp_watch.proofs.anew.number_in.Goals as goal

pub unreachable-requires : goal.unreachable-requires
unreachable-requires c = c.in-None.ensures (text_in c.args.domain.now c.args.answer.now.domain c.args.number c.text.result.now c.requires.texts c.text.ensures)
