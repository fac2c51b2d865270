-- The set has one text more.
use Rattle.lrp_lint.proofs.TextSets.{one_text}
use Rattle.lrp_lint.proofs.known.add_text.Goals as goal

pub returns : goal.returns
returns c = one_text c.args.text c.args.texts.now c.insert.new.self c.in_ok-insert.ensures.updates
