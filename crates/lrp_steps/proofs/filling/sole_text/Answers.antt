-- Where no column before has it alone, nothing is said of it.
use Rattle.lrp_steps.proofs.Filled.{sole_none}
use Rattle.lrp_steps.proofs.filling.sole_text.Goals as goal

pub returns : goal.returns
returns c = sole_none c.args.pattern.now c.args.column c.args.texts.now
