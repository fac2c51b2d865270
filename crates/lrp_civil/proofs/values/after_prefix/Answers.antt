use Rattle.lrp_civil.proofs.ValueLemmas.{prefix_found}
use Rattle.lrp_civil.proofs.values.after_prefix.Goals as goal

pub returns : goal.returns
returns c = prefix_found c.args.bytes.now c.args.prefix.now 0 c.strip_prefix.result c.strip_prefix.ensures.cases
