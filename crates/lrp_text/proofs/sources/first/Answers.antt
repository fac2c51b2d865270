use Rattle.std.proofs.Common.{arith}
use Rattle.std.proofs.lemmas.Grind.{common_steps}
use Rattle.lrp_text.proofs.Cuts.{scan_slice}
use Rattle.lrp_text.proofs.sources.first.Goals as goal

pub returns-clause-slice : goal.returns-clause-slice
returns-clause-slice c = grind (arith, common_steps, scan_slice c.args.wide c.args.text.now)
