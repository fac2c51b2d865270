use Rattle.lrp_core.specs.Cores.{core_of}
use Rattle.lrp_kept.proofs.Drafted.{drafted}
use Rattle.lrp_kept.proofs.disjuncts.draft_of.Goals as goal

pub returns : goal.returns
returns c = drafted (core_of c.args.core.now) (record { atoms = c.new.result; tests = c.new-2.result; bound = c.new-3.result }) c.add_core.new.draft c.new.ensures.items c.new-2.ensures c.new-3.ensures c.in_ok-add_core.ensures
