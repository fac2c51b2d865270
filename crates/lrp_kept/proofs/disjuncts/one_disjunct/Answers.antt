use Rattle.lrp_core.specs.Cores.{core_of}
use Rattle.lrp_kept.specs.Held.{names_of}
use Rattle.lrp_kept.proofs.JoinedUp.{only_disjunct}
use Rattle.lrp_kept.proofs.disjuncts.one_disjunct.Goals as goal

pub returns : goal.returns
returns c = only_disjunct (names_of c.args.rows.now) (core_of c.args.core.now) c.new-all.result.items c.push_one.new.all.items c.new-all.ensures.items c.in_ok-push_one.ensures
