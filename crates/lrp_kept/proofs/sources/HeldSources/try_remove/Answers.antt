use Rattle.lrp_kept.proofs.Labelled.{one_less}
use Rattle.lrp_kept.proofs.sources.HeldSources.try_remove.Goals as goal

pub invariant_of-self : goal.invariant_of-self
invariant_of-self c = one_less c.self.inside.rows c.try_remove.new.self c.self.inside.labels.items c.args.key c.try_remove.ensures.updates c.self.invariant
