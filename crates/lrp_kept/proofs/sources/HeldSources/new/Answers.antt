use Rattle.lrp_kept.proofs.Labelled.{none_labelled}
use Rattle.lrp_kept.proofs.sources.HeldSources.new.Goals as goal

pub invariant_of-result : goal.invariant_of-result
invariant_of-result c = none_labelled c.new.result _ c.new.ensures.empty
