-- The first spots tell which of two stores leads.
use Rattle.lrp_packed.proofs.Leading.{leads_by_first}
use Rattle.lrp_packed.proofs.stores.PackedStoreRanked.leads.Goals as goal

pub returns-clause-to : goal.returns-clause-to
returns-clause-to c t = leads_by_first c.args.self.now c.args.other.now c.first.result c.first-2.result c.first.ensures c.first-2.ensures (c.is_not_later.ensures.to t)

pub returns-clause-from : goal.returns-clause-from
returns-clause-from c t = leads_by_first c.args.other.now c.args.self.now c.first-2.result c.first.result c.first-2.ensures c.first.ensures (c.is_not_later.ensures.from t)
