use Rattle.lrp_keep.proofs.Bounded.{above_limit, same_reach, within_limit}
use Rattle.lrp_keep.proofs.states.is_above.Goals as goal

pub returns-clause-above : goal.returns-clause-above
returns-clause-above c = λ e.
    above_limit c.scaled_reach.result _ (same_reach c.args.period.number c.deref-2.result.now c.args.rows.now.relations.items c.as_slice-head.result.now c.args.of.now.query.now.head.columns c.deref.result.now c.args.of.now.disjuncts.items c.scaled_reach.result c.deref-2.ensures.value c.as_slice-head.ensures c.deref.ensures.value c.scaled_reach.ensures) e

pub returns-clause-within : goal.returns-clause-within
returns-clause-within c = λ e.
    within_limit c.scaled_reach.result _ (same_reach c.args.period.number c.deref-2.result.now c.args.rows.now.relations.items c.as_slice-head.result.now c.args.of.now.query.now.head.columns c.deref.result.now c.args.of.now.disjuncts.items c.scaled_reach.result c.deref-2.ensures.value c.as_slice-head.ensures c.deref.ensures.value c.scaled_reach.ensures) e
