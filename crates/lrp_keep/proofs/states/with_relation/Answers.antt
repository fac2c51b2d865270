use Rattle.std.proofs.Common.{ap, ◌∙◌}
use Rattle.std.specs.List.{list_any}
use Rattle.lrp_kept.specs.Sizes.{is_reader, period_number}
use Rattle.lrp_keep.proofs.Marking.{read_relation, skip_relation}
use Rattle.lrp_keep.proofs.states.with_relation.Goals as goal

pub returns-then-is_read : goal.returns-then-is_read
returns-then-is_read c = read_relation c.args.of.now.disjuncts.items c.args.number c.args.relation.now c.is_read.result (period_number c.args.period) (period_number c.with_all_periods.result) (c.is_read.ensures ∙ ap (list_any (is_reader c.args.number)) c.deref.ensures.value) c.if-is_read.true c.with_all_periods.ensures

pub returns-else-is_read : goal.returns-else-is_read
returns-else-is_read c = skip_relation c.args.of.now.disjuncts.items c.args.number c.args.relation.now c.is_read.result (period_number c.args.period) (c.is_read.ensures ∙ ap (list_any (is_reader c.args.number)) c.deref.ensures.value) c.if-is_read.false
