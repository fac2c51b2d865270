use Rattle.std.proofs.Common.{ap, ◌∙◌}
use Rattle.std.specs.List.{list_any}
use Rattle.lrp_kept.specs.Sizes.{is_reader}
use Rattle.lrp_keep.proofs.Marking.{raised_match}
use Rattle.lrp_keep.proofs.states.State.raised_period.Goals as goal

pub returns-then-is_read : goal.returns-then-is_read
returns-then-is_read c = raised_match c.args.of.now.disjuncts.items c.args.relation c.args.row.now c.args.self.now.period.number c.is_read.result c.with_periods.result (c.is_read.ensures ∙ ap (list_any (is_reader c.args.relation)) c.deref.ensures.value) c.if-is_read.true c.args.self.now.period.low c.requires c.with_periods.ensures
