-- The whole table is that of the group's last step.
use Rattle.lrp_eval.proofs.GroupSteps.{ended_makes, held_whole}
use Rattle.lrp_eval.proofs.groups.ended.Goals as goal

pub whole_of-requires : goal.whole_of-requires
whole_of-requires c = held_whole c.requires.group c.requires.made c.requires.step c.args.parts c.requires.parts

pub returns : goal.returns
returns c = ended_makes c.requires.group c.requires.made c.requires.step c.args.parts c.in_ok-table.table c.len.result c.requires.parts c.in_ok-table.ensures c.unsigned_abs.result c.unsigned_abs.ensures.value (c.has_reach.ensures c.if-not-has_reach.false) c.len.ensures c.requires.passed
