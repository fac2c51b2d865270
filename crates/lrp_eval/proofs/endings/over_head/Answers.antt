-- The parts as they are, or extended.
use Rattle.std.proofs.Common.{◌≡◌, List, subst, sym}
use Rattle.lrp_tables.specs.declared.table.Table.{Table}
use Rattle.lrp_tables.specs.Columns.{head_times, head_texts}
use Rattle.lrp_periods.specs.Parts.{part_texts, part_times}
use Rattle.lrp_eval.proofs.EndLaws.{as_they_are}
use Rattle.lrp_eval.proofs.endings.over_head.Goals as goal

pub returns-then-have_columns : goal.returns-then-have_columns
returns-then-have_columns c = as_they_are c.requires.can c.requires.few
    (subst (λ (ps : List Table). part_times ps ≡ head_times c.args.group.now.plan.now.head.columns) c.as_slice.ensures (c.have_columns.ensures.times c.if-have_columns.true))
    (subst (λ (ps : List Table). part_texts ps ≡ head_texts c.args.group.now.plan.now.head.columns) c.as_slice.ensures (c.have_columns.ensures.texts c.if-have_columns.true))
