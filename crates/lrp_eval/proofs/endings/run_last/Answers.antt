-- The step before the last one.
use Rattle.std.proofs.Common.{◌+◌, ℕ, List, length, sym, subst}
use Rattle.lrp_tables.specs.declared.table.Table.{Table}
use Rattle.lrp_eval.specs.Grouped.{CanBeWhole, IsSmallStep}
use Rattle.lrp_eval.proofs.GroupSteps.{held_whole}
use Rattle.lrp_eval.proofs.endings.run_last.Goals as goal

pub bound_of-requires : goal.bound_of-requires
bound_of-requires c =
    let next = subst (λ (n : ℕ). IsSmallStep c.args.group.now (length c.args.group.now.tables.now + n) c.in_ok-step.step.now) c.len.ensures c.in_ok-step.ensures in
    subst (λ (ps : List Table). CanBeWhole c.args.setting.now.domain.now c.in_ok-step.step.now.period ps) (sym c.as_slice.ensures) (held_whole c.requires c.in_ok-made.ensures.held next c.in_ok-parts.parts c.in_ok-parts.ensures)
