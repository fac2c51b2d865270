-- A database is opened.
use Rattle.std.proofs.Common.{Err, refl, sym, ap, subst}
use Rattle.lrp_keep.specs.Keeps.{opened, IsPastLimit}
use Rattle.lrp_keep.proofs.Opening.{above_cause, can_opened, can_sketch_all, held_marked, keeper_opened, large_cause, limits_opened, none_marked, period_above, size_marked, view_opened}
use Rattle.lrp_keep.proofs.Standing.{opened_cause}
use Rattle.lrp_keep.proofs.states.State.of.Goals as goal

pub returns-in_default-clause-fault : goal.returns-in_default-clause-fault
returns-in_default-clause-fault c = period_above c.args.of.now c.args.database.now c.args.relations c.requires c.in_default.ensures

pub returns-then-is_above-clause-fault : goal.returns-then-is_above-clause-fault
returns-then-is_above-clause-fault c = above_cause c.args.of.now c.args.database.now c.args.relations c.requires c.in-Some.period.number c.in-Some.ensures c.mark_all.new.rows c.mark_all.ensures (c.is_above.ensures.above c.if-is_above.true)

pub hold_each-requires-clause-held : goal.hold_each-requires-clause-held
hold_each-requires-clause-held c = held_marked c.args.of.now c.args.database.now c.args.relations c.requires c.in-Some.period.number c.in-Some.ensures c.mark_all.new.rows c.mark_all.ensures

pub hold_each-requires-clause-none : goal.hold_each-requires-clause-none
hold_each-requires-clause-none c = none_marked c.args.of.now c.args.database.now c.args.relations c.requires c.in-Some.period.number c.in-Some.ensures c.mark_all.new.rows c.mark_all.ensures

pub hold_each-requires-clause-size : goal.hold_each-requires-clause-size
hold_each-requires-clause-size c = size_marked c.args.of.now c.args.database.now c.args.relations c.requires c.in-Some.period.number c.in-Some.ensures c.mark_all.new.rows c.mark_all.ensures

pub hold_each-requires-clause-can : goal.hold_each-requires-clause-can
hold_each-requires-clause-can c = can_sketch_all c.args.of.now c.args.database.now c.args.relations c.requires c.in-Some.period.number c.in-Some.ensures c.mark_all.new.rows c.mark_all.ensures (c.is_above.ensures.within c.if-is_above.false)

pub derive_all-requires : goal.derive_all-requires
derive_all-requires c = can_opened c.args.of.now c.args.database.now c.args.relations c.requires c.in-Some.period.number c.in-Some.ensures c.mark_all.new.rows c.mark_all.ensures (c.is_above.ensures.within c.if-is_above.false) c.hold_each.new.rows c.in_ok-hold_each.ensures

pub returns-in-Ok-clause-keeper : goal.returns-in-Ok-clause-keeper
returns-in-Ok-clause-keeper c = keeper_opened c.args.of.now c.args.database.now c.args.relations c.requires c.in-Some.period.number c.in-Some.ensures c.mark_all.new.rows c.mark_all.ensures (c.is_above.ensures.within c.if-is_above.false) c.hold_each.new.rows c.in_ok-hold_each.ensures (record { rows = c.hold_each.new.rows; period = c.in-Some.period; derived = c.in-Ok.derived }) refl refl c.in-Ok.ensures.derived

pub returns-in-Ok-clause-view : goal.returns-in-Ok-clause-view
returns-in-Ok-clause-view c = view_opened c.args.of.now c.args.database.now c.args.relations c.requires c.in-Some.period.number c.in-Some.ensures c.mark_all.new.rows c.mark_all.ensures (c.is_above.ensures.within c.if-is_above.false) c.hold_each.new.rows c.in_ok-hold_each.ensures (record { rows = c.hold_each.new.rows; period = c.in-Some.period; derived = c.in-Ok.derived }) refl refl c.in-Ok.ensures.derived

pub returns-in-Ok-clause-limits : goal.returns-in-Ok-clause-limits
returns-in-Ok-clause-limits c = limits_opened c.args.of.now c.args.database.now c.args.relations c.requires c.in-Some.period.number c.in-Some.ensures c.mark_all.new.rows c.mark_all.ensures (c.is_above.ensures.within c.if-is_above.false) c.hold_each.new.rows c.in_ok-hold_each.ensures (record { rows = c.hold_each.new.rows; period = c.in-Some.period; derived = c.in-Ok.derived }) refl refl c.in-Ok.ensures.derived

pub returns-in-Err-clause-fault : goal.returns-in-Err-clause-fault
returns-in-Err-clause-fault c =
    subst (λ f. IsPastLimit (opened c.args.of.now.query.now c.args.database.now c.args.of.now.domain c.args.of.now.cap) f) (sym c.of_step.ensures)
    (opened_cause (opened c.args.of.now.query.now c.args.database.now c.args.of.now.domain c.args.of.now.cap) c.in-Err.fault (λ e.
    large_cause c.args.of.now c.args.database.now c.args.relations c.requires c.in-Some.period.number c.in-Some.ensures c.mark_all.new.rows c.mark_all.ensures (c.is_above.ensures.within c.if-is_above.false) c.hold_each.new.rows c.in_ok-hold_each.ensures (c.in-Err.ensures.many (ap Err e))))
