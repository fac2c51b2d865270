-- A row is held, and what it makes is derived; a refusal lets it go.
use Rattle.std.proofs.Common.{◌≡◌, ◌<◌, ◌-◌, length, Err, refl, sym, ap, subst, arith}
use Rattle.lrp_limits.specs.declared.periods.Period.{Period}
use Rattle.lrp_kept.specs.declared.rows.HeldRelation.{HeldRelation}
use Rattle.lrp_kept.specs.declared.rows.HeldRows.{HeldRows}
use Rattle.lrp_kept.proofs.Relisted.{if_err}
use Rattle.lrp_keep.specs.States.{IsHoldingCause}
use Rattle.lrp_keep.proofs.Adding.{above_cause, can_now, can_sketch, derived_without, keeper_after, large_cause, last_now, last_place, limits_after, low_new, still_state, view_after}
use Rattle.lrp_keep.proofs.Standing.{step_cause, still_rows, still_self}
use Rattle.lrp_keep.proofs.states.State.add_within.Goals as goal
use Rattle.lrp_plan_laws.proofs.Elements.{within}
use Rattle.lrp_steps.proofs.Steps.{mapped_get}

pub returns-then-is_above-clause-fault : goal.returns-then-is_above-clause-fault
returns-then-is_above-clause-fault c = above_cause c.args.of.now c.args.self.now c.requires.keeping c.args.relation c.args.row.now c.args.period.number c.requires.row c.args.period.low c.args.period.high (c.is_above.ensures.above c.if-is_above.true)

pub returns-then-is_above-clause-same : goal.returns-then-is_above-clause-same
returns-then-is_above-clause-same c = still_self c.args.of.now c.args.self.now c.args.relation c.requires.keeping.state

pub source-requires : goal.source-requires
source-requires c = can_sketch c.args.of.now c.args.self.now c.requires.keeping c.args.relation c.args.row.now c.args.period.number c.requires.row c.args.period.low c.args.period.high (c.is_above.ensures.within c.if-is_above.false)

pub hold-requires : goal.hold-requires
hold-requires c =
    let l : c.args.relation < length c.args.self.now.rows.relations.items = within c.args.self.now.rows.relations.items c.args.relation c.requires.row.held c.requires.row.at in
    omega (arith, l, c.in_ok-source.ensures.relation)

pub derive-requires-clause-can : goal.derive-requires-clause-can
derive-requires-clause-can c = can_now c.args.of.now c.args.self.now c.requires.keeping c.args.relation c.args.row.now c.args.period.number c.requires.row c.args.period.low c.args.period.high (c.is_above.ensures.within c.if-is_above.false) c.hold.new.self c.in_ok-key.key c.in_ok-source.source c.in_ok-source.ensures.relation c.in_ok-source.ensures.row c.in_ok-source.ensures.sketches c.in_ok-key.ensures.held

pub derive-requires-clause-last : goal.derive-requires-clause-last
derive-requires-clause-last c = last_now c.args.of.now c.args.self.now c.requires.keeping c.args.relation c.args.row.now c.args.period.number c.requires.row c.args.period.low c.args.period.high (c.is_above.ensures.within c.if-is_above.false) c.hold.new.self c.in_ok-key.key c.in_ok-source.source c.in_ok-source.ensures.relation c.in_ok-source.ensures.row c.in_ok-source.ensures.sketches c.in_ok-key.ensures.held c.args.period.number

pub derive-requires-clause-old : goal.derive-requires-clause-old
derive-requires-clause-old c = derived_without c.args.of.now c.args.self.now c.requires.keeping c.args.relation c.args.row.now c.args.period.number c.requires.row c.args.period.low c.args.period.high (c.is_above.ensures.within c.if-is_above.false) c.hold.new.self c.in_ok-key.key c.in_ok-source.source c.in_ok-source.ensures.relation c.in_ok-source.ensures.row c.in_ok-source.ensures.sketches c.in_ok-key.ensures.held

pub index-requires : goal.index-requires
index-requires c =
    let l = low_new c.args.of.now c.args.self.now c.requires.keeping c.args.relation c.args.row.now c.args.period.number c.requires.row c.args.period.low c.args.period.high (c.is_above.ensures.within c.if-is_above.false) c.hold.new.self c.in_ok-key.key c.in_ok-source.source c.in_ok-source.ensures.relation c.in_ok-source.ensures.row c.in_ok-source.ensures.sketches c.in_ok-key.ensures.held in
    let e : length c.derive.new.self.rows.relations.items ≡ length c.hold.new.self.relations.items = ap (λ (r : HeldRows). length r.relations.items) c.derive.ensures.rows in
    omega (arith, l, e, c.derive.new.self.rows.relations.ok.0)

pub overflow_sub-last : goal.overflow_sub-last
overflow_sub-last c =
    let e : c.len-last.result ≡ length c.index.result.now.keys.items = omega (arith, c.len-last.ensures, c.index.result.now.keys.ok.0) in
    (last_place c.args.of.now c.args.self.now c.requires.keeping c.args.relation c.args.row.now c.args.period.number c.requires.row c.args.period.low c.args.period.high (c.is_above.ensures.within c.if-is_above.false) c.hold.new.self c.in_ok-key.key c.in_ok-source.source c.in_ok-source.ensures.relation c.in_ok-source.ensures.row c.in_ok-source.ensures.sketches c.in_ok-key.ensures.held c.derive.new.self.rows c.derive.ensures.rows c.index.result.now c.index.ensures c.len-last.result e).0

pub let_go-requires-clause-relation : goal.let_go-requires-clause-relation
let_go-requires-clause-relation c =
    let l = low_new c.args.of.now c.args.self.now c.requires.keeping c.args.relation c.args.row.now c.args.period.number c.requires.row c.args.period.low c.args.period.high (c.is_above.ensures.within c.if-is_above.false) c.hold.new.self c.in_ok-key.key c.in_ok-source.source c.in_ok-source.ensures.relation c.in_ok-source.ensures.row c.in_ok-source.ensures.sketches c.in_ok-key.ensures.held in
    let e : length c.derive.new.self.rows.relations.items ≡ length c.hold.new.self.relations.items = ap (λ (r : HeldRows). length r.relations.items) c.derive.ensures.rows in
    omega (arith, l, e)

pub let_go-requires-clause-place : goal.let_go-requires-clause-place
let_go-requires-clause-place c =
    let e : c.len-last.result ≡ length c.index.result.now.keys.items = omega (arith, c.len-last.ensures, c.index.result.now.keys.ok.0) in
    (last_place c.args.of.now c.args.self.now c.requires.keeping c.args.relation c.args.row.now c.args.period.number c.requires.row c.args.period.low c.args.period.high (c.is_above.ensures.within c.if-is_above.false) c.hold.new.self c.in_ok-key.key c.in_ok-source.source c.in_ok-source.ensures.relation c.in_ok-source.ensures.row c.in_ok-source.ensures.sketches c.in_ok-key.ensures.held c.derive.new.self.rows c.derive.ensures.rows c.index.result.now c.index.ensures c.len-last.result e).1

pub returns-in-Ok-clause-keeper : goal.returns-in-Ok-clause-keeper
returns-in-Ok-clause-keeper c = keeper_after c.args.of.now c.args.self.now c.requires.keeping c.args.relation c.args.row.now c.args.period.number c.requires.row c.args.period.low c.args.period.high (c.is_above.ensures.within c.if-is_above.false) c.hold.new.self c.in_ok-key.key c.in_ok-source.source c.in_ok-source.ensures.relation c.in_ok-source.ensures.row c.in_ok-source.ensures.sketches c.in_ok-key.ensures.held c.requires.row.held.name (mapped_get (λ (r : HeldRelation). r.name) c.args.self.now.rows.relations.items c.args.relation c.requires.row.held c.requires.row.at) c.derive.new.self c.derive.ensures.rows (ap (λ (p : Period). p.number) c.in-Ok.ensures.period) c.in-Ok.ensures.derived

pub returns-in-Ok-clause-view : goal.returns-in-Ok-clause-view
returns-in-Ok-clause-view c = record { is = λ name e. view_after c.args.of.now c.args.self.now c.requires.keeping c.args.relation c.args.row.now c.args.period.number c.requires.row c.args.period.low c.args.period.high (c.is_above.ensures.within c.if-is_above.false) c.hold.new.self c.in_ok-key.key c.in_ok-source.source c.in_ok-source.ensures.relation c.in_ok-source.ensures.row c.in_ok-source.ensures.sketches c.in_ok-key.ensures.held name e c.derive.new.self c.derive.ensures.rows (ap (λ (p : Period). p.number) c.in-Ok.ensures.period) c.in-Ok.ensures.derived }

pub returns-in-Ok-clause-limits : goal.returns-in-Ok-clause-limits
returns-in-Ok-clause-limits c = limits_after c.args.of.now c.args.self.now c.requires.keeping c.args.relation c.args.row.now c.args.period.number c.requires.row c.args.period.low c.args.period.high (c.is_above.ensures.within c.if-is_above.false) c.hold.new.self c.in_ok-key.key c.in_ok-source.source c.in_ok-source.ensures.relation c.in_ok-source.ensures.row c.in_ok-source.ensures.sketches c.in_ok-key.ensures.held c.requires.row.held.name (mapped_get (λ (r : HeldRelation). r.name) c.args.self.now.rows.relations.items c.args.relation c.requires.row.held c.requires.row.at) c.derive.new.self c.derive.ensures.rows (ap (λ (p : Period). p.number) c.in-Ok.ensures.period) c.in-Ok.ensures.derived

pub returns-in_err-source-clause-same : goal.returns-in_err-source-clause-same
returns-in_err-source-clause-same c = if_err c.from_residual.result (still_self c.args.of.now c.args.self.now c.args.relation c.requires.keeping.state)

pub returns-in_err-key-clause-same : goal.returns-in_err-key-clause-same
returns-in_err-key-clause-same c = if_err c.from_residual-in_err-key.result (still_rows c.args.of.now c.args.self.now _ c.requires.keeping.state c.in_err-key.ensures.same refl refl)

pub returns-in-Err-clause-fault : goal.returns-in-Err-clause-fault
returns-in-Err-clause-fault c =
    subst (λ f. IsHoldingCause c.args.of.now c.args.self.now c.args.relation c.args.row.now c.args.period.number f) (sym c.of_step.ensures)
    (step_cause c.args.of.now c.args.self.now c.args.relation c.args.row.now c.args.period.number c.in-Err.fault (λ e.
    large_cause c.args.of.now c.args.self.now c.requires.keeping c.args.relation c.args.row.now c.args.period.number c.requires.row c.args.period.low c.args.period.high (c.is_above.ensures.within c.if-is_above.false) c.hold.new.self c.in_ok-key.key c.in_ok-source.source c.in_ok-source.ensures.relation c.in_ok-source.ensures.row c.in_ok-source.ensures.sketches c.in_ok-key.ensures.held (c.in-Err.ensures.many (ap Err e))))

pub returns-in-Err-clause-same : goal.returns-in-Err-clause-same
returns-in-Err-clause-same c =
    let e : c.len-last.result ≡ length c.index.result.now.keys.items = omega (arith, c.len-last.ensures, c.index.result.now.keys.ok.0) in
    still_state c.args.of.now c.args.self.now c.requires.keeping c.args.relation c.args.row.now c.args.period.number c.requires.row c.args.period.low c.args.period.high (c.is_above.ensures.within c.if-is_above.false) c.hold.new.self c.in_ok-key.key c.in_ok-source.source c.in_ok-source.ensures.relation c.in_ok-source.ensures.row c.in_ok-source.ensures.sketches c.in_ok-key.ensures.held c.derive.new.self c.let_go.new.self c.derive.ensures.rows c.in-Err.ensures.undone.period c.in-Err.ensures.undone.derived (c.len-last.result - 1) (last_place c.args.of.now c.args.self.now c.requires.keeping c.args.relation c.args.row.now c.args.period.number c.requires.row c.args.period.low c.args.period.high (c.is_above.ensures.within c.if-is_above.false) c.hold.new.self c.in_ok-key.key c.in_ok-source.source c.in_ok-source.ensures.relation c.in_ok-source.ensures.row c.in_ok-source.ensures.sketches c.in_ok-key.ensures.held c.derive.new.self.rows c.derive.ensures.rows c.index.result.now c.index.ensures c.len-last.result e).2 c.let_go.ensures
