-- A row is added: the number beside its relation is raised, and put back where the row is refused.
use Rattle.std.proofs.Common.{◌≡◌, ◌<◌, ℕ, List, Some, length, get_or, max, refl, sym, ap, subst, ◌∙◌, arith}
use Rattle.std.specs.Prelude.{slice_get}
use Rattle.lrp_kept.specs.Limits.{row_bound}
use Rattle.lrp_kept.specs.declared.rows.HeldRelation.{HeldRelation}
use Rattle.lrp_keep.specs.States.{IsRelationMarked}
use Rattle.lrp_keep.proofs.Lists.{read_at}
use Rattle.lrp_keep.proofs.Raising.{added_cause, added_view, can_be_held, keeper_back, keeping_raised, period_cause, view_back}
use Rattle.lrp_keep.proofs.Readable.{low_periods}
use Rattle.lrp_keep.proofs.states.State.add.Goals as goal
use Rattle.lrp_holdings.proofs.Chained.{some_is}
use Rattle.lrp_plan_laws.proofs.Elements.{within}

-- what is read at the relation's place is the relation
held_is : (items : List HeldRelation) (i : ℕ) (x h : HeldRelation) → slice_get items i ≡ Some h → x ≡ get_or items i x → x ≡ h
held_is items i x h at is = some_is x h (sym (read_at items i x (within items i h at) is) ∙ at)

raised_to : (items : List HeldRelation) (i : ℕ) (x h : HeldRelation) (bound most : ℕ) → slice_get items i ≡ Some h → x ≡ get_or items i x → most ≡ max bound x.most → most ≡ max bound h.most
raised_to items i x h bound most at is e = e ∙ ap (λ (r : HeldRelation). max bound r.most) (held_is items i x h at is)

pub raised_period-requires : goal.raised_period-requires
raised_period-requires c = low_periods c.args.of.now.domain c.requires.row.held.columns c.args.row.now.values c.requires.row.row_fits.values

pub returns-in_default-clause-fault : goal.returns-in_default-clause-fault
returns-in_default-clause-fault c = period_cause c.args.of.now c.args.self.now c.args.relation c.args.row.now c.requires.keeper c.in_default.ensures

pub index-requires : goal.index-requires
index-requires c =
    let l : c.args.relation < length c.args.self.now.rows.relations.items = within c.args.self.now.rows.relations.items c.args.relation c.requires.row.held c.requires.row.at in
    omega (arith, l, c.args.self.now.rows.relations.ok.0)

pub mark-requires : goal.mark-requires
mark-requires c = within c.args.self.now.rows.relations.items c.args.relation c.requires.row.held c.requires.row.at

pub add_within-requires-clause-keeping : goal.add_within-requires-clause-keeping
add_within-requires-clause-keeping c =
    keeping_raised c.args.of.now c.args.self.now c.requires.keeper c.args.relation c.args.row.now c.requires.row _ c.with_bounds.result
    (raised_to c.args.self.now.rows.relations.items c.args.relation c.index.result.now c.requires.row.held (row_bound c.args.row.now) c.with_bounds.result c.requires.row.at c.index.ensures c.with_bounds.ensures) c.mark.ensures refl refl

pub add_within-requires-clause-row : goal.add_within-requires-clause-row
add_within-requires-clause-row c =
    can_be_held c.args.of.now c.args.self.now c.requires.keeper c.args.relation c.args.row.now c.requires.row _ c.with_bounds.result
    (raised_to c.args.self.now.rows.relations.items c.args.relation c.index.result.now c.requires.row.held (row_bound c.args.row.now) c.with_bounds.result c.requires.row.at c.index.ensures c.with_bounds.ensures) c.mark.ensures refl refl
    c.in-Some.period.number c.in-Some.ensures (low_periods c.args.of.now.domain c.requires.row.held.columns c.args.row.now.values c.requires.row.row_fits.values)

pub mark-requires-in-Err : goal.mark-requires-in-Err
mark-requires-in-Err c =
    let l : c.args.relation < length c.args.self.now.rows.relations.items = within c.args.self.now.rows.relations.items c.args.relation c.requires.row.held c.requires.row.at in
    omega (arith, l, c.mark.ensures.count, c.in-Err.ensures.same.rows.listed.count)

pub returns-in-Ok-clause-view : goal.returns-in-Ok-clause-view
returns-in-Ok-clause-view c =
    added_view c.args.of.now c.args.self.now c.requires.keeper c.args.relation c.args.row.now c.requires.row _ c.with_bounds.result
    (raised_to c.args.self.now.rows.relations.items c.args.relation c.index.result.now c.requires.row.held (row_bound c.args.row.now) c.with_bounds.result c.requires.row.at c.index.ensures c.with_bounds.ensures) c.mark.ensures refl refl
    c.in-Some.period.number c.in-Some.ensures (low_periods c.args.of.now.domain c.requires.row.held.columns c.args.row.now.values c.requires.row.row_fits.values) c.add_within.new.self c.in-Ok.ensures.view

pub returns-in-Err-clause-fault : goal.returns-in-Err-clause-fault
returns-in-Err-clause-fault c =
    added_cause c.args.of.now c.args.self.now c.requires.keeper c.args.relation c.args.row.now c.requires.row _ c.with_bounds.result
    (raised_to c.args.self.now.rows.relations.items c.args.relation c.index.result.now c.requires.row.held (row_bound c.args.row.now) c.with_bounds.result c.requires.row.at c.index.ensures c.with_bounds.ensures) c.mark.ensures refl refl
    c.in-Some.period.number c.in-Some.ensures (low_periods c.args.of.now.domain c.requires.row.held.columns c.args.row.now.values c.requires.row.row_fits.values) c.in-Err.fault c.in-Err.ensures.fault

pub returns-in-Err-clause-keeper : goal.returns-in-Err-clause-keeper
returns-in-Err-clause-keeper c =
    keeper_back c.args.of.now c.args.self.now c.requires.keeper c.args.relation c.args.row.now c.requires.row _ c.with_bounds.result
    (raised_to c.args.self.now.rows.relations.items c.args.relation c.index.result.now c.requires.row.held (row_bound c.args.row.now) c.with_bounds.result c.requires.row.at c.index.ensures c.with_bounds.ensures) c.mark.ensures refl refl
    c.in-Some.period.number c.in-Some.ensures (low_periods c.args.of.now.domain c.requires.row.held.columns c.args.row.now.values c.requires.row.row_fits.values) c.add_within.new.self _ c.in-Err.ensures.same
    (subst (λ (r : HeldRelation). IsRelationMarked c.args.relation r.most c.add_within.new.self.rows c.mark-in-Err.new.rows) (held_is c.args.self.now.rows.relations.items c.args.relation c.index.result.now c.requires.row.held c.requires.row.at c.index.ensures) c.mark-in-Err.ensures) refl refl

pub returns-in-Err-clause-same : goal.returns-in-Err-clause-same
returns-in-Err-clause-same c =
    view_back c.args.of.now c.args.self.now c.requires.keeper c.args.relation c.args.row.now c.requires.row (record { rows = c.mark.new.rows; period = c.args.self.now.period; derived = c.args.self.now.derived }) c.with_bounds.result
    (raised_to c.args.self.now.rows.relations.items c.args.relation c.index.result.now c.requires.row.held (row_bound c.args.row.now) c.with_bounds.result c.requires.row.at c.index.ensures c.with_bounds.ensures) c.mark.ensures refl refl
    c.in-Some.period.number c.in-Some.ensures (low_periods c.args.of.now.domain c.requires.row.held.columns c.args.row.now.values c.requires.row.row_fits.values) c.add_within.new.self
    (record { rows = c.mark-in-Err.new.rows; period = c.add_within.new.self.period; derived = c.add_within.new.self.derived }) c.in-Err.ensures.same
    (subst (λ (r : HeldRelation). IsRelationMarked c.args.relation r.most c.add_within.new.self.rows c.mark-in-Err.new.rows) (held_is c.args.self.now.rows.relations.items c.args.relation c.index.result.now c.requires.row.held c.requires.row.at c.index.ensures) c.mark-in-Err.ensures) refl refl
