-- One more column is chosen; at the end no more cells are inhabited.
use Rattle.std.proofs.Common.{◌≡◌, ◌*◌, ◌^◌, sym, ap, subst, ◌∙◌, arith}
use Rattle.std.specs.FinMap as finite
use Rattle.lrp_tables.specs.Caps.{InhabitsMoreThan}
use Rattle.lrp_tables.specs.Tables.{HasAssignment}
use Rattle.lrp_periods.proofs.WayLaws.{few_of_table, none_more, one_more}
use Rattle.lrp_periods.proofs.bounding.cells_by_cells.Goals as goal

pub loop-turn-init : goal.loop-turn-init
loop-turn-init c = c.len-bound.ensures ∙ none_more (finite.len c.args.table.now.store.tables) c.ways_of-ways.result

pub loop-turn-preserved : goal.loop-turn-preserved
loop-turn-preserved c = one_more (finite.len c.args.table.now.store.tables) c.ways_of-ways.result c.loop-turn.turn c.loop-turn.bound _ c.loop-turn.invariant c.in-Some.ensures.0

pub returns-then-bound-cap-clause-few : goal.returns-then-bound-cap-clause-few
returns-then-bound-cap-clause-few c = λ domain ascends numbered m.
    let t : c.loop-turn.turn ≡ c.args.table.now.store.shape.times = (let v = ap (λ s. s.times) c.shape-shape.ensures.value in omega (arith, v, c.loop-turn-test.false, c.loop-turn.auto.turn-end)) in
    few_of_table domain ascends c.args.table.now c.shape-shape.ensures.valid numbered c.ways_of-ways.result c.loop-turn.bound c.ways_of-ways.ensures.some
    (let e = c.loop-turn.invariant ∙ ap (λ i. finite.len c.args.table.now.store.tables * c.ways_of-ways.result ^ i) t in omega (arith, e, c.if-bound-cap.true))
    (subst (λ k. InhabitsMoreThan c.loop-turn.bound domain k c.args.table.now.vars.times c.args.table.now.vars.texts (HasAssignment c.args.table.now domain)) (sym c.ways_of-ways.ensures.value) m)
