-- Cell after cell, what is left of all tuples is held.
use Rattle.std.proofs.Common.{◌≡◌, ◌≤◌, length, ◌∙◌, arith}
use Rattle.lrp_systems.proofs.WholeCells.{wholes_none}
use Rattle.lrp_steps.proofs.TimePassed.{all_dropped, begun_without, cell_begun, cell_done, cell_skipped, dropping_none, next_cell_size, shorter_added, shorter_is, zone_columns, zone_reach}
use Rattle.lrp_steps.proofs.time_drops.without_time.Goals as goal

pub loop-cell-init : goal.loop-cell-init
loop-cell-init c =
    let begun = begun_without c.args.store.now c.new-out.result c.shape-shape.result c.period.result c.shape-shape.ensures.valid c.new-out.ensures c.shape-shape.ensures.value c.period.ensures in
    (dropping_none c.args.place c.args.store.now c.new-out.result c.shape-shape.ensures.valid c.requires.place begun c.into_iter-cell-iterator.result (c.into_iter-cell-iterator.ensures.into_iter_gives ∙ c.entries-cell-items.ensures.value), wholes_none c.new-wholes.result c.new-out.result c.new-wholes.ensures)

pub cell_without_time-rest-requires : goal.cell_without_time-rest-requires
cell_without_time-rest-requires c =
    let begun = begun_without c.args.store.now c.new-out.result c.shape-shape.result c.period.result c.shape-shape.ensures.valid c.new-out.ensures c.shape-shape.ensures.value c.period.ensures in
    let times : c.args.store.now.shape.times ≤ 8 = c.shape-shape.ensures.valid.times in
    record {
      size = next_cell_size c.args.place c.args.store.now c.new-out.result c.shape-shape.ensures.valid c.requires.place begun c.requires.reach c.loop-cell.out c.loop-cell.cell-iterator c.in-Some.cell c.in-Some.zones c.next.new.self c.in-Some.ensures.steps c.loop-cell.invariant.0;
      place = omega (arith, times, c.requires.place);
    }

pub loop-cell-preserved-then-has : goal.loop-cell-preserved-then-has
loop-cell-preserved-then-has c =
    let begun = begun_without c.args.store.now c.new-out.result c.shape-shape.result c.period.result c.shape-shape.ensures.valid c.new-out.ensures c.shape-shape.ensures.value c.period.ensures in (
      cell_skipped c.args.place c.args.store.now c.new-out.result c.shape-shape.ensures.valid c.requires.place begun c.requires.reach c.loop-cell.out c.loop-cell.cell-iterator c.in-Some.cell c.cell_without_time-rest.result c.in-Some.zones c.next.new.self c.in-Some.ensures.steps c.cell_without_time-rest.ensures (c.loop-cell.invariant.1.each c.cell_without_time-rest.result (c.has.ensures c.if-has.true)) c.loop-cell.invariant.0,
      c.loop-cell.invariant.1,
    )

pub loop-zone-init : goal.loop-zone-init
loop-zone-init c = (λ start begun d. d, c.loop-cell.invariant.1)

pub drop_column-shorter-requires : goal.drop_column-shorter-requires
drop_column-shorter-requires c =
    let begun = begun_without c.args.store.now c.new-out.result c.shape-shape.result c.period.result c.shape-shape.ensures.valid c.new-out.ensures c.shape-shape.ensures.value c.period.ensures in
    let d = c.loop-zone.invariant.0 c.new-out.result begun (cell_begun c.args.place c.args.store.now c.new-out.result c.shape-shape.ensures.valid c.requires.place begun c.requires.reach c.loop-cell.out c.loop-cell.cell-iterator c.in-Some.cell c.cell_without_time-rest.result c.in-Some.zones c.into_iter-zone-iterator.result c.next.new.self c.in-Some.ensures.steps c.into_iter-zone-iterator.ensures.into_iter_gives c.cell_without_time-rest.ensures c.loop-cell.invariant.0) in
    let columns : length c.in-Some-zone.zone.residues ≡ c.args.store.now.shape.times = zone_columns c.args.place c.args.store.now c.new-out.result c.shape-shape.ensures.valid c.requires.place begun c.requires.reach c.loop-zone.out c.cell_without_time-rest.result c.loop-zone.zone-iterator c.next-in-loop-zone.new.self c.next.new.self c.in-Some-zone.zone c.in-Some-zone.ensures.steps d in
    record {
      low = omega arith;
      high = omega (arith, columns, c.requires.place);
      reach = zone_reach c.args.place c.args.store.now c.new-out.result c.shape-shape.ensures.valid c.requires.place begun c.requires.reach c.loop-zone.out c.cell_without_time-rest.result c.loop-zone.zone-iterator c.next-in-loop-zone.new.self c.next.new.self c.in-Some-zone.zone c.in-Some-zone.ensures.steps d;
    }

pub add_zone-requires : goal.add_zone-requires
add_zone-requires c =
    let begun = begun_without c.args.store.now c.new-out.result c.shape-shape.result c.period.result c.shape-shape.ensures.valid c.new-out.ensures c.shape-shape.ensures.value c.period.ensures in
    let d = c.loop-zone.invariant.0 c.new-out.result begun (cell_begun c.args.place c.args.store.now c.new-out.result c.shape-shape.ensures.valid c.requires.place begun c.requires.reach c.loop-cell.out c.loop-cell.cell-iterator c.in-Some.cell c.cell_without_time-rest.result c.in-Some.zones c.into_iter-zone-iterator.result c.next.new.self c.in-Some.ensures.steps c.into_iter-zone-iterator.ensures.into_iter_gives c.cell_without_time-rest.ensures c.loop-cell.invariant.0) in
    let z = shorter_is c.args.place c.args.store.now c.new-out.result c.shape-shape.ensures.valid c.requires.place begun c.requires.reach c.loop-zone.out c.cell_without_time-rest.result c.loop-zone.zone-iterator c.next-in-loop-zone.new.self c.next.new.self c.in-Some-zone.zone c.in-Some-zone.ensures.steps d c.drop_column-shorter.result c.drop_column-shorter.ensures.valid c.drop_column-shorter.ensures.dropped in
    record { period = z.period; residues = z.residues; texts = z.texts; times = z.times; wholes = c.loop-zone.invariant.1 }

pub loop-zone-preserved : goal.loop-zone-preserved
loop-zone-preserved c = (
  λ start begun d. shorter_added c.args.place c.args.store.now start c.shape-shape.ensures.valid c.requires.place begun c.requires.reach c.loop-zone.out c.cell_without_time-rest.result c.loop-zone.zone-iterator c.next-in-loop-zone.new.self c.next.new.self c.in-Some-zone.zone c.in-Some-zone.ensures.steps (c.loop-zone.invariant.0 start begun d) c.drop_column-shorter.result c.drop_column-shorter.ensures.valid c.drop_column-shorter.ensures.dropped c.add_zone.new.out c.in_ok-add_zone.ensures.ok,
  c.in_ok-add_zone.ensures.wholes,
)

pub loop-cell-preserved : goal.loop-cell-preserved
loop-cell-preserved c =
    let begun = begun_without c.args.store.now c.new-out.result c.shape-shape.result c.period.result c.shape-shape.ensures.valid c.new-out.ensures c.shape-shape.ensures.value c.period.ensures in (
      cell_done c.args.place c.args.store.now c.new-out.result c.shape-shape.ensures.valid c.requires.place begun c.requires.reach c.loop-zone.out c.cell_without_time-rest.result c.loop-zone.zone-iterator c.next.new.self c.in-None-zone.ensures.steps.0 (c.loop-zone.invariant.0 c.new-out.result begun (cell_begun c.args.place c.args.store.now c.new-out.result c.shape-shape.ensures.valid c.requires.place begun c.requires.reach c.loop-cell.out c.loop-cell.cell-iterator c.in-Some.cell c.cell_without_time-rest.result c.in-Some.zones c.into_iter-zone-iterator.result c.next.new.self c.in-Some.ensures.steps c.into_iter-zone-iterator.ensures.into_iter_gives c.cell_without_time-rest.ensures c.loop-cell.invariant.0)),
      c.loop-zone.invariant.1,
    )

pub returns-clause-made : goal.returns-clause-made
returns-clause-made c = all_dropped c.args.place c.args.store.now c.new-out.result c.shape-shape.ensures.valid c.requires.place (begun_without c.args.store.now c.new-out.result c.shape-shape.result c.period.result c.shape-shape.ensures.valid c.new-out.ensures c.shape-shape.ensures.value c.period.ensures) c.requires.reach c.loop-cell.out c.loop-cell.cell-iterator c.in-None.ensures.steps.0 c.loop-cell.invariant.0
