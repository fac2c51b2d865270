-- The cells of one zone more are counted.
use Rattle.std.proofs.Common.{ap, arith, refl, sym, subst, ◌∙◌}
use Rattle.lrp_tables.specs.Pieces.{pieces_from, pieces_of}
use Rattle.lrp_tables.proofs.Pieced.{all_are, cell_given, one_given}
use Rattle.lrp_periods.proofs.WindowLaws.{IsCounting, counting_done, counting_more, counting_none, few_at}
use Rattle.lrp_periods.proofs.bounding.cells_by_zones.Goals as goal

pub loop-cell-init : goal.loop-cell-init
loop-cell-init c = record {
  within = omega arith;
  counting = counting_none (all_are c.args.table.now.store c.entries-cell-items.ensures.valid c.into_iter-cell-iterator.result (c.into_iter-cell-iterator.ensures.into_iter_gives ∙ c.entries-cell-items.ensures.value)) refl;
}

pub loop-zone-init : goal.loop-zone-init
loop-zone-init c = record {
  within = c.loop-cell.invariant.within;
  counting = (
    c.in-Some._cell,
    subst (IsCounting c.args.table.now.store c.args.period c.loop-cell.total)
        (cell_given c.in-Some._cell c.in-Some.zones c.next.new.self c.loop-cell._cell-iterator c.in-Some.ensures.steps ∙ ap (λ zones. pieces_from c.in-Some._cell zones c.next.new.self) (sym c.into_iter-zone-iterator.ensures.into_iter_gives))
        c.loop-cell.invariant.counting,
  );
}

pub loop-zone-preserved : goal.loop-zone-preserved
loop-zone-preserved c = record {
  within = (let w = c.loop-zone.invariant.within in let m = c.in-Some-cells_of_zone.ensures.within in omega (arith, w, m));
  counting = (
    c.loop-zone.invariant.counting.0,
    counting_more c.args.table.now.store c.ways_of-ways.result c.args.period c.loop-zone.total c.in-Some-cells_of_zone.more _ c.shape.ensures.valid c.ways_of-ways.ensures.some c.ways_of-ways.ensures.value
        (one_given c.loop-zone.invariant.counting.0 c.in-Some-zone.zone c.next-in-loop-zone.new.self c.loop-zone.zone-iterator c.next.new.self c.in-Some-zone.ensures.steps)
        c.cells_of_zone.ensures.valid c.in-Some-cells_of_zone.ensures.ways refl c.loop-zone.invariant.counting.1,
  );
}

pub loop-cell-preserved : goal.loop-cell-preserved
loop-cell-preserved c = record {
  within = c.loop-zone.invariant.within;
  counting = subst (λ zones. IsCounting c.args.table.now.store c.args.period c.loop-zone.total (pieces_from c.loop-zone.invariant.counting.0 zones c.next.new.self)) c.in-None-zone.ensures.steps.0 c.loop-zone.invariant.counting.1;
}

pub returns-clause-within : goal.returns-clause-within
returns-clause-within c = c.loop-cell.invariant.within

pub returns-clause-few : goal.returns-clause-few
returns-clause-few c = few_at c.args.table.now c.shape.ensures.valid c.ways_of-ways.result c.args.period c.loop-cell.total c.ways_of-ways.ensures.some c.ways_of-ways.ensures.value (counting_done (ap pieces_of c.in-None.ensures.steps.0) c.loop-cell.invariant.counting)
