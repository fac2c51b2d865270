-- Zone after zone, no tuple of the cell is before what was found.
use Rattle.std.proofs.Common.{◌⊎◌, take, Contains, subst}
use Rattle.lrp_zone.specs.Zones.{columns_of}
use Rattle.lrp_store.specs.Least.{IsNearestTo, IsNotAfter}
use Rattle.lrp_store.specs.Stores.{zone_of}
use Rattle.lrp_store.proofs.Aligning.{head_in, tail_in}
use Rattle.lrp_store.proofs.Held.{cell_held}
use Rattle.lrp_store.proofs.StoreFirst.{found_more, kept_more, here_more, after_more, cell_done}
use Rattle.lrp_store.proofs.store.Store.first_of_cell.Goals as goal

pub may_be_nearer-requires-clause-proper : goal.may_be_nearer-requires-clause-proper
may_be_nearer-requires-clause-proper c = cell_held c.args.self.now c.requires.valid c.args.cell.now c.in-Some.bounds.now (c.loop-bounds.invariant.within c.in-Some.bounds.now (head_in c.in-Some.bounds.now c.next.new.self c.loop-bounds.bounds-iterator c.in-Some.ensures.steps))

pub nearest_in-requires-clause-held : goal.nearest_in-requires-clause-held
nearest_in-requires-clause-held c = (c.loop-bounds.invariant.within c.in-Some.bounds.now (head_in c.in-Some.bounds.now c.next.new.self c.loop-bounds.bounds-iterator c.in-Some.ensures.steps))

pub nearest_in-requires-clause-room : goal.nearest_in-requires-clause-room
nearest_in-requires-clause-room c = c.requires.room.each c.args.cell.now c.in-Some.bounds.now (c.loop-bounds.invariant.within c.in-Some.bounds.now (head_in c.in-Some.bounds.now c.next.new.self c.loop-bounds.bounds-iterator c.in-Some.ensures.steps))

pub loop-bounds-preserved : goal.loop-bounds-preserved
loop-bounds-preserved c =
    let held = (c.loop-bounds.invariant.within c.in-Some.bounds.now (head_in c.in-Some.bounds.now c.next.new.self c.loop-bounds.bounds-iterator c.in-Some.ensures.steps)) in
    let near : IsNearestTo (zone_of c.args.self.now c.args.cell.now c.in-Some.bounds.now) (columns_of (zone_of c.args.self.now c.args.cell.now c.in-Some.bounds.now)) c.nearest_in.result = c.nearest_in.ensures in
    record {
      within = λ u h. c.loop-bounds.invariant.within u (tail_in c.in-Some.bounds.now c.next.new.self c.loop-bounds.bounds-iterator c.in-Some.ensures.steps u h);
      found = found_more c.args.self.now c.requires.valid c.args.cell.now c.in-Some.bounds.now held c.nearest_in.result near c.loop-bounds.found c.loop-bounds.invariant.found c.nearer.result c.nearer.ensures.one c.nearer.ensures.found c.nearer.ensures.spot;
      kept = λ xs ns h. kept_more c.args.self.now c.requires.valid c.args.cell.now c.in-Some.bounds.now held c.nearest_in.result near c.loop-bounds.found c.loop-bounds.invariant.found c.nearer.result c.nearer.ensures.one c.nearer.ensures.found c.nearer.ensures.spot xs ns (c.loop-bounds.invariant.kept xs ns h);
      after = after_more c.args.self.now c.requires.valid c.args.cell.now c.in-Some.bounds.now c.next.new.self c.loop-bounds.bounds-iterator c.in-Some.ensures.steps c.loop-bounds.found c.nearer.result
          (kept_more c.args.self.now c.requires.valid c.args.cell.now c.in-Some.bounds.now held c.nearest_in.result near c.loop-bounds.found c.loop-bounds.invariant.found c.nearer.result c.nearer.ensures.one c.nearer.ensures.found c.nearer.ensures.spot)
          (here_more c.args.self.now c.requires.valid c.args.cell.now c.in-Some.bounds.now held c.nearest_in.result near c.loop-bounds.found c.loop-bounds.invariant.found c.nearer.result c.nearer.ensures.one c.nearer.ensures.found c.nearer.ensures.spot)
          c.loop-bounds.invariant.after;
    }

pub returns-clause-cell : goal.returns-clause-cell
returns-clause-cell c = cell_done c.args.self.now c.requires.valid c.args.cell.now c.loop-bounds.found (λ t xs h m. subst (λ l. IsNotAfter c.args.self.now c.loop-bounds.found xs (take c.args.self.now.shape.texts c.args.cell.now.texts) ⊎ Contains l t) c.in-None.ensures.steps.0 (c.loop-bounds.invariant.after t xs h m))
