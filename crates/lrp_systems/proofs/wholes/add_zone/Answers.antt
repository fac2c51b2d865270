-- What is held stays so, and a zone without bounds brings all of its cell.
use Rattle.lrp_zone.specs.Zones.{greatest_of}
use Rattle.lrp_systems.proofs.WholeCells.{wholes_kept, free_held, wholes_more}
use Rattle.lrp_systems.proofs.wholes.add_zone.Goals as goal

pub returns-then-is_free : goal.returns-then-is_free
returns-then-is_free c = record {
  ok = c.in-Ok.ensures.ok;
  wholes = wholes_more c.args.wholes.now c.put.new.self c.put_new.new.self c.args.cell.now (wholes_kept _ 4294967295 (greatest_of c.args.zone.now.bounds) c.args.out.now c.put_new.new.self c.in-Ok.ensures.ok.grown c.args.wholes.now c.requires.wholes)
      (free_held 4294967295 (greatest_of c.args.zone.now.bounds) c.args.out.now c.put_new.new.self c.args.cell.now c.args.zone.now c.requires.period c.requires.residues (c.is_free.ensures c.if-is_free.true) c.in-Ok.ensures.ok)
      c.put.ensures;
  kept = tt;
}

pub returns-else-is_free : goal.returns-else-is_free
returns-else-is_free c = record {
  ok = c.in-Ok.ensures.ok;
  wholes = wholes_kept _ 4294967295 (greatest_of c.args.zone.now.bounds) c.args.out.now c.put_new.new.self c.in-Ok.ensures.ok.grown c.args.wholes.now c.requires.wholes;
  kept = tt;
}
