-- A cell that is remembered is held whole.
use Rattle.lrp_systems.specs.Marks.{first_residue}
use Rattle.lrp_systems.proofs.WholeCells.{alone_in, marked_more}
use Rattle.lrp_systems.proofs.wholes.mark_whole.Goals as goal

pub returns-then-has : goal.returns-then-has
returns-then-has c =
    marked_more c.args.marks.now c.put.new.self c.args.out.now c.args.cell.now (first_residue c.args.cell.now) c.requires.marks (c.requires.wholes.each c.args.cell.now (c.has.ensures c.if-has.true)) (alone_in c.args.out.now c.args.cell.now c.requires.size (c.is_line.ensures c.if-is_line.true)) c.put.ensures
