-- A cell after all others goes to the end.
use Rattle.lrp_slots.proofs.Keyed.{pushed_line}
use Rattle.lrp_slots.proofs.line.Line.push.Goals as goal

pub invariant_of-self-2 : goal.invariant_of-self-2
invariant_of-self-2 g c = pushed_line g.K.Key.cell_of c.self.inside.entries.items c.args.self.now c.args.key c.args.chain c.push.new.self.items c.self.invariant c.self.view_is c.requires c.in_ok-push.ensures.items
