-- A key is put in at its gap.
use Rattle.lrp_slots.proofs.Keyed.{key_put_line, key_put_view}
use Rattle.lrp_slots.proofs.line.Line.insert_at.Goals as goal

pub invariant_of-self-2 : goal.invariant_of-self-2
invariant_of-self-2 g c = key_put_line g.K.Key.cell_of c.self.inside.entries.items c.args.self.now c.args.key c.args.chain c.args.place c.insert.new.self.items c.self.invariant c.self.view_is c.requires c.in_ok-insert.ensures.items

pub returns-clause-put : goal.returns-clause-put
returns-clause-put g c = λ _. key_put_view g.K.Key.cell_of c.self.inside.entries.items c.args.self.now c.args.key c.args.chain c.args.place c.insert.new.self.items c.self.view_is c.requires c.in_ok-insert.ensures.items
