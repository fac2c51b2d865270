-- A cell is taken out at its place.
use Rattle.std.proofs.Common.{sym, subst}
use Rattle.lrp_slots.specs.Lines.{StandsInLine}
use Rattle.lrp_slots.specs.Keys.{entries_by}
use Rattle.lrp_slots.proofs.Lines.{none_taken}
use Rattle.lrp_slots.proofs.Keyed.{found_removed, removed_line, not_in_line}
use Rattle.lrp_slots.proofs.line.Line.remove.Goals as goal

pub invariant_of-self : goal.invariant_of-self
invariant_of-self g c = removed_line g.K.Key.cell_of c.self.inside.entries.items c.args.self.now c.args.cell.now c.in-Some.place c.remove.new.self.items (record { line = c.self.invariant; view = c.self.view_is; stands = subst (λ es. StandsInLine (entries_by g.K.Key.cell_of es) c.args.cell.now c.in-Some.place) c.deref.ensures.value c.in-Some.ensures.some }) c.remove.ensures.items

pub returns-in-Some : goal.returns-in-Some
returns-in-Some g c = found_removed g.K.Key.cell_of c.self.inside.entries.items c.args.self.now c.args.cell.now c.in-Some.place c.remove.new.self.items (record { line = c.self.invariant; view = c.self.view_is; stands = subst (λ es. StandsInLine (entries_by g.K.Key.cell_of es) c.args.cell.now c.in-Some.place) c.deref.ensures.value c.in-Some.ensures.some }) c.remove.ensures.items

pub returns-in_default : goal.returns-in_default
returns-in_default g c = sym (none_taken c.args.self.now c.args.cell.now (not_in_line g.K.Key.cell_of c.self.inside.entries.items c.deref.result.now c.args.self.now c.args.cell.now c.deref.ensures.value c.self.view_is c.in_default.ensures.none))
