-- A cell has another chain at its place.
use Rattle.std.proofs.Common.{sym, subst, ◌∙◌}
use Rattle.lrp_slots.specs.Lines.{StandsInLine}
use Rattle.lrp_slots.specs.Keys.{entries_by}
use Rattle.lrp_slots.proofs.Keyed.{IsFound, found_chain, found_replaced, not_in_line, replaced_line}
use Rattle.lrp_slots.proofs.line.Line.replace.Goals as goal

pub returns-in_err-place-clause-held : goal.returns-in_err-place-clause-held
returns-in_err-place-clause-held g c = c.from_residual.ensures ∙ sym (not_in_line g.K.Key.cell_of c.self.inside.entries.items c.deref.result.now c.args.self.now c.args.cell.now c.deref.ensures.value c.self.view_is c.in_err-place.ensures.none)

pub invariant_of-self : goal.invariant_of-self
invariant_of-self g c =
    let f : IsFound g.K.Key.cell_of c.self.inside.entries.items c.args.self.now c.args.cell.now c.in_ok-place.place = record { line = c.self.invariant; view = c.self.view_is; stands = subst (λ es. StandsInLine (entries_by g.K.Key.cell_of es) c.args.cell.now c.in_ok-place.place) c.deref.ensures.value c.in_ok-place.ensures.some } in
    replaced_line g.K.Key.cell_of c.self.inside.entries.items c.args.self.now c.args.cell.now c.in_ok-place.place c.index.result.now c.args.chain f c.index.ensures

pub returns-clause-held : goal.returns-clause-held
returns-clause-held g c =
    let f : IsFound g.K.Key.cell_of c.self.inside.entries.items c.args.self.now c.args.cell.now c.in_ok-place.place = record { line = c.self.invariant; view = c.self.view_is; stands = subst (λ es. StandsInLine (entries_by g.K.Key.cell_of es) c.args.cell.now c.in_ok-place.place) c.deref.ensures.value c.in_ok-place.ensures.some } in
    found_chain g.K.Key.cell_of c.self.inside.entries.items c.args.self.now c.args.cell.now c.in_ok-place.place c.index.result.now f c.index.ensures

pub returns-clause-some : goal.returns-clause-some
returns-clause-some g c =
    let f : IsFound g.K.Key.cell_of c.self.inside.entries.items c.args.self.now c.args.cell.now c.in_ok-place.place = record { line = c.self.invariant; view = c.self.view_is; stands = subst (λ es. StandsInLine (entries_by g.K.Key.cell_of es) c.args.cell.now c.in_ok-place.place) c.deref.ensures.value c.in_ok-place.ensures.some } in
    found_replaced g.K.Key.cell_of c.self.inside.entries.items c.args.self.now c.args.cell.now c.in_ok-place.place c.index.result.now c.args.chain f c.index.ensures
