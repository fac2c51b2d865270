-- A cell is found at its place.
use Rattle.std.proofs.Common.{ap, sym, subst, ◌∙◌}
use Rattle.lrp_slots.specs.Lines.{StandsInLine}
use Rattle.lrp_slots.specs.Keys.{entries_by}
use Rattle.std.specs.Prelude.{option_copied}
use Rattle.lrp_slots.proofs.Keyed.{found_chain, not_in_line}
use Rattle.lrp_slots.proofs.line.Line.get.Goals as goal

pub returns-in_err-place : goal.returns-in_err-place
returns-in_err-place g c = record { value = ap option_copied c.from_residual.ensures ∙ sym (not_in_line g.K.Key.cell_of c.self.inside.entries.items c.deref.result.now c.args.self.now c.args.cell.now c.deref.ensures.value c.self.view_is c.in_err-place.ensures.none) }

pub returns : goal.returns
returns g c = record { value = found_chain g.K.Key.cell_of c.self.inside.entries.items c.args.self.now c.args.cell.now c.in_ok-place.place c.index.result.now (record { line = c.self.invariant; view = c.self.view_is; stands = subst (λ es. StandsInLine (entries_by g.K.Key.cell_of es) c.args.cell.now c.in_ok-place.place) c.deref.ensures.value c.in_ok-place.ensures.some }) c.index.ensures }
