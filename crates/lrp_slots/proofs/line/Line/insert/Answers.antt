-- A cell that is not held stands nowhere.
use Rattle.std.proofs.Common.{◌≡◌, ◌∙◌, Some, None, ap, sym, subst}
use Rattle.lrp_slots.specs.Lines.{StandsInLine}
use Rattle.lrp_slots.specs.Links.{chain_at}
use Rattle.lrp_slots.specs.Keys.{entries_by}
use Rattle.lrp_slots.proofs.Lines.{stands}
use Rattle.lrp_slots.proofs.line.Line.insert.Goals as goal

pub unreachable-requires : goal.unreachable-requires
unreachable-requires g c =
    let s : StandsInLine (entries_by g.K.Key.cell_of c.self.inside.entries.items) (g.K.Key.cell_of c.args.key) c.in-Ok.field-0 = subst (λ es. StandsInLine (entries_by g.K.Key.cell_of es) (g.K.Key.cell_of c.args.key) c.in-Ok.field-0) c.deref.ensures.value c.in-Ok.ensures.there in
    let found : chain_at c.args.self.now (g.K.Key.cell_of c.args.key) ≡ Some s.entry.1 =
    ap (λ l. chain_at l (g.K.Key.cell_of c.args.key)) (sym c.self.view_is)
    ∙ stands (entries_by g.K.Key.cell_of c.self.inside.entries.items) (g.K.Key.cell_of c.args.key) c.in-Ok.field-0 c.self.invariant s in
    let none : chain_at c.args.self.now (g.K.Key.cell_of c.args.key) ≡ None = c.requires in
    cc
