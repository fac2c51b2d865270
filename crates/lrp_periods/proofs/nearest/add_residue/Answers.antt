-- The residue's cell is added whole.
use Rattle.std.proofs.Common.{ℕ, Option, sym, subst}
use Rattle.lrp_model.specs.declared.tuples.Cell.{Cell}
use Rattle.lrp_store.specs.Growing.{IsAdded, IsCellAdded}
use Rattle.lrp_periods.specs.Nearest.{IsOfResidue}
use Rattle.lrp_periods.proofs.NearestLaws.{residue_added}
use Rattle.lrp_periods.proofs.nearest.add_residue.Goals as goal

pub returns-in-Ok : goal.returns-in-Ok
returns-in-Ok c =
    subst (λ (o : Option ℕ). IsAdded (IsOfResidue c.args.out.now.period o) c.args.cap 0 c.args.out.now c.add_whole.new.self) (sym c.in-Some.is)
    (residue_added c.args.out.now c.add_whole.new.self c.args.cap c.requires.line c.in-Some.residue
    (subst (λ (cell : Cell). IsCellAdded cell c.args.cap c.args.out.now c.add_whole.new.self) c.cell_at.ensures c.in-Ok.ensures.ok))
