-- A key is missing at a gap, and a cell that has no key is missing anywhere.
use Rattle.std.proofs.Common.{◌≡◌, ◌∙◌, None, ap, subst, sym}
use Rattle.std.specs.Prelude.{IfNone}
use Rattle.lrp_slots.specs.Lines.{IsGap, StandsInLine}
use Rattle.lrp_slots.specs.Links.{chain_at}
use Rattle.lrp_slots.specs.Keys.{entries_by}
use Rattle.lrp_slots.proofs.Lines.{gap_none}
use Rattle.lrp_slots.proofs.Keyed.{found_place, keyless, no_place}
use Rattle.lrp_slots.proofs.line.place_of.Goals as goal

pub returns-in_err-key-clause-none : goal.returns-in_err-key-clause-none
returns-in_err-key-clause-none g c =
    subst (λ o. IfNone o (chain_at (entries_by g.K.Key.cell_of c.args.line.now) c.args.cell.now ≡ None)) (sym c.from_residual.ensures) (keyless g.K.Key.cell_of c.args.line.now c.args.cell.now c.in_err-key.ensures.none)

pub returns-clause-none : goal.returns-clause-none
returns-clause-none g c =
    no_place c.search.result c.ok.result (IsGap (entries_by g.K.Key.cell_of c.args.line.now) (g.K.Key.cell_of c.in_ok-key.key)) (chain_at (entries_by g.K.Key.cell_of c.args.line.now) c.args.cell.now ≡ None) c.ok.ensures.value
    (λ i gap. ap (λ k. chain_at (entries_by g.K.Key.cell_of c.args.line.now) k) (sym c.in_ok-key.ensures.some) ∙ gap_none (entries_by g.K.Key.cell_of c.args.line.now) (g.K.Key.cell_of c.in_ok-key.key) i c.requires gap) c.search.ensures.gap

pub returns-clause-some : goal.returns-clause-some
returns-clause-some g c =
    found_place c.search.result c.ok.result (StandsInLine (entries_by g.K.Key.cell_of c.args.line.now) (g.K.Key.cell_of c.in_ok-key.key)) (StandsInLine (entries_by g.K.Key.cell_of c.args.line.now) c.args.cell.now) c.ok.ensures.value
    (λ i stands. subst (λ k. StandsInLine (entries_by g.K.Key.cell_of c.args.line.now) k i) c.in_ok-key.ensures.some stands) c.search.ensures.there
