-- The zones of the cell beneath are the cutters.
use Rattle.std.proofs.Common.{ap, sym, subst, ◌∙◌}
use Rattle.lrp_minus.specs.Cutters.{AreCutters}
use Rattle.lrp_minus.proofs.AbsenceLaws.{period_word}
use Rattle.lrp_minus.proofs.CutterLaws.{passed_residues, passed_cutters}
use Rattle.lrp_cutting.proofs.Lists.{if_ok}
use Rattle.lrp_minus.proofs.cutters.cutters_of.Goals as goal

pub cut_all-requires-clause-residues : goal.cut_all-requires-clause-residues
cut_all-requires-clause-residues c =
    passed_residues c.args.places.now c.args.left.now c.shape.ensures.valid c.args.cell.now c.requires.cell c.args.right.now c.requires.cut.right_store c.requires.cut c.cell_beneath-beneath.result c.cell_beneath-beneath.ensures
    c.from-times.result (c.from-times.ensures ∙ ap (λ s. s.times) c.shape.ensures.value) _ (period_word c.args.left.now c.shape.ensures.valid c.period.result c.period.ensures)

pub of-requires : goal.of-requires
of-requires c = λ z l. record {
  each = λ y k. record {
    period = c.in_ok-zones.ensures.period y k ∙ sym (c.in_ok-zones.ensures.period z l);
    residues = c.in_ok-zones.ensures.residues y k ∙ sym (c.in_ok-zones.ensures.residues z l);
  };
}

pub returns : goal.returns
returns c = if_ok _ _ c.of.result (λ made e. subst (AreCutters c.args.places.now c.args.left.now c.args.cell.now c.args.right.now) (sym e)
    (passed_cutters c.args.places.now c.args.left.now c.shape.ensures.valid c.args.cell.now c.requires.cell c.args.right.now c.requires.cut.right_store c.requires.cut c.cell_beneath-beneath.result c.cell_beneath-beneath.ensures
    c.from-times.result (c.from-times.ensures ∙ ap (λ s. s.times) c.shape.ensures.value) _ (period_word c.args.left.now c.shape.ensures.valid c.period.result c.period.ensures) c.as_slice.result.now c.as_slice.ensures c.in_ok-zones.zones c.in_ok-zones.ensures))
    c.of.ensures
