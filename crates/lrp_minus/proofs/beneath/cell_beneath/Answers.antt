-- The values at the places make up the cell.
use Rattle.std.proofs.Common.{subst}
use Rattle.lrp_minus.specs.Beneath.{ArePickedNumbers, AreResiduesAt}
use Rattle.lrp_minus.proofs.AbsenceLaws.{period_word}
use Rattle.lrp_minus.proofs.BeneathLaws.{beneath_is}
use Rattle.lrp_minus.proofs.beneath.cell_beneath.Goals as goal

pub returns : goal.returns
returns c =
    beneath_is c.args.places.now c.args.store.now c.requires.store c.args.cell.now c.requires.places c.residues_at-own.result (subst (λ ps. AreResiduesAt ps c.args.cell.now.residues c.residues_at-own.result) c.as_slice.ensures c.residues_at-own.ensures)
    c.numbers_at.result (subst (λ ps. ArePickedNumbers ps c.args.cell.now.texts c.numbers_at.result) c.as_slice-2.ensures c.numbers_at.ensures) _ (period_word c.args.store.now c.requires.store c.period.result c.period.ensures) c.reduced.result c.reduced.ensures
