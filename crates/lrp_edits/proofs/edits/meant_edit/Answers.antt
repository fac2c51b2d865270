-- A row without faults has a meaning.
use Rattle.std.proofs.Common.{ap}
use Rattle.lrp_model.specs.Faults.{earliest}
use Rattle.lrp_model.specs.DatabaseFaults.{database_standing}
use Rattle.lrp_rel.proofs.GatheredLemmas.{heading_few, heading_numbered, row_means}
use Rattle.lrp_edits.proofs.EditLemmas.{with_row}
use Rattle.lrp_edits.proofs.edits.meant_edit.Goals as goal

pub meant_row-requires-clause-times : goal.meant_row-requires-clause-times
meant_row-requires-clause-times c = heading_few c.args.heading.now c.requires.heading c.requires.sound

pub meant_row-requires-clause-lawful : goal.meant_row-requires-clause-lawful
meant_row-requires-clause-lawful c =
    row_means c.args.heading.now c.args.edit.row c.requires.heading c.requires.sound (ap (earliest database_standing) c.requires.right) c.requires.fits

pub returns : goal.returns
returns c = ap (with_row c.args.edit) (c.in_ok-row.ensures c.args.heading.now.columns (heading_numbered c.args.heading.now c.requires.heading c.requires.sound))
