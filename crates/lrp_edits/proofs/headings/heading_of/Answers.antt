-- Kept columns have no faults.
use Rattle.std.proofs.Common.{◌∙◌, ap}
use Rattle.lrp_edits.specs.EditMeaning.{written_columns}
use Rattle.lrp_edits.proofs.EditLemmas.{kept_headed}
use Rattle.lrp_edits.proofs.headings.heading_of.Goals as goal

pub returns : goal.returns
returns c = kept_headed c.args.relation.now c.in_ok-columns.columns c.of.result c.requires (c.in_ok-columns.ensures ∙ ap written_columns c.as_slice.ensures) c.of.ensures.heading c.of.ensures.columns
