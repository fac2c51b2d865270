-- Rows that are equal have equal bounds.
use Rattle.std.proofs.Common.{◌∙◌, ap, sym}
use Rattle.std.specs.Int.{w64}
use Rattle.std.proofs.lemmas.Int.{to_z-of_z}
use Rattle.slab.specs.Slab.{get}
use Rattle.lrp_kept.specs.Labels.{first_most}
use Rattle.lrp_kept.proofs.Labelled.{other_row}
use Rattle.lrp_kept.proofs.rows.HeldRows.is_equal.Goals as goal

pub returns-then-has_other_most : goal.returns-then-has_other_most
returns-then-has_other_most c = other_row (get c.args.self.now.sources c.args.key) c.args.row.now (λ source held equal. c.has_other_most.ensures c.if-has_other_most.true source held (ap first_most equal.bounds ∙ sym c.requires ∙ sym (to_z-of_z w64 c.args.most c.ranges.most)))
