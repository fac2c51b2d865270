-- The bound of the sides.
use Rattle.std.proofs.Common.{refl}
use Rattle.std.specs.Prelude.{flat_map}
use Rattle.lrp_model.specs.Reach.{greatest, term_magnitudes}
use Rattle.lrp_steps.proofs.ReadRows.{shift_bound, shift_words}
use Rattle.lrp_steps.proofs.row_bounds.shifted_bound.Goals as goal

pub returns : goal.returns
returns c = shift_bound c.args.times.now c.args.terms.now c.args.bound.now _ c.side_at-left.result c.side_at-right.result c.side_at-left.ensures.value c.side_at-right.ensures.value c.side_at-left.ensures.column c.side_at-right.ensures.column c.side_at-left.ensures.small c.side_at-right.ensures.small refl refl
    (shift_words c.args.bound.now.most c.side_at-left.result.plus c.side_at-right.result.plus (greatest (flat_map term_magnitudes c.args.terms.now)) c.requires.room c.side_at-left.ensures.small c.side_at-right.ensures.small)
