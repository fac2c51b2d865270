-- Each side has a column of its own.
use Rattle.std.proofs.Common.{◌∷◌, [], refl, sym}
use Rattle.lrp_steps.proofs.OwnColumns.{two_columns}
use Rattle.lrp_steps.proofs.comparisons.both_columns.Goals as goal

pub returns : goal.returns
returns c = λ times lh rh. two_columns times c.args.left.now c.args.right.now c.requires.left lh c.requires.right rh (λ e. c.requires.apart (sym e)) _ (0 ∷ 0 ∷ 0 ∷ 0 ∷ 0 ∷ 0 ∷ []) refl refl c.moved_to.ensures c.moved_to-2.ensures
