use Rattle.std.proofs.Common.{◌≡◌, length}
use Rattle.lrp_model.specs.RawQueries.{raw_form_of}
use Rattle.lrp_query.specs.Grammars.{quantified_by}
use Rattle.lrp_query.specs.Rules.{each_bound}
use Rattle.lrp_query.proofs.trees.bound.Given as goal

-- under the quantifiers that are left it is the whole
abbrev pub invariant-loop-binder : goal.invariant-loop-binder
invariant-loop-binder l = each_bound (quantified_by l.fn.quantifier) l.fn.place l.left.items (raw_form_of l.made) ≡ each_bound (quantified_by l.fn.quantifier) l.fn.place l.fn.binders (raw_form_of l.fn.of)

abbrev pub decreases-loop-binder : goal.decreases-loop-binder
decreases-loop-binder l = length l.left.items
