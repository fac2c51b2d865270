use Rattle.lrp_kept.proofs.Labelled.{told_other}
use Rattle.lrp_kept.proofs.sources.is_other_at.Goals as goal

pub returns-then-atom-eq0 : goal.returns-then-atom-eq0
returns-then-atom-eq0 c = λ e source is. told_other source c.args.disjunct c.args.atom c.args.label.now.first c.args.other.now is.first (c.is_told.ensures e)

pub returns-else-atom-eq0 : goal.returns-else-atom-eq0
returns-else-atom-eq0 c = λ e source is. told_other source c.args.disjunct c.args.atom c.args.label.now.later c.args.other.now is.later (c.is_told-else-atom-eq0.ensures e)
