use Rattle.lrp_core.proofs.CoreViews.{disjuncts_added, disjunct_added}
use Rattle.lrp_core.proofs.core_forms.Core.push_disjunct.Goals as goal

pub returns-in_ok-append-in-Or : goal.returns-in_ok-append-in-Or
returns-in_ok-append-in-Or c = disjuncts_added _ _ _ c.in-Or.of c.in-Or.is c.in_ok-append-in-Or.ensures.items

pub returns-in_ok-push-in_default : goal.returns-in_ok-push-in_default
returns-in_ok-push-in_default c = disjunct_added _ _ _ c.in_default.not-Or c.in_ok-push-in_default.ensures.items
