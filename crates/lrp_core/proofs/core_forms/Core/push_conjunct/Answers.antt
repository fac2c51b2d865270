use Rattle.lrp_core.proofs.CoreViews.{conjuncts_added, conjunct_added}
use Rattle.lrp_core.proofs.core_forms.Core.push_conjunct.Goals as goal

pub returns-in_ok-append-in-And : goal.returns-in_ok-append-in-And
returns-in_ok-append-in-And c = conjuncts_added _ _ _ c.in-And.of c.in-And.is c.in_ok-append-in-And.ensures.items

pub returns-in_ok-push-in_default : goal.returns-in_ok-push-in_default
returns-in_ok-push-in_default c = conjunct_added _ _ _ c.in_default.not-And c.in_ok-push-in_default.ensures.items
