-- A zone has some tuple.
use Rattle.lrp_cutting.proofs.CutLaws.{common_some}
use Rattle.lrp_cutting.proofs.standing.have_common.Goals as goal

pub returns-then-are_beside : goal.returns-then-are_beside
returns-then-are_beside c = (λ t. absurd (cc t), λ h. absurd ((c.are_beside.ensures c.if-are_beside.true).none h.common h.left h.right))

pub returns : goal.returns
returns c = common_some c.args.zone.now c.args.other.now c.common.result c.common.ensures.none c.common.ensures.some c.is_some.result c.is_some.ensures
