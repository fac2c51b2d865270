use Rattle.lrp_theory.proofs.Congruences.{combined_divisor, combined_is_greatest, common_apart, common_members, solvable}
use Rattle.lrp_theory.proofs.two_congruences.Goals as goal

pub returns-clause-divisor : goal.returns-clause-divisor
returns-clause-divisor f = λ k m kp mp. let r = combined_divisor k m kp in (r.0, combined_is_greatest k m r.0 r.1)

pub returns-clause-solvable : goal.returns-clause-solvable
returns-clause-solvable f = λ c d k m g kp mp is. (solvable c d k m g kp is, (λ h. common_apart c d k m g h.0 is.left is.right h.1))

pub returns-clause-members : goal.returns-clause-members
returns-clause-members f = common_members
