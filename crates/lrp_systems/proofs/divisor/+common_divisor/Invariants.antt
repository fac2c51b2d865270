-- The second number falls.
use Rattle.lrp_systems.proofs.divisor.+common_divisor.Given as goal

abbrev pub decreases-common_divisor : goal.decreases-common_divisor
decreases-common_divisor a = a.b
