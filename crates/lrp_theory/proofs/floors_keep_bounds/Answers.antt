use Rattle.lrp_theory.proofs.Floor.{floor, floor_is, floors_within, tightened, untightened}
use Rattle.lrp_theory.proofs.floors_keep_bounds.Goals as goal

pub returns-clause-some : goal.returns-clause-some
returns-clause-some c = λ k r x one. (floor k r x, floor_is k r x one)

pub returns-clause-lowered : goal.returns-clause-lowered
returns-clause-lowered c = λ k r s x y a f is hx hy. (tightened k r s x y a f is hx hy, untightened _ a f is.below)

pub returns-clause-floors : goal.returns-clause-floors
returns-clause-floors c = floors_within
