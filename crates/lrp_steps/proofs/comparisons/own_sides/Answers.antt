-- One column is left, or two.
use Rattle.lrp_steps.proofs.comparisons.own_sides.Goals as goal

pub returns-then-left-eq0 : goal.returns-then-left-eq0
returns-then-left-eq0 c = λ times ll rl. c.right_alone.ensures times rl

pub returns-else-adds_column : goal.returns-else-adds_column
returns-else-adds_column c = λ times ll rl. c.left_alone.ensures times ll
