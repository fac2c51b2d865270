-- One zone ends before the other one begins.
use Rattle.lrp_cutting.proofs.WindowLaws.{apart, apart_back}
use Rattle.lrp_cutting.proofs.windows.is_beside.Goals as goal

pub returns-then-is_before : goal.returns-then-is_before
returns-then-is_before c = λ t. apart c.args.zone.now c.args.other.now c.args.column c.window_of-one.result c.window_of-two.result c.window_of-one.ensures.window c.window_of-two.ensures.window (c.is_before.ensures t)

pub returns-else-is_before : goal.returns-else-is_before
returns-else-is_before c = λ t. apart_back c.args.zone.now c.args.other.now c.args.column c.window_of-one.result c.window_of-two.result c.window_of-one.ensures.window c.window_of-two.ensures.window (c.is_before-else-is_before.ensures t)
