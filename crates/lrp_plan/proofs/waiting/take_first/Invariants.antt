use Rattle.std.proofs.Common.{◌≡◌, ◌++◌, length}
use Rattle.lrp_plan.specs.Waiting.{FallAfter}
use Rattle.lrp_plan.proofs.waiting.take_first.Given as goal

-- those that were passed over do not go before the others, and the order is as before
abbrev pub invariant-loop-element : goal.invariant-loop-element
invariant-loop-element l = (FallAfter l.turn l.variables l.fn.passed.items → FallAfter l.turn l.variables l.passed.items) × (l.passed.items ++ l.rest.items ≡ l.fn.passed.items ++ l.fn.rest.items)

abbrev pub decreases-loop-element : goal.decreases-loop-element
decreases-loop-element l = length l.rest.items
