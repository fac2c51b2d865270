-- The pairs before this one have one number.
use Rattle.std.proofs.Common.{◌≡◌, ℕ, ◌<◌, get_or}
use Rattle.lrp_steps.specs.declared.pair.TextPair.{TextPair}
use Rattle.lrp_steps.proofs.filling.are_equal.Given as goal

abbrev pub invariant-loop-pair : goal.invariant-loop-pair
invariant-loop-pair l = (k : ℕ) (d : TextPair) → k < l.pair-index → get_or l.texts (get_or l.pairs k d).left 0 ≡ get_or l.texts (get_or l.pairs k d).right 0
