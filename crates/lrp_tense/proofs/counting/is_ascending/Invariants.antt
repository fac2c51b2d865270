use Rattle.std.proofs.Common.{ℕ, ◌<◌, ◌+◌, get_or}
use Rattle.lrp_tense.proofs.counting.is_ascending.Given as goal

-- the positions up to the index ascend
abbrev pub invariant-loop-i : goal.invariant-loop-i
invariant-loop-i l = (k : ℕ) → k + 1 < l.i → get_or l.positions k 0 < get_or l.positions (k + 1) 0
