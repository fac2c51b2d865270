use Rattle.std.proofs.Common.{◌≡◌, ◌*◌, ◌^◌, ℕ}
use Rattle.lrp_limits.specs.Capped.{capped}
use Rattle.lrp_limits.proofs.scaling.doubled_times.Given as goal

-- doubled in the turns so far
abbrev pub invariant-loop-turn : goal.invariant-loop-turn
invariant-loop-turn l = (n : ℕ) → l.fn.reach ≡ capped n → l.all ≡ capped (2 ^ l._turn * n)
