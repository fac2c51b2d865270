use Rattle.std.proofs.Common.{◌≡◌, ◌+◌, ◌*◌, ◌^◌, ℕ, take}
use Rattle.lrp_model.specs.Sorts.{time_count}
use Rattle.lrp_limits.specs.Capped.{capped}
use Rattle.lrp_limits.proofs.scaling.scaled.Given as goal

-- doubled for the columns so far
abbrev pub invariant-loop-column : goal.invariant-loop-column
invariant-loop-column l = (n : ℕ) → l.fn.reach ≡ capped n → l.all ≡ capped (2 ^ (time_count (take l.column-index l.columns) + 1) * n)
