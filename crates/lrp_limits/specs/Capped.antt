-- Reaches are counted up to 2^62 + 1.
use Rattle.std.specs.Prelude.{ℕ, ◌+◌, ◌^◌, min}

-- a reach, or 2^62 + 1 where it is above 2^62
abbrev pub capped : ℕ → ℕ
capped n = min n (2 ^ 62 + 1)
