-- The limits of numbers and of files.
use Rattle.std.specs.Prelude.{ℕ}

-- the greatest magnitude of a number in a text, and the greatest period and reach: 2 ^ 62
abbrev pub greatest_number : ℕ
greatest_number = 4611686018427387904

-- the most bytes that a file may have: 2 ^ 24
abbrev pub most_bytes : ℕ
most_bytes = 16777216
