-- Bytes that are held in front of a sink.
use Rattle.std.specs.Prelude.{◌≡◌, ℕ, ◌≤◌, ◌-◌, List, [], length, take, drop, Option, Some, None}
use Rattle.lrp_io.specs.Bytes.{appended}

-- the bytes from place first on, as far as place last
abbrev pub between : List ℕ → ℕ → ℕ → List ℕ
between bytes first last = take (last - first) (drop first bytes)

-- the bytes told after those that were told before
abbrev pub told_since : Option (List ℕ) → Option (List ℕ) → List ℕ
told_since None now = []
told_since (Some before) None = []
told_since (Some before) (Some now) = drop (length before) now

-- some bytes were appended, where bytes are told
abbrev pub Grew : Option (List ℕ) → Option (List ℕ) → Type 0
Grew before now = now ≡ appended before (told_since before now)

-- the first k of the bytes that were held were appended, and the others are still held
abbrev pub HandsOn : Option (List ℕ) → Option (List ℕ) → List ℕ → List ℕ → Type 0
HandsOn old new before after = (k : ℕ) × (k ≤ length before) × (new ≡ appended old (take k before)) × (after ≡ drop k before)
