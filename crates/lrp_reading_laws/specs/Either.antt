-- One thing or another.
use Rattle.std.specs.Prelude.{◌⊎◌}

-- something has the one property, or something else has the other
abbrev pub OneOrOther : {A B : Type 0} → (A → Type 0) → (B → Type 0) → Type 0
OneOrOther {A} {B} P Q = ((a : A) × P a) ⊎ ((b : B) × Q b)
