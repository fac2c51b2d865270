-- What a handle owns.
use Rattle.std.specs.Prelude.{Bool, true, false, Option, Some, None}
use mir.Syntax.{Ty}
use base.Fml.{Fml, fex, ftrue}
use denote.RattleType.{RattleType}
use denote.RawPtr.{Ptr}
use Rattle.std.specs.Box.Ownership.{box_owns}

-- a value of which this is so, in a block of its own at the pointer, or nothing
abbrev pub owned_at : {A : Type 0} → (Ty → Ptr → Fml) → (R : RattleType) → (A → R.Denot → Type 0) → Ptr → Option A → Fml
owned_at token R Is p None = ftrue
owned_at token R Is p (Some a) = fex ((v : R.Denot) × Is a v) (λ s. box_owns token R p s.0)

abbrev pub is_some : {A : Type 0} → Option A → Bool
is_some None = false
is_some (Some a) = true
