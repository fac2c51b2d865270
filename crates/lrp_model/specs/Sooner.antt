-- The earlier of two faults, where each may be none.
use Rattle.std.specs.Prelude.{ℕ, List, Option, Some, None}
use Rattle.lrp_model.specs.Faults.{earlier}

-- the earlier of two faults, or the one that there is; of two that stand alike, the first
abbrev pub sooner : {F : Type 0} → (F → List ℕ) → Option F → Option F → Option F
sooner stands None g = g
sooner stands (Some f) g = earlier stands f g
