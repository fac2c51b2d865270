use Rattle.std.proofs.Common.{◌≡◌, ℕ, ◌<◌, Some, slice_get}
use Rattle.lrp_kept.specs.Held.{names_of}
use Rattle.lrp_kept.proofs.rows.HeldRows.relation.Given as goal

-- the name is none of those before
abbrev pub invariant-loop-number : goal.invariant-loop-number
invariant-loop-number l = (k : ℕ) → k < l.number → slice_get (names_of l.self) k ≡ Some l.name → ⊥
