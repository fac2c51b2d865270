-- The places before this one have their lesser bounds.
use Rattle.std.proofs.Common.{◌≡◌, ◌<◌, ℕ, length}
use Rattle.std.specs.Prelude.{pos, slice_index_or, None}
use Rattle.lrp_theory.specs.Entries.{IsLesser}
use Rattle.lrp_zone.specs.Numbers.{bound_from_number}
use Rattle.lrp_zone.proofs.bounds.least.Given as goal

abbrev pub invariant-loop-place : goal.invariant-loop-place
invariant-loop-place l = record { size : length l.numbers ≡ 81; each : (p : ℕ) → p < l.place → IsLesser (bound_from_number (slice_index_or l.numbers p (pos 0))) (slice_index_or l.a p None) (slice_index_or l.b p None) }
