-- One more column: some value is left, and the nearest to zero is the next one.
use Rattle.std.proofs.Common.{◌+◌, ℤ, arith, ap, to_z, of_z, FitsSigned, Some, ◌^◌}
use Rattle.std.specs.Prelude.{slice_set}
use Rattle.std.specs.Int.{w64, w128}
use Rattle.std.proofs.lemmas.Int.{ints}
use Rattle.lrp_theory.specs.Entries.{AtMost}
use Rattle.lrp_store.proofs.ZoneFirst.{before_next, small_next, some_next, next_value, next_small, words_keep, residue_kept, period_kept}
use Rattle.lrp_store.proofs.nearest.with_next.Goals as goal

pub range-low-requires-clause-prefix : goal.range-low-requires-clause-prefix
range-low-requires-clause-prefix c = before_next c.args.zone.now c.requires.valid c.args.least.now c.requires.closed c.requires.integers c.args.i (c.args.i + 1) (omega arith) c.requires.column c.args.xs.now c.requires.begun

pub range-low-requires-clause-small : goal.range-low-requires-clause-small
range-low-requires-clause-small c = small_next c.args.zone.now c.requires.valid c.args.least.now c.requires.closed c.requires.integers c.args.i (c.args.i + 1) (omega arith) c.requires.column c.args.xs.now c.requires.begun c.requires.room.0 c.requires.room.1

-- the value fits
fits : (x : ℤ) → AtMost (2 ^ 62) (Some x) → FitsSigned w64 (to_z w128 (of_z w128 x))
fits x s = omega (arith, ints)

pub overflow_cast-next : goal.overflow_cast-next
overflow_cast-next c = fits c.in-Some.x (next_small c.args.zone.now c.requires.valid c.args.least.now c.requires.closed c.requires.integers c.args.i (c.args.i + 1) (omega arith) c.requires.column c.args.xs.now c.requires.begun c.range-low.result.0 c.range-low.result.1 c.range-low.ensures.least c.range-low.ensures.most c.range-low.ensures.between (to_z w64 (of_z w64 c.residue.result)) (to_z w64 (of_z w64 c.period.result)) (residue_kept c.args.zone.now c.requires.valid (c.args.i + 1) (omega arith) c.residue.result c.residue.ensures) (period_kept c.args.zone.now c.requires.valid c.period.result c.period.ensures) c.requires.room.0 c.requires.room.1 c.in-Some.x c.in-Some.ensures.some)

pub unreachable-requires : goal.unreachable-requires
unreachable-requires c = some_next c.args.zone.now c.requires.valid c.args.least.now c.requires.closed c.requires.integers c.args.i (c.args.i + 1) (omega arith) c.requires.column c.args.xs.now c.requires.begun c.range-low.result.0 c.range-low.result.1 c.range-low.ensures.least c.range-low.ensures.most c.range-low.ensures.between (to_z w64 (of_z w64 c.residue.result)) (to_z w64 (of_z w64 c.period.result)) (residue_kept c.args.zone.now c.requires.valid (c.args.i + 1) (omega arith) c.residue.result c.residue.ensures) (period_kept c.args.zone.now c.requires.valid c.period.result c.period.ensures) c.in-None.ensures.none

pub returns : goal.returns
returns c =
    let small = next_small c.args.zone.now c.requires.valid c.args.least.now c.requires.closed c.requires.integers c.args.i (c.args.i + 1) (omega arith) c.requires.column c.args.xs.now c.requires.begun c.range-low.result.0 c.range-low.result.1 c.range-low.ensures.least c.range-low.ensures.most c.range-low.ensures.between (to_z w64 (of_z w64 c.residue.result)) (to_z w64 (of_z w64 c.period.result)) (residue_kept c.args.zone.now c.requires.valid (c.args.i + 1) (omega arith) c.residue.result c.residue.ensures) (period_kept c.args.zone.now c.requires.valid c.period.result c.period.ensures) c.requires.room.0 c.requires.room.1 c.in-Some.x c.in-Some.ensures.some in
    next_value c.args.zone.now c.requires.valid c.args.least.now c.requires.closed c.requires.integers c.args.i (c.args.i + 1) (omega arith) c.requires.column c.args.xs.now c.requires.begun c.range-low.result.0 c.range-low.result.1 c.range-low.ensures.least c.range-low.ensures.most c.range-low.ensures.between (to_z w64 (of_z w64 c.residue.result)) (to_z w64 (of_z w64 c.period.result)) (residue_kept c.args.zone.now c.requires.valid (c.args.i + 1) (omega arith) c.residue.result c.residue.ensures) (period_kept c.args.zone.now c.requires.valid c.period.result c.period.ensures) c.in-Some.x c.in-Some.ensures.some _ (ap (slice_set c.args.xs.now c.args.i) (words_keep c.in-Some.x small))
