-- Both ends are tested.
use Rattle.std.proofs.Common.{SFits, rules, w64}
use Rattle.std.proofs.lemmas.Int.{to_z-of_z}
use Rattle.lrp_civil.proofs.TimeLemmas.{civil_early, civil_late, value_early, value_late}
use Rattle.lrp_civil.proofs.times.is_civil_minute.Goals as goal

pub returns-then-time-ge-FIRST-clause-value : goal.returns-then-time-ge-FIRST-clause-value
returns-then-time-ge-FIRST-clause-value c = let fits : SFits w64 c.args.time.now = search rules in value_late c.args.time.now _ (to_z-of_z w64 c.args.time.now fits) c.if-time-ge-FIRST.true

pub returns-then-time-ge-FIRST-clause-civil : goal.returns-then-time-ge-FIRST-clause-civil
returns-then-time-ge-FIRST-clause-civil c = let fits : SFits w64 c.args.time.now = search rules in civil_late c.args.time.now _ (to_z-of_z w64 c.args.time.now fits) c.if-time-ge-FIRST.true

pub returns-else-time-ge-FIRST-clause-value : goal.returns-else-time-ge-FIRST-clause-value
returns-else-time-ge-FIRST-clause-value c = let fits : SFits w64 c.args.time.now = search rules in value_early c.args.time.now _ (to_z-of_z w64 c.args.time.now fits) c.if-time-ge-FIRST.false

pub returns-else-time-ge-FIRST-clause-civil : goal.returns-else-time-ge-FIRST-clause-civil
returns-else-time-ge-FIRST-clause-civil c = let fits : SFits w64 c.args.time.now = search rules in civil_early c.args.time.now _ (to_z-of_z w64 c.args.time.now fits) c.if-time-ge-FIRST.false
