-- What is left of the left parts so far is added.
use Rattle.std.proofs.Common.{[], take}
use Rattle.lrp_tables.specs.Tables.{HasAssignment}
use Rattle.lrp_periods.specs.Combining.{IsMadeOfSome}
use Rattle.lrp_periods.specs.Parts.{ArePartsAdded, HasSome, part_times, part_texts}
use Rattle.lrp_periods.specs.Sets.{IsDifferenceOf}
use Rattle.lrp_periods.proofs.differences.minus_in_parts.Given as goal

abbrev pub invariant-loop-left : goal.invariant-loop-left
invariant-loop-left l = ArePartsAdded l.setting.domain.now (part_times l.lefts) (part_texts l.lefts) l.fn.period
    (IsMadeOfSome (λ left. IsDifferenceOf (HasAssignment left l.setting.domain.now) (HasSome l.setting.domain.now l.rights)) (take l.left-index l.lefts)) [] l.parts
