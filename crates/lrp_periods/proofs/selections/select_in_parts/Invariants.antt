-- The selections from the parts so far are added.
use Rattle.std.proofs.Common.{[], take}
use Rattle.lrp_tables.specs.Tables.{HasAssignment}
use Rattle.lrp_periods.specs.Combining.{IsMadeOfSome}
use Rattle.lrp_periods.specs.Parts.{ArePartsAdded, part_times, part_texts}
use Rattle.lrp_periods.specs.Sets.{IsSelectionOf}
use Rattle.lrp_periods.proofs.selections.select_in_parts.Given as goal

abbrev pub invariant-loop-part : goal.invariant-loop-part
invariant-loop-part l = ArePartsAdded l.setting.domain.now (part_times l.of) (part_texts l.of) l.fn.period (IsMadeOfSome (λ part. IsSelectionOf (HasAssignment part l.setting.domain.now) l.test) (take l.part-index l.of)) [] l.parts
