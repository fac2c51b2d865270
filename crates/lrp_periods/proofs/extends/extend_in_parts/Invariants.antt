-- The parts so far are added over the head's columns.
use Rattle.std.proofs.Common.{[], take}
use Rattle.lrp_tables.specs.Columns.{head_times, head_texts}
use Rattle.lrp_tables.specs.Tables.{HasAssignment}
use Rattle.lrp_periods.specs.Combining.{IsMadeOfSome}
use Rattle.lrp_periods.specs.Parts.{ArePartsAdded}
use Rattle.lrp_periods.specs.Sets.{IsExtensionOf}
use Rattle.lrp_periods.proofs.extends.extend_in_parts.Given as goal

abbrev pub invariant-loop-part : goal.invariant-loop-part
invariant-loop-part l = ArePartsAdded l.setting.domain.now (head_times l.head.columns) (head_texts l.head.columns) l.fn.period (IsMadeOfSome (λ part. IsExtensionOf l.setting.domain.now (head_texts l.head.columns) (HasAssignment part l.setting.domain.now)) (take l.part-index l.of)) [] l.parts
