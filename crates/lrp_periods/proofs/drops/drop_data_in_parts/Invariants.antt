-- The parts so far are added without the data variable.
use Rattle.std.proofs.Common.{[], take}
use Rattle.lrp_model.specs.Texts.{without}
use Rattle.lrp_tables.specs.Tables.{HasAssignment}
use Rattle.lrp_periods.specs.Combining.{IsMadeOfSome}
use Rattle.lrp_periods.specs.Parts.{ArePartsAdded, part_times, part_texts}
use Rattle.lrp_periods.specs.Sets.{IsTextCompleted}
use Rattle.lrp_periods.proofs.drops.drop_data_in_parts.Given as goal

abbrev pub invariant-loop-part : goal.invariant-loop-part
invariant-loop-part l = ArePartsAdded l.setting.domain.now (part_times l.of) (without l.name (part_texts l.of)) l.fn.period (IsMadeOfSome (λ part. IsTextCompleted l.setting.domain.now l.name (HasAssignment part l.setting.domain.now)) (take l.part-index l.of)) [] l.parts
