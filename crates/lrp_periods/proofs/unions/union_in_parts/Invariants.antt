-- The parts so far are added over the variables of both tables.
use Rattle.std.proofs.Common.{◌⊎◌, [], take}
use Rattle.lrp_tables.specs.Columns.{joint}
use Rattle.lrp_tables.specs.Tables.{HasAssignment}
use Rattle.lrp_periods.specs.Combining.{IsMadeOfSome}
use Rattle.lrp_periods.specs.Parts.{ArePartsAdded, part_times, part_texts}
use Rattle.lrp_periods.specs.Sets.{IsExtensionOf}
use Rattle.lrp_periods.proofs.unions.union_in_parts.Given as goal

abbrev pub invariant-loop-left : goal.invariant-loop-left
invariant-loop-left l = ArePartsAdded l.setting.domain.now (joint (part_times l.lefts) (part_times l.rights)) (joint (part_texts l.lefts) (part_texts l.rights)) l.fn.period
    (IsMadeOfSome (λ part. IsExtensionOf l.setting.domain.now (joint (part_texts l.lefts) (part_texts l.rights)) (HasAssignment part l.setting.domain.now)) (take l.left-index l.lefts)) [] l.parts

abbrev pub invariant-loop-right : goal.invariant-loop-right
invariant-loop-right l = ArePartsAdded l.setting.domain.now (joint (part_times l.lefts) (part_times l.rights)) (joint (part_texts l.lefts) (part_texts l.rights)) l.fn.period
    (λ env. IsMadeOfSome (λ part. IsExtensionOf l.setting.domain.now (joint (part_texts l.lefts) (part_texts l.rights)) (HasAssignment part l.setting.domain.now)) l.lefts env
    ⊎ IsMadeOfSome (λ part. IsExtensionOf l.setting.domain.now (joint (part_texts l.lefts) (part_texts l.rights)) (HasAssignment part l.setting.domain.now)) (take l.right-index l.rights) env) [] l.parts
