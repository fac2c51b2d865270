-- Parts over the columns of a head.
use Rattle.std.proofs.Common.{◌≡◌, ◌^◌, List, [], Contains, arith, sym, subst, to_z, of_z, w64}
use Rattle.std.specs.Prelude.{ℤ, pos}
use Rattle.std.proofs.lemmas.Int.{ints}
use Rattle.lrp_model.specs.Texts.{Identifier, Text}
use Rattle.lrp_model.specs.declared.relations.Column.{Column}
use Rattle.lrp_store.specs.Stores.{HasReach, IsStore}
use Rattle.lrp_tables.specs.declared.table.Table.{Table}
use Rattle.lrp_tables.specs.Columns.{head_times, head_texts}
use Rattle.lrp_tables.specs.Tables.{HasAssignment, IsExtended, IsTableOf}
use Rattle.lrp_periods.specs.Combining.{IsMadeOfSome}
use Rattle.lrp_periods.specs.Operations.{CanExtendInParts}
use Rattle.lrp_periods.specs.Parts.{ArePartsAdded, HasSome, IsPartOfSet}
use Rattle.lrp_periods.specs.Sets.{IsExtensionOf}
use Rattle.lrp_periods.proofs.Gathering.{Set, added_as}
use Rattle.lrp_periods.proofs.PartLaws.{part_as, part_of_table}
use Rattle.lrp_periods.proofs.PeriodLaws.{in_word}

module _ {domain : List Text} {period : ℤ} {of : List Table} {columns : List Column} (can : CanExtendInParts domain period of columns) where
  abbrev pub extend_each : Table → Set
  extend_each part = IsExtensionOf domain (head_texts columns) (HasAssignment part domain)

  pub extended_part : {part extended made : Table} → Contains of part → IsTableOf domain (head_times columns) (head_texts columns) part.store.period (IsExtended domain columns part) extended → made ≡ extended → IsStore made.store → HasReach made.store (2 ^ 59)
      → IsPartOfSet domain (head_times columns) (head_texts columns) period (extend_each part) made
  extended_part {part} {extended} {made} k table same valid reach =
      let is = can.operand.parts_are.each part k in
      let low = is.valid.period_low in
      part_as (λ env h. record { known = h.known; has = h.has }) (λ env h. record { known = h.known; has = h.has })
      (part_of_table {k = pos part.store.period} (subst (λ t. IsTableOf domain (head_times columns) (head_texts columns) part.store.period (IsExtended domain columns part) t) (sym same) table) valid reach (omega (arith, ints, low)) is.divides)

  pub all_extended : {times texts : List Identifier} {new : List Table} → ArePartsAdded domain times texts period (IsMadeOfSome extend_each of) [] new → ArePartsAdded domain times texts period (IsExtensionOf domain (head_texts columns) (HasSome domain of)) [] new
  all_extended a = added_as
      (λ env h. record { known = h.made.known; has = record { part = h.part; listed = h.listed; has = h.made.has } })
      (λ env h. record { part = h.has.part; listed = h.has.listed; made = record { known = h.known; has = h.has.has } }) a

-- the same in the word of the period
pub extend_word : {domain : List Text} {period : ℤ} {of : List Table} {columns : List Column} → CanExtendInParts domain period of columns → CanExtendInParts domain (to_z w64 (of_z w64 period)) of columns
extend_word {domain} {period} {of} {columns} can = in_word can.operand.period_is (λ p. CanExtendInParts domain p of columns) can
