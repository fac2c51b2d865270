-- Operations on the parts of one table, part by part.
use Rattle.std.proofs.Common.{◌≡◌, ◌^◌, ◌≤◌, List, [], Contains, sym, ap, subst, ◌∙◌, arith}
use Rattle.std.specs.Prelude.{ℤ, pos, nat_abs, IfOk, Result}
use Rattle.std.proofs.lemmas.Int.{ints}
use Rattle.lrp_theory.specs.Divides.{Divides}
use Rattle.lrp_model.specs.Texts.{Identifier, Text, without}
use Rattle.lrp_model.specs.declared.formulas.Test.{Test}
use Rattle.lrp_store.specs.Stores.{HasReach, IsStore}
use Rattle.lrp_tables.specs.declared.table.Table.{Table}
use Rattle.lrp_tables.specs.Calls.{test_period}
use Rattle.lrp_tables.specs.Columns.{texts_of_test, times_of_test}
use Rattle.lrp_tables.specs.Steps.{CanSelect}
use Rattle.lrp_tables.specs.Tables.{AreNamesAmong, HasAssignment, IsSelected, IsTableOf}
use Rattle.lrp_steps.specs.Tables.{IsTextDropped, IsTimeDropped}
use Rattle.lrp_steps.proofs.Steps.{farther}
use Rattle.lrp_dropping.specs.Without.{IsTimeCompleted}
use Rattle.lrp_periods.specs.Combining.{CanSelectPart, IsMadeOfSome}
use Rattle.lrp_periods.specs.Operations.{AreOperand, CanSelectInParts}
use Rattle.lrp_periods.specs.Parts.{ArePartsAdded, HasSome, IsPartOfSet, part_times, part_texts}
use Rattle.lrp_periods.specs.Periods.{IsCommonPeriod}
use Rattle.lrp_periods.specs.Sets.{IsSelectionOf, IsTextCompleted}
use Rattle.lrp_periods.specs.declared.parts.PartsFault.{PartsFault}
use Rattle.lrp_periods.proofs.Gathering.{Set, added_as}
use Rattle.lrp_periods.proofs.PartLaws.{checked_part, if_part, own_part}
use Rattle.lrp_periods.proofs.PeriodLaws.{own_high, own_within}

-- ---- time variables

module _ {domain : List Text} {period : ℤ} {of : List Table} (can : AreOperand domain period of) (name : Identifier) where
  abbrev pub time_each : Table → Set
  time_each part = IsTimeCompleted name (HasAssignment part domain)

  pub drop_room : {part : Table} → Contains of part → HasReach part.store (2 ^ 61)
  drop_room {part} k = farther part.store (2 ^ 59) _ (omega arith) (can.parts_are.each part k).reach

  pub time_part : {part made : Table} → Contains of part → IsTimeDropped name part made → IsStore made.store → HasReach made.store (2 ^ 59) → IsPartOfSet domain (without name (part_times of)) (part_texts of) period (time_each part) made
  time_part {part} {made} k d valid reach =
      let is = can.parts_are.each part k in record {
        part = record {
          valid = valid;
          times_are = d.times ∙ ap (without name) is.times_are;
          texts_are = d.texts ∙ is.texts_are;
          divides = subst (λ n. Divides (pos n) period) (sym d.period) is.divides;
          numbered = d.numbered domain is.numbered;
          reach = reach;
        };
        sound = λ env h. d.to domain env h;
        whole = λ env h. d.from domain env h.0 h.1;
      }

  -- and once its bounds are checked
  pub dropped_time : {part dropped made : Table} → Contains of part → IsTimeDropped name part dropped → made ≡ dropped → IsStore made.store → HasReach made.store (2 ^ 59) → IsPartOfSet domain (without name (part_times of)) (part_texts of) period (time_each part) made
  dropped_time {part} {dropped} {made} k d same valid reach = time_part k (subst (IsTimeDropped name part) (sym same) d) valid reach

  pub times_dropped : {times texts : List Identifier} {new : List Table} → ArePartsAdded domain times texts period (IsMadeOfSome time_each of) [] new → ArePartsAdded domain times texts period (IsTimeCompleted name (HasSome domain of)) [] new
  times_dropped a = added_as
      (λ env h. (h.made.0, record { part = h.part; listed = h.listed; has = h.made.1 }))
      (λ env h. record { part = h.1.part; listed = h.1.listed; made = (h.0, h.1.has) }) a

  -- ---- data variables

  abbrev pub text_each : Table → Set
  text_each part = IsTextCompleted domain name (HasAssignment part domain)

  pub text_part : {part made : Table} → Contains of part → IsTextDropped domain name part made → IsStore made.store → HasReach made.store (2 ^ 59) → IsPartOfSet domain (part_times of) (without name (part_texts of)) period (text_each part) made
  text_part {part} {made} k d valid reach =
      let is = can.parts_are.each part k in record {
        part = record {
          valid = valid;
          times_are = d.times ∙ is.times_are;
          texts_are = d.texts ∙ ap (without name) is.texts_are;
          divides = subst (λ n. Divides (pos n) period) (sym d.period) is.divides;
          numbered = d.numbered is.numbered;
          reach = reach;
        };
        sound = λ env h. d.to env h;
        whole = λ env h. d.from env h.0 h.1 h.2;
      }

  pub dropped_text : {part dropped made : Table} → Contains of part → IsTextDropped domain name part dropped → made ≡ dropped → IsStore made.store → HasReach made.store (2 ^ 59) → IsPartOfSet domain (part_times of) (without name (part_texts of)) period (text_each part) made
  dropped_text {part} {dropped} {made} k d same valid reach = text_part k (subst (IsTextDropped domain name part) (sym same) d) valid reach

  pub texts_dropped : {times texts : List Identifier} {new : List Table} → ArePartsAdded domain times texts period (IsMadeOfSome text_each of) [] new → ArePartsAdded domain times texts period (IsTextCompleted domain name (HasSome domain of)) [] new
  texts_dropped a = added_as
      (λ env h. (h.made.0, h.made.1, record { part = h.part; listed = h.listed; has = h.made.2 }))
      (λ env h. record { part = h.2.part; listed = h.2.listed; made = (h.0, h.1, h.2.has) }) a

-- ---- selections

module _ {domain : List Text} {period : ℤ} {part : Table} {test : Test} (can : CanSelectPart domain period part test) {k : ℤ} (is : IsCommonPeriod (pos part.store.period) (test_period test) period k) where
  select_small : nat_abs k ≤ 2 ^ 56
  select_small = own_high period k can.period_is is.own

  pub can_select : CanSelect k part test
  can_select = record {
    low = is.own.low;
    high = (let s = select_small in let l = is.own.low in omega (arith, ints));
    divides = is.of_left;
    reach = farther part.store (2 ^ 59) _ (let s = select_small in omega arith) can.part_is.reach;
    carried = record { times_known = can.carried.times_known; texts_known = can.carried.texts_known; low = can.carried.low; divides = is.of_right };
    test_small = (let s = can.small in let w = own_within period k can.period_is is.own in omega arith);
  }

  pub selected_part : {made : Table} (r : Result Table PartsFault) → IsTableOf domain part.vars.times part.vars.texts (nat_abs k) (IsSelected domain part test) made
      → IfOk r (λ m. m ≡ made) → IfOk r (λ m. IsStore m.store) → IfOk r (λ m. HasReach m.store (2 ^ 59))
      → IfOk r (IsPartOfSet domain part.vars.times part.vars.texts period (IsSelectionOf (HasAssignment part domain) test))
  selected_part r table same valid reach = if_part _ _ _ _ _ _ r (λ env h. record { has = h.has; passes = h.passes }) (λ env h. record { has = h.has; passes = h.passes }) (checked_part r table is.own.low is.own.divides same valid reach)

module _ {domain : List Text} {period : ℤ} {of : List Table} {test : Test} (can : CanSelectInParts domain period of test) where
  abbrev pub select_each : Table → Set
  select_each part = IsSelectionOf (HasAssignment part domain) test

  pub can_select_part : {part : Table} → Contains of part → CanSelectPart domain period part test
  can_select_part {part} k =
      let is = can.parts_are.each part k in record {
        period_is = can.period_is;
        part_is = own_part is;
        carried = record {
          times_known = subst (AreNamesAmong (times_of_test test)) (sym is.times_are) can.carried.times_known;
          texts_known = subst (AreNamesAmong (texts_of_test test)) (sym is.texts_are) can.carried.texts_known;
          low = can.carried.low;
          divides = can.carried.divides;
        };
        small = can.test_small;
      }

  pub select_made : (part : Table) {made : Table} → Contains of part → IsPartOfSet domain part.vars.times part.vars.texts period (select_each part) made → IsPartOfSet domain (part_times of) (part_texts of) period (select_each part) made
  select_made part {made} k is = subst (λ ns. IsPartOfSet domain (part_times of) ns period (select_each part) made) (can.parts_are.each part k).texts_are (subst (λ ns. IsPartOfSet domain ns part.vars.texts period (select_each part) made) (can.parts_are.each part k).times_are is)

  pub all_selected : {times texts : List Identifier} {new : List Table} → ArePartsAdded domain times texts period (IsMadeOfSome select_each of) [] new → ArePartsAdded domain times texts period (IsSelectionOf (HasSome domain of) test) [] new
  all_selected a = added_as
      (λ env h. record { has = record { part = h.part; listed = h.listed; has = h.made.has }; passes = h.made.passes })
      (λ env h. record { part = h.has.part; listed = h.has.listed; made = record { has = h.has.has; passes = h.passes } }) a
