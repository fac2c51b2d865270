-- Complements and differences of parts.
use Rattle.std.proofs.Common.{◌≡◌, ⊎_elim, ℕ, ◌+◌, ◌^◌, ◌<◌, ◌≤◌, List, [], ◌∷◌, ◌++◌, length, take, Contains, get_or, sym, subst, arith}
use Rattle.std.specs.Prelude.{ℤ, pos, nat_abs, IfOk, Result, Ok}
use Rattle.std.proofs.lemmas.List.{take_all}
use Rattle.lrp_theory.proofs.Members.{front_more, in_one, one_in}
use Rattle.lrp_model.specs.Texts.{Identifier, Text}
use Rattle.lrp_model.specs.Satisfaction.{Assignment}
use Rattle.lrp_store.specs.Stores.{HasReach, IsStore}
use Rattle.lrp_tables.specs.declared.table.Table.{Table}
use Rattle.lrp_tables.specs.Steps.{CanComplement, CanMinus, IsMinusResult}
use Rattle.lrp_tables.specs.Tables.{HasAssignment, HasTexts, IsComplement, IsTableOf}
use Rattle.lrp_steps.proofs.Steps.{farther}
use Rattle.lrp_periods.specs.Combining.{CanTakeAll, CanTakeAway, IsMadeOfSome}
use Rattle.lrp_periods.specs.Operations.{AreOperand, CanBePart, CanMinusInParts}
use Rattle.lrp_periods.specs.Parts.{ArePartsAdded, ArePartsOf, HasSome, IsPeriodPart, IsPartOfSet, part_times, part_texts}
use Rattle.lrp_periods.specs.Periods.{IsCommonPeriod}
use Rattle.lrp_periods.specs.Sets.{IsComplementOf, IsDifferenceOf}
use Rattle.lrp_periods.specs.declared.parts.PartsFault.{PartsFault}
use Rattle.lrp_periods.proofs.Gathering.{Set, added_as, some_last, some_left, some_split}
use Rattle.lrp_periods.proofs.PartLaws.{checked_part, if_part, own_part, part_as, part_low, part_own}
use Rattle.lrp_periods.proofs.PeriodLaws.{own_high}

-- ---- complements

module _ {domain : List Text} {period : ℤ} {part : Table} (can : CanBePart domain period part) where
  pub can_complement : CanComplement part
  can_complement =
      let low : part.store.period ≤ 2 ^ 56 = part_low can.period_is can.part_is in record {
        period = omega arith;
        reach = farther part.store (2 ^ 59) _ (omega arith) can.part_is.reach;
      }

  pub lacked_part : {made : Table} (r : Result Table PartsFault) → IsTableOf domain part.vars.times part.vars.texts part.store.period (IsComplement domain part) made → IfOk r (λ m. m ≡ made) → IfOk r (λ m. IsStore m.store) → IfOk r (λ m. HasReach m.store (2 ^ 59))
      → IfOk r (IsPartOfSet domain part.vars.times part.vars.texts period (IsComplement domain part))
  lacked_part r table same valid reach = let own = part_own can.part_is in checked_part {k = pos part.store.period} r table own.low own.divides same valid reach

module _ {domain : List Text} {period : ℤ} {of : List Table} (can : AreOperand domain period of) where
  pub can_be_part : {part : Table} → Contains of part → CanBePart domain period part
  can_be_part {part} k = record { period_is = can.period_is; part_is = own_part (can.parts_are.each part k) }

  -- what one part lacks, over the variables of all
  pub outside_part : (part : Table) {made : Table} → Contains of part → IsPartOfSet domain part.vars.times part.vars.texts period (IsComplement domain part) made
      → IsPartOfSet domain (part_times of) (part_texts of) period (IsComplementOf domain (part_texts of) (HasAssignment part domain)) made
  outside_part part {made} k own =
      let is = can.parts_are.each part k in
      part_as (λ env h. record { known = subst (λ ns. HasTexts domain ns env) is.texts_are h.known; none = h.none }) (λ env h. record { known = subst (λ ns. HasTexts domain ns env) (sym is.texts_are) h.known; none = h.none })
      (subst (λ ns. IsPartOfSet domain (part_times of) ns period (IsComplement domain part) made) is.texts_are (subst (λ ns. IsPartOfSet domain ns part.vars.texts period (IsComplement domain part) made) is.times_are own))

  -- what the first parts lack, and one more
  abbrev pub LacksFirst : ℕ → Table → Type 0
  LacksFirst n made = IsPartOfSet domain (part_times of) (part_texts of) period (IsComplementOf domain (part_texts of) (HasSome domain (take n of))) made

  pub lacks_one : (part : Table) {made : Table} → 0 < length of → part ≡ get_or of 0 part → IsPartOfSet domain (part_times of) (part_texts of) period (IsComplementOf domain (part_texts of) (HasAssignment part domain)) made → LacksFirst 1 made
  lacks_one part {made} low at is =
      let e : take 1 of ≡ part ∷ [] = front_more of 0 part low at in
      subst (λ ps. IsPartOfSet domain (part_times of) (part_texts of) period (IsComplementOf domain (part_texts of) (HasSome domain ps)) made) (sym e)
      (part_as (λ env h. record { known = h.known; none = λ s. h.none (subst (λ t. HasAssignment t domain env) (sym (in_one part s.part s.listed)) s.has) }) (λ env h. record { known = h.known; none = λ x. h.none (record { part = part; listed = one_in part; has = x }) }) is)

  pub lacks_all : (n : ℕ) {made : Table} → length of ≤ n → LacksFirst n made → IsPartOfSet domain (part_times of) (part_texts of) period (IsComplementOf domain (part_texts of) (HasSome domain of)) made
  lacks_all n {made} high is = subst (λ ps. IsPartOfSet domain (part_times of) (part_texts of) period (IsComplementOf domain (part_texts of) (HasSome domain ps)) made) (take_all n of high) is

-- a list of one part
pub one_part : {domain : List Text} {times texts : List Identifier} {period : ℤ} {set : Set} {made : Table} {parts : List Table} → parts ≡ made ∷ [] → IsPartOfSet domain times texts period set made → ArePartsOf domain times texts period set parts
one_part {domain} {times} {texts} {period} {set} {made} {parts} e is = subst (ArePartsOf domain times texts period set) (sym e) (record {
  parts = record { some = omega arith; few = omega arith; each = λ part k. subst (IsPeriodPart domain made.vars.times made.vars.texts period) (in_one made part k) (own_part is.part) };
  times_are = is.part.times_are;
  texts_are = is.part.texts_are;
  sound = λ env h. is.sound env (subst (λ t. HasAssignment t domain env) (sym (in_one made h.part h.listed)) h.has);
  whole = λ env h. record { part = made; listed = one_in made; has = is.whole env h };
})

-- ---- differences

module _ {domain : List Text} {period : ℤ} {left right : Table} (can : CanTakeAway domain period left right) {k : ℤ} (is : IsCommonPeriod (pos left.store.period) (pos right.store.period) period k) where
  minus_small : nat_abs k ≤ 2 ^ 56
  minus_small = own_high period k can.period_is is.own

  pub can_minus : CanMinus k left right
  can_minus = record {
    low = is.own.low;
    high = (let s = minus_small in omega arith);
    left_period = is.of_left;
    right_period = is.of_right;
    left_reach = farther left.store (2 ^ 59) _ (let s = minus_small in omega arith) can.left_is.reach;
    right_reach = farther right.store (2 ^ 59) _ (let s = minus_small in omega arith) can.right_is.reach;
    columns = can.columns;
  }

  pub taken_part : {cap : ℕ} {made : Table} (r : Result Table PartsFault) → IsMinusResult cap k left right (Ok made) → IfOk r (λ m. m ≡ made) → IfOk r (λ m. IsStore m.store) → IfOk r (λ m. HasReach m.store (2 ^ 59))
      → IfOk r (IsPartOfSet domain left.vars.times left.vars.texts period (IsDifferenceOf (HasAssignment left domain) (HasAssignment right domain)))
  taken_part r m same valid reach = if_part _ _ _ _ _ _ r (λ env h. record { has = h.has; none = h.none }) (λ env h. record { has = h.has; none = h.none }) (checked_part r (m.step domain can.ascends can.left_is.numbered).table is.own.low is.own.divides same valid reach)

module _ {domain : List Text} {period : ℤ} {left : Table} {rights : List Table} (can : CanTakeAll domain period left rights) where
  -- what the first parts leave, and one more
  abbrev pub LeavesFirst : ℕ → Table → Type 0
  LeavesFirst n made = IsPartOfSet domain left.vars.times left.vars.texts period (IsDifferenceOf (HasAssignment left domain) (HasSome domain (take n rights))) made

  pub can_take_first : {right : Table} → Contains rights right → CanTakeAway domain period left right
  can_take_first {right} k = record { period_is = can.period_is; ascends = can.ascends; left_is = can.left_is; right_is = own_part (can.rights_are.each right k); columns = can.columns right k }

  pub can_take : {right made : Table} (n : ℕ) → Contains rights right → LeavesFirst n made → CanTakeAway domain period made right
  can_take {right} {made} n k is = record {
    period_is = can.period_is;
    ascends = can.ascends;
    left_is = own_part is.part;
    right_is = own_part (can.rights_are.each right k);
    columns = record {
      times = λ v c. subst (λ ns. Contains ns v) (sym is.part.times_are) ((can.columns right k).times v c);
      texts = λ v c. subst (λ ns. Contains ns v) (sym is.part.texts_are) ((can.columns right k).texts v c);
    };
  }

  pub leaves_one : (right : Table) {made : Table} → 0 < length rights → right ≡ get_or rights 0 right → IsPartOfSet domain left.vars.times left.vars.texts period (IsDifferenceOf (HasAssignment left domain) (HasAssignment right domain)) made → LeavesFirst 1 made
  leaves_one right {made} low at is =
      let e : take 1 rights ≡ right ∷ [] = front_more rights 0 right low at in
      subst (λ ps. IsPartOfSet domain left.vars.times left.vars.texts period (IsDifferenceOf (HasAssignment left domain) (HasSome domain ps)) made) (sym e)
      (part_as (λ env h. record { has = h.has; none = λ s. h.none (subst (λ t. HasAssignment t domain env) (sym (in_one right s.part s.listed)) s.has) }) (λ env h. record { has = h.has; none = λ x. h.none (record { part = right; listed = one_in right; has = x }) }) is)

  pub leaves_more : (n : ℕ) (right : Table) {made new : Table} → n < length rights → right ≡ get_or rights n right → LeavesFirst n made → IsPartOfSet domain made.vars.times made.vars.texts period (IsDifferenceOf (HasAssignment made domain) (HasAssignment right domain)) new → LeavesFirst (n + 1) new
  leaves_more n right {made} {new} low at first own =
      subst (λ ps. IsPartOfSet domain left.vars.times left.vars.texts period (IsDifferenceOf (HasAssignment left domain) (HasSome domain ps)) new) (sym (front_more rights n right low at))
      (part_as to from (subst (λ ns. IsPartOfSet domain left.vars.times ns period (IsDifferenceOf (HasAssignment made domain) (HasAssignment right domain)) new) first.part.texts_are (subst (λ ns. IsPartOfSet domain ns made.vars.texts period (IsDifferenceOf (HasAssignment made domain) (HasAssignment right domain)) new) first.part.times_are own)))
    where
      to : (env : Assignment) → IsDifferenceOf (HasAssignment made domain) (HasAssignment right domain) env → IsDifferenceOf (HasAssignment left domain) (HasSome domain (take n rights ++ right ∷ [])) env
      to env h = record {
        has = (first.sound env h.has).has;
        none = λ s. ⊎_elim (λ a. (first.sound env h.has).none a) (λ b. h.none b) (some_split domain (take n rights) right env s);
      }

      from : (env : Assignment) → IsDifferenceOf (HasAssignment left domain) (HasSome domain (take n rights ++ right ∷ [])) env → IsDifferenceOf (HasAssignment made domain) (HasAssignment right domain) env
      from env h = record {
        has = first.whole env (record { has = h.has; none = λ s. h.none (some_left domain (take n rights) (right ∷ []) env s) });
        none = λ x. h.none (some_last domain (take n rights) right env x);
      }

  pub leaves_all : (n : ℕ) {made : Table} → length rights ≤ n → LeavesFirst n made → IsPartOfSet domain left.vars.times left.vars.texts period (IsDifferenceOf (HasAssignment left domain) (HasSome domain rights)) made
  leaves_all n {made} high is = subst (λ ps. IsPartOfSet domain left.vars.times left.vars.texts period (IsDifferenceOf (HasAssignment left domain) (HasSome domain ps)) made) (take_all n rights high) is

module _ {domain : List Text} {period : ℤ} {lefts rights : List Table} (can : CanMinusInParts domain period lefts rights) where
  abbrev pub minus_each : Table → Set
  minus_each left = IsDifferenceOf (HasAssignment left domain) (HasSome domain rights)

  pub can_take_all : {left : Table} → Contains lefts left → CanTakeAll domain period left rights
  can_take_all {left} k = record { period_is = can.period_is; ascends = can.ascends; left_is = own_part (can.lefts_are.each left k); rights_are = can.rights_are; columns = λ right q. can.columns left right k q }

  pub minus_made : (left : Table) {made : Table} → Contains lefts left → IsPartOfSet domain left.vars.times left.vars.texts period (minus_each left) made → IsPartOfSet domain (part_times lefts) (part_texts lefts) period (minus_each left) made
  minus_made left {made} k is = subst (λ ns. IsPartOfSet domain (part_times lefts) ns period (minus_each left) made) (can.lefts_are.each left k).texts_are (subst (λ ns. IsPartOfSet domain ns left.vars.texts period (minus_each left) made) (can.lefts_are.each left k).times_are is)

  pub all_taken : {times texts : List Identifier} {new : List Table} → ArePartsAdded domain times texts period (IsMadeOfSome minus_each lefts) [] new → ArePartsAdded domain times texts period (IsDifferenceOf (HasSome domain lefts) (HasSome domain rights)) [] new
  all_taken a = added_as
      (λ env h. record { has = record { part = h.part; listed = h.listed; has = h.made.has }; none = h.made.none })
      (λ env h. record { part = h.has.part; listed = h.has.listed; made = record { has = h.has.has; none = h.none } }) a
