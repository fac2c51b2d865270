-- Unions of parts, and parts brought to one period.
use Rattle.std.proofs.Common.{◌≡◌, ◌⊎◌, inl, inr, ⊎_elim, ℕ, ◌+◌, ◌-◌, ◌^◌, ◌<◌, ◌≤◌, List, [], ◌∷◌, length, take, Contains, get_or, sym, ap, subst, ◌∙◌, arith}
use Rattle.std.specs.Prelude.{ℤ, pos, nat_abs, IfOk, Result, Ok, Err, IsSome}
use Rattle.std.specs.FinMap as finite
use Rattle.std.specs.FinMap.{get-empty}
use Rattle.std.proofs.lemmas.Int.{ints}
use Rattle.std.proofs.lemmas.Bool.{false≢true}
use Rattle.std.proofs.lemmas.List.{take_all}
use Rattle.std.proofs.lemmas.List.Elements.{Contains-append_cases, Contains-append_left, Contains-append_right}
use Rattle.lrp_theory.specs.Divides.{Divides}
use Rattle.lrp_theory.proofs.Members.{front_more, in_none, in_one, one_in}
use Rattle.lrp_theory.proofs.Modulo.{Divides-self}
use Rattle.lrp_model.specs.Texts.{Identifier, Text}
use Rattle.lrp_model.specs.Satisfaction.{Assignment}
use Rattle.lrp_slots.specs.Lists.{cell_cmp}
use Rattle.lrp_store.specs.Stores.{HasReach, IsStore}
use Rattle.lrp_store.specs.Tables.{AreNumbered}
use Rattle.lrp_store.proofs.Aligning.{nothing_held}
use Rattle.lrp_store.proofs.Rooms.{empty_reach}
use Rattle.lrp_tables.specs.declared.table.Table.{Table}
use Rattle.lrp_tables.specs.Columns.{joint}
use Rattle.lrp_tables.specs.Steps.{CanUnite}
use Rattle.lrp_tables.specs.Tables.{HasAssignment, HasTexts, IsTableOf, IsUnited}
use Rattle.lrp_steps.proofs.Steps.{farther}
use Rattle.lrp_periods.specs.Combining.{CanStandBeside, IsMadeOfSome, IsNothingOver}
use Rattle.lrp_periods.specs.Operations.{CanCombineInParts}
use Rattle.lrp_periods.specs.Parts.{ArePartsAdded, HasSome, IsPartOfSet, part_times, part_texts}
use Rattle.lrp_periods.specs.Sets.{IsExtensionOf, IsUnionOf}
use Rattle.lrp_periods.specs.declared.parts.PartsFault.{PartsFault}
use Rattle.lrp_periods.proofs.Gathering.{Set, added_as, added_more, added_part}
use Rattle.lrp_periods.proofs.PartLaws.{checked_part, if_part, own_part, part_low}

-- ---- a table that has nothing

module _ {table nothing : Table} {k : ℕ} (is : IsNothingOver table k nothing) where
  pub has_nothing : (domain : List Text) (env : Assignment) → HasAssignment nothing domain env → ⊥
  has_nothing domain env h = nothing_held nothing.store is.none _ h.0 h.2

  pub nothing_reach : (high : ℕ) → HasReach nothing.store high
  nothing_reach high = empty_reach nothing.store high is.none

  pub nothing_numbered : (domain : List Text) → AreNumbered domain nothing.store
  nothing_numbered domain cell i some low = absurd (false≢true (subst IsSome (ap (λ m. finite.get m cell) is.none ∙ get-empty cell_cmp cell) some))

  pub nothing_times : nothing.vars.times ≡ table.vars.times
  nothing_times = ap (λ v. v.times) is.vars_are

  pub nothing_texts : nothing.vars.texts ≡ table.vars.texts
  nothing_texts = ap (λ v. v.texts) is.vars_are

pub one_divides : (n : ℕ) (k : ℤ) → n ≡ 1 → Divides (pos n) k
one_divides n k e = subst (λ m. Divides (pos m) k) (sym e) (record { times = k; is = omega (arith, ints) })

-- ---- one table over the variables of both

module _ {domain : List Text} {period : ℤ} {left right : Table} (can : CanStandBeside domain period left right) where
  module _ {nothing : Table} (is : IsNothingOver right 1 nothing) {k : ℤ} (e : k ≡ pos left.store.period) where
    left_room : 2 ^ 59 ≤ 2 ^ 62 - nat_abs k
    left_room = let v : left.store.period ≤ 2 ^ 56 = part_low can.period_is can.left_is in let n : nat_abs k ≡ left.store.period = ap nat_abs e in omega arith

    pub left_unites : CanUnite domain k left nothing
    left_unites = record {
      tables = record {
        low = (let v : 0 < left.store.period = can.left_is.valid.period_low in omega (arith, ints));
        high = (let v = part_low can.period_is can.left_is in omega (arith, ints));
        left_period = subst (Divides (pos left.store.period)) (sym e) (Divides-self (pos left.store.period));
        right_period = one_divides nothing.store.period k is.period_is;
        left_reach = farther left.store (2 ^ 59) _ left_room can.left_is.reach;
        right_reach = nothing_reach is _;
        columns = record {
          times = subst (λ ns. length (joint left.vars.times ns) ≤ 8) (sym (nothing_times is)) can.columns.times;
          texts = subst (λ ns. length (joint left.vars.texts ns) ≤ 8) (sym (nothing_texts is)) can.columns.texts;
          left_apart = subst (λ ns. (v : Identifier) → Contains left.vars.times v → Contains ns v → ⊥) (sym (nothing_texts is)) can.columns.left_apart;
          right_apart = subst (λ ns. (v : Identifier) → Contains ns v → Contains left.vars.texts v → ⊥) (sym (nothing_times is)) can.columns.right_apart;
        };
      };
      left_numbered = can.left_is.numbered;
      right_numbered = nothing_numbered is domain;
    }

    pub left_widened : {made : Table} (r : Result Table PartsFault) → IsTableOf domain (joint left.vars.times nothing.vars.times) (joint left.vars.texts nothing.vars.texts) (nat_abs k) (IsUnited domain left nothing) made
        → IfOk r (λ m. m ≡ made) → IfOk r (λ m. IsStore m.store) → IfOk r (λ m. HasReach m.store (2 ^ 59))
        → IfOk r (IsPartOfSet domain (joint left.vars.times right.vars.times) (joint left.vars.texts right.vars.texts) period (IsExtensionOf domain (joint left.vars.texts right.vars.texts) (HasAssignment left domain)))
    left_widened {made} r table same valid reach = if_part _ _ _ _ _ _ r
        (λ env h. record { known = subst (λ ns. HasTexts domain (joint left.vars.texts ns) env) (nothing_texts is) h.known; has = ⊎_elim (λ a. a) (λ b. absurd (has_nothing is domain env b)) h.has })
        (λ env h. record { known = subst (λ ns. HasTexts domain (joint left.vars.texts ns) env) (sym (nothing_texts is)) h.known; has = inl h.has })
        (checked_part r
        (subst (λ ns. IsTableOf domain (joint left.vars.times right.vars.times) (joint left.vars.texts ns) (nat_abs k) (IsUnited domain left nothing) made) (nothing_texts is)
        (subst (λ ns. IsTableOf domain (joint left.vars.times ns) (joint left.vars.texts nothing.vars.texts) (nat_abs k) (IsUnited domain left nothing) made) (nothing_times is) table))
        (let v : 0 < left.store.period = can.left_is.valid.period_low in omega (arith, ints)) (subst (λ z. Divides z period) (sym e) can.left_is.divides) same valid reach)

  module _ {nothing : Table} (is : IsNothingOver left 1 nothing) {k : ℤ} (e : k ≡ pos right.store.period) where
    right_room : 2 ^ 59 ≤ 2 ^ 62 - nat_abs k
    right_room = let v : right.store.period ≤ 2 ^ 56 = part_low can.period_is can.right_is in let n : nat_abs k ≡ right.store.period = ap nat_abs e in omega arith

    pub right_unites : CanUnite domain k nothing right
    right_unites = record {
      tables = record {
        low = (let v : 0 < right.store.period = can.right_is.valid.period_low in omega (arith, ints));
        high = (let v = part_low can.period_is can.right_is in omega (arith, ints));
        left_period = one_divides nothing.store.period k is.period_is;
        right_period = subst (Divides (pos right.store.period)) (sym e) (Divides-self (pos right.store.period));
        left_reach = nothing_reach is _;
        right_reach = farther right.store (2 ^ 59) _ right_room can.right_is.reach;
        columns = record {
          times = subst (λ ns. length (joint ns right.vars.times) ≤ 8) (sym (nothing_times is)) can.columns.times;
          texts = subst (λ ns. length (joint ns right.vars.texts) ≤ 8) (sym (nothing_texts is)) can.columns.texts;
          left_apart = subst (λ ns. (v : Identifier) → Contains ns v → Contains right.vars.texts v → ⊥) (sym (nothing_times is)) can.columns.left_apart;
          right_apart = subst (λ ns. (v : Identifier) → Contains right.vars.times v → Contains ns v → ⊥) (sym (nothing_texts is)) can.columns.right_apart;
        };
      };
      left_numbered = nothing_numbered is domain;
      right_numbered = can.right_is.numbered;
    }

    pub right_widened : {made : Table} (r : Result Table PartsFault) → IsTableOf domain (joint nothing.vars.times right.vars.times) (joint nothing.vars.texts right.vars.texts) (nat_abs k) (IsUnited domain nothing right) made
        → IfOk r (λ m. m ≡ made) → IfOk r (λ m. IsStore m.store) → IfOk r (λ m. HasReach m.store (2 ^ 59))
        → IfOk r (IsPartOfSet domain (joint left.vars.times right.vars.times) (joint left.vars.texts right.vars.texts) period (IsExtensionOf domain (joint left.vars.texts right.vars.texts) (HasAssignment right domain)))
    right_widened {made} r table same valid reach = if_part _ _ _ _ _ _ r
        (λ env h. record { known = subst (λ ns. HasTexts domain (joint ns right.vars.texts) env) (nothing_texts is) h.known; has = ⊎_elim (λ b. absurd (has_nothing is domain env b)) (λ a. a) h.has })
        (λ env h. record { known = subst (λ ns. HasTexts domain (joint ns right.vars.texts) env) (sym (nothing_texts is)) h.known; has = inr h.has })
        (checked_part r
        (subst (λ ns. IsTableOf domain (joint left.vars.times right.vars.times) (joint ns right.vars.texts) (nat_abs k) (IsUnited domain nothing right) made) (nothing_texts is)
        (subst (λ ns. IsTableOf domain (joint ns right.vars.times) (joint nothing.vars.texts right.vars.texts) (nat_abs k) (IsUnited domain nothing right) made) (nothing_times is) table))
        (let v : 0 < right.store.period = can.right_is.valid.period_low in omega (arith, ints)) (subst (λ z. Divides z period) (sym e) can.right_is.divides) same valid reach)

-- ---- the parts of both

module _ {domain : List Text} {period : ℤ} {lefts rights : List Table} (can : CanCombineInParts domain period lefts rights) where
  abbrev both_texts : List Identifier
  both_texts = joint (part_texts lefts) (part_texts rights)

  abbrev pub wide_each : Table → Set
  wide_each part = IsExtensionOf domain (joint (part_texts lefts) (part_texts rights)) (HasAssignment part domain)

  pub can_stand_beside : {left right : Table} → Contains lefts left → Contains rights right → CanStandBeside domain period left right
  can_stand_beside {left} {right} k q = record { period_is = can.period_is; left_is = own_part (can.lefts_are.each left k); right_is = own_part (can.rights_are.each right q); columns = can.columns left right k q }

  pub wide_part : (left right part : Table) {made : Table} → Contains lefts left → Contains rights right → IsPartOfSet domain (joint left.vars.times right.vars.times) (joint left.vars.texts right.vars.texts) period (IsExtensionOf domain (joint left.vars.texts right.vars.texts) (HasAssignment part domain)) made
      → IsPartOfSet domain (joint (part_times lefts) (part_times rights)) (joint (part_texts lefts) (part_texts rights)) period (wide_each part) made
  wide_part left right part {made} k q is =
      let l = can.lefts_are.each left k in
      let r = can.rights_are.each right q in
      subst (λ ns. IsPartOfSet domain (joint (part_times lefts) (part_times rights)) ns period (IsExtensionOf domain ns (HasAssignment part domain)) made) (ap (λ ns. joint ns right.vars.texts) l.texts_are ∙ ap (joint (part_texts lefts)) r.texts_are)
      (subst (λ ns. IsPartOfSet domain ns (joint left.vars.texts right.vars.texts) period (IsExtensionOf domain (joint left.vars.texts right.vars.texts) (HasAssignment part domain)) made) (ap (λ ns. joint ns right.vars.times) l.times_are ∙ ap (joint (part_times lefts)) r.times_are) is)

  -- those of the left table, and some of the right one's
  pub both_begun : {times texts : List Identifier} {parts : List Table} → ArePartsAdded domain times texts period (IsMadeOfSome wide_each lefts) [] parts
      → ArePartsAdded domain times texts period (λ env. IsMadeOfSome wide_each lefts env ⊎ IsMadeOfSome wide_each (take 0 rights) env) [] parts
  both_begun a = added_as (λ env h. inl h) (λ env h. ⊎_elim (λ l. l) (λ r. absurd (in_none r.part r.listed)) h) a

  pub both_more : {times texts : List Identifier} {mid new : List Table} {made : Table} (n : ℕ) (right : Table) → n < length rights → right ≡ get_or rights n right
      → ArePartsAdded domain times texts period (λ env. IsMadeOfSome wide_each lefts env ⊎ IsMadeOfSome wide_each (take n rights) env) [] mid → IsPartOfSet domain times texts period (wide_each right) made → ArePartsAdded domain made.vars.times made.vars.texts period (HasAssignment made domain) mid new
      → ArePartsAdded domain times texts period (λ env. IsMadeOfSome wide_each lefts env ⊎ IsMadeOfSome wide_each (take (n + 1) rights) env) [] new
  both_more {times} {texts} {mid} {new} {made} n right low at first is own =
      subst (λ ps. ArePartsAdded domain times texts period (λ env. IsMadeOfSome wide_each lefts env ⊎ IsMadeOfSome wide_each ps env) [] new) (sym (front_more rights n right low at))
      (added_as
      (λ env h. ⊎_elim (λ a. ⊎_elim (λ l. inl l) (λ r. inr (record { part = r.part; listed = Contains-append_left (take n rights) (right ∷ []) r.part r.listed; made = r.made })) a) (λ b. inr (record { part = right; listed = Contains-append_right (take n rights) (right ∷ []) right (one_in right); made = b })) h)
      (λ env h. ⊎_elim (λ l. inl (inl l)) (λ r. elim (Contains-append_cases (take n rights) (right ∷ []) r.part r.listed) [
        | inl a ↦ inl (inr (record { part = r.part; listed = a; made = r.made }))
        | inr b ↦ inr (subst (λ t. wide_each t env) (sym (in_one right r.part b)) r.made)
      ]) h)
      (added_more first (added_part is own)))

  pub both_all : {times texts : List Identifier} {new : List Table} (n : ℕ) → length rights ≤ n → ArePartsAdded domain times texts period (λ env. IsMadeOfSome wide_each lefts env ⊎ IsMadeOfSome wide_each (take n rights) env) [] new
      → ArePartsAdded domain times texts period (λ env. IsMadeOfSome wide_each lefts env ⊎ IsMadeOfSome wide_each rights env) [] new
  both_all {times} {texts} {new} n high a = subst (λ ps. ArePartsAdded domain times texts period (λ env. IsMadeOfSome wide_each lefts env ⊎ IsMadeOfSome wide_each ps env) [] new) (take_all n rights high) a

  pub all_united : {times texts : List Identifier} {new : List Table} → ArePartsAdded domain times texts period (λ env. IsMadeOfSome wide_each lefts env ⊎ IsMadeOfSome wide_each rights env) [] new
      → ArePartsAdded domain times texts period (IsUnionOf domain (joint (part_texts lefts) (part_texts rights)) (HasSome domain lefts) (HasSome domain rights)) [] new
  all_united a = added_as
      (λ env h. ⊎_elim (λ l. record { known = l.made.known; has = inl (record { part = l.part; listed = l.listed; has = l.made.has }) }) (λ r. record { known = r.made.known; has = inr (record { part = r.part; listed = r.listed; has = r.made.has }) }) h)
      (λ env h. ⊎_elim (λ l. inl (record { part = l.part; listed = l.listed; made = record { known = h.known; has = l.has } })) (λ r. inr (record { part = r.part; listed = r.listed; made = record { known = h.known; has = r.has } })) h.has) a

-- what holds of a result in each period
pub beside_ok : (domain : List Text) (left right : Table) (Q : ℤ → Table → Type 0) (r : Result Table PartsFault) → ((period : ℤ) → CanStandBeside domain period left right → IfOk r (Q period)) → IfOk r (λ made. (period : ℤ) → CanStandBeside domain period left right → Q period made)
beside_ok domain left right Q (Ok made) f = f
beside_ok domain left right Q (Err fault) f = tt
