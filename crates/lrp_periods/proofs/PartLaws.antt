-- Tables over the same variables, and their unions.
use Rattle.std.proofs.Common.{◌≡◌, ◌⊎◌, inl, inr, ⊎_elim, ℕ, ◌+◌, ◌-◌, ◌^◌, ◌<◌, ◌≤◌, List, [], ◌∷◌, ◌++◌, length, length-append, Contains, get_or, Option, Some, refl, sym, ap, subst, ◌∙◌, arith, to_z, of_z, w64}
use Rattle.std.specs.Prelude.{ℤ, pos, nat_abs, ◌≤ℤ◌, slice_get, slice_set, IfOk, Result, Ok, Err}
use Rattle.std.proofs.lemmas.Int.{ints}
use Rattle.std.proofs.lemmas.List.{get_or-set_same, get_or-set_other, length-set}
use Rattle.std.proofs.lemmas.List.Elements.{Contains-append_cases}
use Rattle.std.proofs.lemmas.Option.{get_or_from_slice_get, slice_get-get_or}
use Rattle.lrp_theory.specs.Divides.{Divides}
use Rattle.lrp_theory.proofs.Members.{below_or, in_one}
use Rattle.lrp_theory.proofs.Modulo.{Divides-self}
use Rattle.lrp_model.specs.Texts.{Identifier, Text}
use Rattle.lrp_model.specs.Satisfaction.{Assignment}
use Rattle.lrp_store.specs.Stores.{HasReach, IsStore}
use Rattle.lrp_tables.specs.declared.table.Table.{Table}
use Rattle.lrp_tables.specs.Calls.{CanMeet}
use Rattle.lrp_tables.specs.Columns.{joint}
use Rattle.lrp_tables.specs.Steps.{CanUnite}
use Rattle.lrp_tables.specs.Tables.{HasAssignment, HasTexts, IsTableOf, IsUnited}
use Rattle.lrp_tables.proofs.Joining.{at_place, joint_within}
use Rattle.lrp_tables.proofs.TableLaws.{table_texts}
use Rattle.lrp_steps.proofs.Steps.{farther}
use Rattle.lrp_steps.proofs.United.{apart_names}
use Rattle.lrp_periods.specs.Combining.{AreAllParts, CanAddPart, IsPlaceWith, IsSomePart}
use Rattle.lrp_periods.specs.Parts.{ArePartsAdded, IsPeriodPart, IsPartOfSet, IsSmallPeriod}
use Rattle.lrp_periods.specs.declared.parts.PartsFault.{PartsFault}
use Rattle.lrp_periods.specs.Periods.{IsOwnPeriod}
use Rattle.lrp_periods.proofs.Gathering.{Set, some_left, some_last, some_split}
use Rattle.lrp_periods.proofs.PeriodLaws.{own_high, own_word}

-- ---- one part

-- a table of a set is a part of it
pub part_of_table : {domain : List Text} {times texts : List Identifier} {period k : ℤ} {set : Set} {made : Table} → IsTableOf domain times texts (nat_abs k) set made → IsStore made.store → HasReach made.store (2 ^ 59) → pos 1 ≤ℤ k → Divides k period → IsPartOfSet domain times texts period set made
part_of_table {domain} {times} {texts} {period} {k} {set} {made} is valid reach low divides = record {
  part = record {
    valid = valid;
    times_are = is.times_are;
    texts_are = is.texts_are;
    divides = subst (λ z. Divides z period) (let e = is.period_is in natural_of made.store.period e) divides;
    numbered = is.numbered;
    reach = reach;
  };
  sound = is.sound;
  whole = is.whole;
}
  where
    natural_of : (n : ℕ) → n ≡ nat_abs k → k ≡ pos n
    natural_of n e = omega (arith, ints)

pub part_as : {domain : List Text} {times texts : List Identifier} {period : ℤ} {set other : Set} {made : Table} → ((env : Assignment) → set env → other env) → ((env : Assignment) → other env → set env) → IsPartOfSet domain times texts period set made → IsPartOfSet domain times texts period other made
part_as to from is = record { part = is.part; sound = λ env h. to env (is.sound env h); whole = λ env h. is.whole env (from env h) }

-- a part over its own variables
pub own_part : {domain : List Text} {times texts : List Identifier} {period : ℤ} {part : Table} → IsPeriodPart domain times texts period part → IsSomePart domain period part
own_part {domain} {times} {texts} {period} {part} is = record { valid = is.valid; times_are = refl; texts_are = refl; divides = is.divides; numbered = is.numbered; reach = is.reach }

pub over_names : {domain : List Text} {times texts : List Identifier} {period : ℤ} {part : Table} → IsSomePart domain period part → part.vars.times ≡ times → part.vars.texts ≡ texts → IsPeriodPart domain times texts period part
over_names is t x = record { valid = is.valid; times_are = t; texts_are = x; divides = is.divides; numbered = is.numbered; reach = is.reach }

-- its period is an own one
pub part_own : {domain : List Text} {times texts : List Identifier} {period : ℤ} {part : Table} → IsPeriodPart domain times texts period part → IsOwnPeriod period (pos part.store.period)
part_own {domain} {times} {texts} {period} {part} is = record { low = (let l : 0 < part.store.period = is.valid.period_low in omega (arith, ints)); divides = is.divides }

pub part_low : {domain : List Text} {times texts : List Identifier} {period : ℤ} {part : Table} → IsSmallPeriod period → IsPeriodPart domain times texts period part → part.store.period ≤ 2 ^ 56
part_low {domain} {times} {texts} {period} {part} small is = own_high period (pos part.store.period) small (part_own is)

-- ---- tables over the same variables

module _ (left right : Table) (valid : IsStore left.store) (times : right.vars.times ≡ left.vars.times) (texts : right.vars.texts ≡ left.vars.texts) where
  pub joint_times : joint left.vars.times right.vars.times ≡ left.vars.times
  joint_times = ap (joint left.vars.times) times ∙ joint_within left.vars.times left.vars.times (λ name k. k)

  pub joint_texts : joint left.vars.texts right.vars.texts ≡ left.vars.texts
  joint_texts = ap (joint left.vars.texts) texts ∙ joint_within left.vars.texts left.vars.texts (λ name k. k)

  pub meet_alike : CanMeet left right
  meet_alike = record {
    times = subst (λ names. length names ≤ 8) (sym joint_times) (let n = left.times_named in let v = valid.times in omega arith);
    texts = subst (λ names. length names ≤ 8) (sym joint_texts) (let n = left.texts_named in let v = valid.texts in omega arith);
    left_apart = λ name a b. apart_names left.vars.times left.vars.texts left.names_differ name a (subst (λ names. Contains names name) texts b);
    right_apart = λ name a b. apart_names left.vars.times left.vars.texts left.names_differ name (subst (λ names. Contains names name) times a) b;
  }

-- ---- what is put to parts

module _ {domain : List Text} {times texts : List Identifier} {period : ℤ} where
  module _ (small : IsSmallPeriod period) {left right : Table} (l : IsPeriodPart domain times texts period left) (r : IsPeriodPart domain times texts period right) where
    same_times : right.vars.times ≡ left.vars.times
    same_times = r.times_are ∙ sym l.times_are

    same_texts : right.vars.texts ≡ left.vars.texts
    same_texts = r.texts_are ∙ sym l.texts_are

    -- two parts of one period can be united
    pub can_unite : (k : ℤ) → k ≡ pos right.store.period → left.store.period ≡ right.store.period → CanUnite domain k left right
    can_unite k e same = record {
      tables = record {
        low = (let v : 0 < right.store.period = r.valid.period_low in omega (arith, ints));
        high = (let v = part_low small r in omega (arith, ints));
        left_period = subst (Divides (pos left.store.period)) (ap pos same ∙ sym e) (Divides-self (pos left.store.period));
        right_period = subst (Divides (pos right.store.period)) (sym e) (Divides-self (pos right.store.period));
        left_reach = farther left.store (2 ^ 59) _ room l.reach;
        right_reach = farther right.store (2 ^ 59) _ room r.reach;
        columns = meet_alike left right l.valid same_times same_texts;
      };
      left_numbered = l.numbered;
      right_numbered = r.numbered;
    }
      where
        room : 2 ^ 59 ≤ 2 ^ 62 - nat_abs k
        room = let v : right.store.period ≤ 2 ^ 56 = part_low small r in let n : nat_abs k ≡ right.store.period = ap nat_abs e in omega arith

    -- and their union is a part
    pub united_part : {k : ℤ} {made : Table} → k ≡ pos right.store.period → IsTableOf domain (joint left.vars.times right.vars.times) (joint left.vars.texts right.vars.texts) (nat_abs k) (IsUnited domain left right) made → IsStore made.store → HasReach made.store (2 ^ 59)
        → IsPartOfSet domain times texts period (λ env. HasAssignment left domain env ⊎ HasAssignment right domain env) made
    united_part {k} {made} e is valid reach = subst (λ ns. IsPartOfSet domain times ns period (λ env. HasAssignment left domain env ⊎ HasAssignment right domain env) made) (joint_texts left right l.valid same_times same_texts ∙ l.texts_are)
        (subst (λ ns. IsPartOfSet domain ns (joint left.vars.texts right.vars.texts) period (λ env. HasAssignment left domain env ⊎ HasAssignment right domain env) made) (joint_times left right l.valid same_times same_texts ∙ l.times_are)
        (part_as (λ env h. h.has) (λ env h. record { known = known env h; has = h }) (part_of_table is valid reach (let v : 0 < right.store.period = r.valid.period_low in omega (arith, ints)) (subst (λ z. Divides z period) (sym e) r.divides))))
      where
        known : (env : Assignment) → HasAssignment left domain env ⊎ HasAssignment right domain env → HasTexts domain (joint left.vars.texts right.vars.texts) env
        known env h = subst (λ ns. HasTexts domain ns env) (sym (joint_texts left right l.valid same_times same_texts)) (⊎_elim (λ a. table_texts domain left env a) (λ b. subst (λ ns. HasTexts domain ns env) same_texts (table_texts domain right env b)) h)

  all_push : (kept : List Table) (part : Table) → AreAllParts domain times texts period kept → IsPeriodPart domain times texts period part → AreAllParts domain times texts period (kept ++ part ∷ [])
  all_push kept part are is other h = elim (Contains-append_cases kept (part ∷ []) other h) [
    | inl a ↦ are other a
    | inr b ↦ subst (IsPeriodPart domain times texts period) (in_one part other b) is
  ]

-- the part is put after the others
pub pushed_part : {domain : List Text} {period : ℤ} {old new : List Table} {made : Table} → CanAddPart domain period old made → length old < 16 → new ≡ old ++ made ∷ [] → ArePartsAdded domain made.vars.times made.vars.texts period (HasAssignment made domain) old new
pushed_part {domain} {period} {old} {new} {made} can low e = subst (ArePartsAdded domain made.vars.times made.vars.texts period (HasAssignment made domain) old) (sym e) (record {
  few = λ h. (let a : length (old ++ made ∷ []) ≡ length old + 1 = length-append old (made ∷ []) in omega arith);
  each = λ h. all_push old made h can.made_is;
  sound = λ env h. some_split domain old made env h;
  from_old = λ env h. some_left domain old (made ∷ []) env h;
  from_set = λ env h. some_last domain old made env h;
})

same_or : (m n : ℕ) → (m ≡ n) ⊎ (m ≡ n → ⊥)
same_or m n = elim (below_or m n) [
  | inl l ↦ inr (λ e. omega arith)
  | inr h ↦ elim (below_or n m) [ inl l ↦ inr (λ e. omega arith) | inr k ↦ inl (omega arith) ]
]

-- what is in a list of which one element is another
set_cases : (xs : List Table) (i : ℕ) (y z : Table) → i < length xs → Contains (slice_set xs i y) z → (y ≡ z) ⊎ Contains xs z
set_cases xs i y z low h = elim (same_or h.0 i) [
  | inl e ↦ inl (sym (get_or-set_same xs i y z low) ∙ ap (λ j. get_or (slice_set xs i y) j z) (sym e) ∙ h.2)
  | inr n ↦ inr (h.0, (let l : h.0 < length (slice_set xs i y) = h.1 in let s : length (slice_set xs i y) ≡ length xs = length-set xs i y in omega arith), sym (get_or-set_other xs i h.0 y z n) ∙ h.2)
]

cases_set : (xs : List Table) (i : ℕ) (x y z : Table) → slice_get xs i ≡ Some x → i < length xs → Contains xs z → (x ≡ z) ⊎ Contains (slice_set xs i y) z
cases_set xs i x y z at low h = elim (same_or h.0 i) [
  | inl e ↦ inl (sym (get_or_from_slice_get xs i x z at) ∙ ap (λ j. get_or xs j z) (sym e) ∙ h.2)
  | inr n ↦ inr (h.0, (let l : h.0 < length xs = h.1 in let s : length (slice_set xs i y) ≡ length xs = length-set xs i y in omega arith), get_or-set_other xs i h.0 y z n ∙ h.2)
]

set_in : (xs : List Table) (i : ℕ) (y : Table) → i < length xs → Contains (slice_set xs i y) y
set_in xs i y low = (i, (let s : length (slice_set xs i y) ≡ length xs = length-set xs i y in omega arith), get_or-set_same xs i y y low)

-- the part at a place becomes one with the further one
pub joined_at : {domain : List Text} {period : ℤ} {old new : List Table} {made joined : Table} {place : ℕ} → CanAddPart domain period old made → (at : IsPlaceWith old (pos made.store.period) place)
    → IsPartOfSet domain made.vars.times made.vars.texts period (λ env. HasAssignment at.part domain env ⊎ HasAssignment made domain env) joined → new ≡ slice_set old place joined → ArePartsAdded domain made.vars.times made.vars.texts period (HasAssignment made domain) old new
joined_at {domain} {period} {old} {new} {made} {joined} {place} can at is e = subst (ArePartsAdded domain made.vars.times made.vars.texts period (HasAssignment made domain) old) (sym e) (record {
  few = λ h. (let s : length (slice_set old place joined) ≡ length old = length-set old place joined in omega arith);
  each = λ h part k. ⊎_elim (λ same. subst (IsPeriodPart domain made.vars.times made.vars.texts period) same is.part) (λ o. h part o) (set_cases old place joined part at.within k);
  sound = λ env h. ⊎_elim
      (λ same. ⊎_elim (λ a. inl (record { part = at.part; listed = at_place old place at.part at.at; has = a })) (λ b. inr b) (is.sound env (subst (λ t. HasAssignment t domain env) (sym same) h.has)))
      (λ o. inl (record { part = h.part; listed = o; has = h.has }))
      (set_cases old place joined h.part at.within h.listed);
  from_old = λ env h. ⊎_elim
      (λ same. record { part = joined; listed = set_in old place joined at.within; has = is.whole env (inl (subst (λ t. HasAssignment t domain env) (sym same) h.has)) })
      (λ k. record { part = h.part; listed = k; has = h.has })
      (cases_set old place at.part joined h.part at.at at.within h.listed);
  from_set = λ env h. record { part = joined; listed = set_in old place joined at.within; has = is.whole env (inr h) };
})

-- ---- what a call gives, once its bounds are checked

pub checked_part : {domain : List Text} {times texts : List Identifier} {period k : ℤ} {set : Set} {table : Table} (r : Result Table PartsFault) → IsTableOf domain times texts (nat_abs k) set table → pos 1 ≤ℤ k → Divides k period
    → IfOk r (λ made. made ≡ table) → IfOk r (λ made. IsStore made.store) → IfOk r (λ made. HasReach made.store (2 ^ 59)) → IfOk r (IsPartOfSet domain times texts period set)
checked_part {domain} {times} {texts} {period} {k} {set} {table} (Ok made) is low divides same valid reach = part_of_table (subst (IsTableOf domain times texts (nat_abs k) set) (sym same) is) valid reach low divides
checked_part (Err fault) is low divides same valid reach = tt

pub if_part : (domain : List Text) (times texts : List Identifier) (period : ℤ) (set other : Set) (r : Result Table PartsFault) → ((env : Assignment) → set env → other env) → ((env : Assignment) → other env → set env) → IfOk r (IsPartOfSet domain times texts period set) → IfOk r (IsPartOfSet domain times texts period other)
if_part domain times texts period set other (Ok made) to from is = part_as to from is
if_part domain times texts period set other (Err fault) to from is = tt

-- the word of a part's period
pub period_word : {domain : List Text} {times texts : List Identifier} {period r : ℤ} {part : Table} → IsSmallPeriod period → IsPeriodPart domain times texts period part → r ≡ pos part.store.period → to_z w64 (of_z w64 r) ≡ pos part.store.period
period_word {domain} {times} {texts} {period} {r} {part} small is e = ap (λ z. to_z w64 (of_z w64 z)) e ∙ own_word small (part_own is)

pub all_pushed : (domain : List Text) (old : List Table) (made : Table) (r : Result (List Table) PartsFault) → IfOk r (λ new. length old < 16) → IfOk r (λ new. new ≡ old ++ made ∷ []) → IfOk r (λ new. (period : ℤ) → CanAddPart domain period old made → ArePartsAdded domain made.vars.times made.vars.texts period (HasAssignment made domain) old new)
all_pushed domain old made (Ok new) low e = λ period can. pushed_part can low e
all_pushed domain old made (Err fault) low e = tt

some_is : {x y : Table} {o : Option Table} → o ≡ Some x → o ≡ Some y → x ≡ y
some_is {x} {y} {o} e f = let s : Some x ≡ Some y = sym e ∙ f in cc

-- the part at the place can be united with the further one
pub can_join_at : {domain : List Text} {period k : ℤ} {old : List Table} {made part : Table} {place : ℕ} → CanAddPart domain period old made → (at : IsPlaceWith old (pos made.store.period) place) → slice_get old place ≡ Some part → k ≡ pos made.store.period → CanUnite domain k part made
can_join_at {domain} {period} {k} {old} {made} {part} {place} can at e f = subst (λ t. CanUnite domain k t made) (some_is at.at e) (can_unite can.period_is (can.old_are at.part (at_place old place at.part at.at)) can.made_is k f (let p : pos at.part.store.period ≡ pos made.store.period = at.period_is in cc))

pub joined_new : {domain : List Text} {period k : ℤ} {old new : List Table} {made part both joined : Table} {place : ℕ} → CanAddPart domain period old made → (at : IsPlaceWith old (pos made.store.period) place) → slice_get old place ≡ Some part → k ≡ pos made.store.period
    → IsTableOf domain (joint part.vars.times made.vars.times) (joint part.vars.texts made.vars.texts) (nat_abs k) (IsUnited domain part made) both → joined ≡ both → IsStore joined.store → HasReach joined.store (2 ^ 59) → new ≡ slice_set old place joined
    → ArePartsAdded domain made.vars.times made.vars.texts period (HasAssignment made domain) old new
joined_new {domain} {period} {k} {old} {new} {made} {part} {both} {joined} {place} can at e f table same valid reach g =
    joined_at can at
    (united_part can.period_is (can.old_are at.part (at_place old place at.part at.at)) can.made_is f
    (subst (IsTableOf domain (joint at.part.vars.times made.vars.times) (joint at.part.vars.texts made.vars.texts) (nat_abs k) (IsUnited domain at.part made)) (sym same)
    (subst (λ t. IsTableOf domain (joint t.vars.times made.vars.times) (joint t.vars.texts made.vars.texts) (nat_abs k) (IsUnited domain t made) both) (sym (some_is at.at e)) table)) valid reach) g

pub found_place : (parts : List Table) (table : Table) (place : ℕ) (part : Table) {r t : ℤ} → place < length parts → part ≡ get_or parts place part → IsStore part.store → IsStore table.store → r ≡ pos part.store.period → t ≡ pos table.store.period
    → to_z w64 (of_z w64 r) ≡ to_z w64 (of_z w64 t) → IsPlaceWith parts (pos table.store.period) place
found_place parts table place part {r} {t} low at is own e f same = record {
  within = low;
  part = part;
  at = slice_get-get_or parts place part low ∙ ap Some (sym at);
  period_is = sym (word part.store.period is.period_high) ∙ ap (λ z. to_z w64 (of_z w64 z)) (sym e) ∙ same ∙ ap (λ z. to_z w64 (of_z w64 z)) f ∙ word table.store.period own.period_high;
}
  where
    word : (n : ℕ) → n ≤ 2 ^ 62 → to_z w64 (of_z w64 (pos n)) ≡ pos n
    word n h = omega (arith, ints)
