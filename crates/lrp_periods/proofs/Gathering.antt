-- Parts that are put together one after another.
use Rattle.std.proofs.Common.{◌≡◌, ◌⊎◌, inl, inr, ⊎_elim, ℕ, ◌+◌, ◌<◌, ◌≤◌, List, [], ◌∷◌, ◌++◌, length, take, Contains, get_or, refl, sym, subst, arith, to_z, of_z, w64}
use Rattle.std.specs.Prelude.{ℤ, IfOk, Result, Ok, Err}
use Rattle.std.proofs.lemmas.List.{take_all}
use Rattle.std.proofs.lemmas.List.Elements.{Contains-append_cases, Contains-append_left, Contains-append_right}
use Rattle.lrp_theory.proofs.Members.{front_more, head_in, in_none, in_one, one_in}
use Rattle.lrp_model.specs.Texts.{Identifier, Text}
use Rattle.lrp_model.specs.Satisfaction.{Assignment}
use Rattle.lrp_tables.specs.declared.table.Table.{Table}
use Rattle.lrp_tables.specs.Tables.{HasAssignment}
use Rattle.lrp_periods.specs.Combining.{AreAllParts, CanAddPart, IsMadeOfSome}
use Rattle.lrp_periods.specs.declared.parts.PartsFault.{PartsFault}
use Rattle.lrp_periods.proofs.PeriodLaws.{of_word}
use Rattle.lrp_periods.specs.Parts.{ArePartsAdded, ArePartsOf, HasSome, IsPeriodPart, IsPartOfSet, IsSmallPeriod, part_times, part_texts}

abbrev pub Set : Type 1
Set = Assignment → Type 0

-- ---- one of some tables

pub in_some : (domain : List Text) (parts : List Table) (part : Table) (env : Assignment) → Contains parts part → HasAssignment part domain env → HasSome domain parts env
in_some domain parts part env listed has = record { part = part; listed = listed; has = has }

pub some_none : (domain : List Text) (env : Assignment) → HasSome domain [] env → ⊥
some_none domain env h = in_none h.part h.listed

pub some_left : (domain : List Text) (xs ys : List Table) (env : Assignment) → HasSome domain xs env → HasSome domain (xs ++ ys) env
some_left domain xs ys env h = record { part = h.part; listed = Contains-append_left xs ys h.part h.listed; has = h.has }

pub some_last : (domain : List Text) (xs : List Table) (y : Table) (env : Assignment) → HasAssignment y domain env → HasSome domain (xs ++ y ∷ []) env
some_last domain xs y env h = record { part = y; listed = Contains-append_right xs (y ∷ []) y (one_in y); has = h }

pub some_split : (domain : List Text) (xs : List Table) (y : Table) (env : Assignment) → HasSome domain (xs ++ y ∷ []) env → HasSome domain xs env ⊎ HasAssignment y domain env
some_split domain xs y env h = elim (Contains-append_cases xs (y ∷ []) h.part h.listed) [
  | inl a ↦ inl (record { part = h.part; listed = a; has = h.has })
  | inr b ↦ inr (subst (λ t. HasAssignment t domain env) (sym (in_one y h.part b)) h.has)
]

-- ---- one after another

module _ {domain : List Text} {times texts : List Identifier} {period : ℤ} where
  pub added_none : {set : Set} (old : List Table) → ((env : Assignment) → set env → ⊥) → ArePartsAdded domain times texts period set old old
  added_none old none = record { few = λ h. h; each = λ h. h; sound = λ env h. inl h; from_old = λ env h. h; from_set = λ env s. absurd (none env s) }

  pub added_more : {first second : Set} {old mid new : List Table} → ArePartsAdded domain times texts period first old mid → ArePartsAdded domain times texts period second mid new → ArePartsAdded domain times texts period (λ env. first env ⊎ second env) old new
  added_more a b = record {
    few = λ h. b.few (a.few h);
    each = λ h. b.each (a.each h);
    sound = λ env h. ⊎_elim (λ m. ⊎_elim (λ o. inl o) (λ s. inr (inl s)) (a.sound env m)) (λ s. inr (inr s)) (b.sound env h);
    from_old = λ env h. b.from_old env (a.from_old env h);
    from_set = λ env h. ⊎_elim (λ s. b.from_old env (a.from_set env s)) (λ s. b.from_set env s) h;
  }

  pub added_as : {set other : Set} {old new : List Table} → ((env : Assignment) → set env → other env) → ((env : Assignment) → other env → set env) → ArePartsAdded domain times texts period set old new → ArePartsAdded domain times texts period other old new
  added_as to from a = record {
    few = a.few;
    each = a.each;
    sound = λ env h. ⊎_elim (λ o. inl o) (λ s. inr (to env s)) (a.sound env h);
    from_old = a.from_old;
    from_set = λ env h. a.from_set env (from env h);
  }

  -- a part that has just the assignments of a set is put to others
  pub added_part : {set : Set} {old new : List Table} {made : Table} → IsPartOfSet domain times texts period set made → ArePartsAdded domain made.vars.times made.vars.texts period (HasAssignment made domain) old new → ArePartsAdded domain times texts period set old new
  added_part {set} {old} {new} {made} is a =
      added_as is.sound is.whole
      (subst (λ ns. ArePartsAdded domain times ns period (HasAssignment made domain) old new) is.part.texts_are
      (subst (λ ns. ArePartsAdded domain ns made.vars.texts period (HasAssignment made domain) old new) is.part.times_are a))

  pub can_add : {set : Set} {old : List Table} {made : Table} → IsSmallPeriod period → AreAllParts domain times texts period old → IsPartOfSet domain times texts period set made → CanAddPart domain period old made
  can_add {set} {old} {made} small are is = record {
    period_is = small;
    old_are = λ part k. moved part (are part k);
    made_is = moved made is.part;
  }
    where
      moved : (part : Table) → IsPeriodPart domain times texts period part → IsPeriodPart domain made.vars.times made.vars.texts period part
      moved part p = subst (λ ns. IsPeriodPart domain made.vars.times ns period part) (sym is.part.texts_are) (subst (λ ns. IsPeriodPart domain ns texts period part) (sym is.part.times_are) p)

  pub all_parts_none : AreAllParts domain times texts period []
  all_parts_none part k = absurd (in_none part k)

  -- what is made of none, of one more and of all
  module _ (each : Table → Set) (parts : List Table) where
    pub made_none : (old : List Table) (i : ℕ) → i ≡ 0 → ArePartsAdded domain times texts period (IsMadeOfSome each (take i parts)) old old
    made_none old i e = added_none old (λ env h. in_none h.part (subst (λ n. Contains (take n parts) h.part) e h.listed))

    pub made_more : {old mid new : List Table} (i : ℕ) (part : Table) → i < length parts → part ≡ get_or parts i part → ArePartsAdded domain times texts period (IsMadeOfSome each (take i parts)) old mid → ArePartsAdded domain times texts period (each part) mid new
        → ArePartsAdded domain times texts period (IsMadeOfSome each (take (i + 1) parts)) old new
    made_more {old} {mid} {new} i part low at first own =
        subst (λ ps. ArePartsAdded domain times texts period (IsMadeOfSome each ps) old new) (sym (front_more parts i part low at))
        (added_as (λ env h. ⊎_elim (λ a. record { part = a.part; listed = Contains-append_left (take i parts) (part ∷ []) a.part a.listed; made = a.made }) (λ b. record { part = part; listed = Contains-append_right (take i parts) (part ∷ []) part (one_in part); made = b }) h)
        (λ env h. elim (Contains-append_cases (take i parts) (part ∷ []) h.part h.listed) [
          | inl a ↦ inl (record { part = h.part; listed = a; made = h.made })
          | inr b ↦ inr (subst (λ t. each t env) (sym (in_one part h.part b)) h.made)
        ])
        (added_more first own))

    pub made_all : {old new : List Table} (i : ℕ) → length parts ≤ i → ArePartsAdded domain times texts period (IsMadeOfSome each (take i parts)) old new → ArePartsAdded domain times texts period (IsMadeOfSome each parts) old new
    made_all {old} {new} i high a = subst (λ ps. ArePartsAdded domain times texts period (IsMadeOfSome each ps) old new) (take_all i parts high) a

  -- parts that are put to none are parts
  pub parts_made : {set : Set} {new : List Table} → ArePartsAdded domain times texts period set [] new → 0 < length new → ArePartsOf domain times texts period set new
  parts_made {set} {new} a some = record {
    parts = record {
      some = some;
      few = a.few (omega arith);
      each = λ part k. subst (λ ns. IsPeriodPart domain (part_times new) ns period part) (sym texts_first) (subst (λ ns. IsPeriodPart domain ns texts period part) (sym times_first) (all part k));
    };
    times_are = times_first;
    texts_are = texts_first;
    sound = λ env h. ⊎_elim (λ o. absurd (some_none domain env o)) (λ s. s) (a.sound env h);
    whole = a.from_set;
  }
    where
      all : AreAllParts domain times texts period new
      all = a.each all_parts_none

      first_times : (parts : List Table) → 0 < length parts → AreAllParts domain times texts period parts → part_times parts ≡ times
      first_times [] l h = absurd (omega arith)
      first_times (part ∷ parts) l h = (h part (head_in part parts)).times_are

      first_texts : (parts : List Table) → 0 < length parts → AreAllParts domain times texts period parts → part_texts parts ≡ texts
      first_texts [] l h = absurd (omega arith)
      first_texts (part ∷ parts) l h = (h part (head_in part parts)).texts_are

      times_first : part_times new ≡ times
      times_first = first_times new some all

      texts_first : part_texts new ≡ texts
      texts_first = first_texts new some all

-- ---- a loop over parts

module _ {domain : List Text} {times texts : List Identifier} {period : ℤ} (each : Table → Set) (parts : List Table) where
  pub put_none : {new : List Table} → new ≡ [] → ArePartsAdded domain times texts period (IsMadeOfSome each (take 0 parts)) [] new
  put_none {new} e = subst (ArePartsAdded domain times texts period (IsMadeOfSome each (take 0 parts)) []) (sym e) (made_none each parts [] 0 refl)

  pub put_more : {mid new : List Table} {made : Table} (i : ℕ) (part : Table) → i < length parts → part ≡ get_or parts i part → ArePartsAdded domain times texts period (IsMadeOfSome each (take i parts)) [] mid → IsPartOfSet domain times texts period (each part) made
      → ArePartsAdded domain made.vars.times made.vars.texts period (HasAssignment made domain) mid new → ArePartsAdded domain times texts period (IsMadeOfSome each (take (i + 1) parts)) [] new
  put_more i part low at first is own = made_more each parts i part low at first (added_part is own)

-- the further part can be put to those so far
pub can_put : {domain : List Text} {times texts : List Identifier} {period : ℤ} {set own : Set} {mid : List Table} {made : Table} → IsSmallPeriod period → ArePartsAdded domain times texts period set [] mid → IsPartOfSet domain times texts period own made → CanAddPart domain period mid made
can_put small a is = can_add small (a.each all_parts_none) is

-- at the end there is some part
pub finished : (domain : List Text) (times texts : List Identifier) (period : ℤ) (set : Set) {parts : List Table} (r : Result (List Table) PartsFault) → IfOk r (λ made. made ≡ parts) → IfOk r (λ made. 0 < length made) → ArePartsAdded domain times texts period set [] parts → IfOk r (ArePartsOf domain times texts period set)
finished domain times texts period set {parts} (Ok made) same some a = parts_made (subst (ArePartsAdded domain times texts period set []) (sym same) a) some
finished domain times texts period set (Err fault) same some a = tt

-- the same where the loop was in the word of the period
pub finished_word : (domain : List Text) (times texts : List Identifier) (period : ℤ) (set : Set) → IsSmallPeriod period → {parts : List Table} (r : Result (List Table) PartsFault) → IfOk r (λ made. made ≡ parts) → IfOk r (λ made. 0 < length made) → ArePartsAdded domain times texts (to_z w64 (of_z w64 period)) set [] parts → IfOk r (ArePartsOf domain times texts period set)
finished_word domain times texts period set small {parts} r same some a = finished domain times texts period set r same some (of_word small (λ p. ArePartsAdded domain times texts p set [] parts) a)
