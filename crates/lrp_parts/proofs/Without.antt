-- One row more or less: what is derived of the other rows is the same.
use Rattle.std.proofs.Common.{◌≢◌, ◌<◌, ◌-◌, ℕ, List, [], ◌∷◌, length, Contains, Option, inl, inr, sym, subst, ◌∙◌, arith}
use Rattle.std.specs.List.{AllByRecursion}
use Rattle.lrp_model.specs.Cells.{FormCell}
use Rattle.lrp_model.specs.Satisfaction.{Assignment}
use Rattle.lrp_model.specs.Texts.{Text, Identifier}
use Rattle.lrp_model.specs.Variables.{Variable}
use Rattle.lrp_model.specs.declared.formulas.Test.{Test}
use Rattle.lrp_model.specs.declared.relations.Column.{Column}
use Rattle.lrp_model.proofs.Decided.{contains_first, contains_later, cons_cases}
use Rattle.lrp_store.specs.Stores.{StoreView}
use Rattle.lrp_tables.specs.Caps.{Inhabits, InhabitsMoreThan}
use Rattle.lrp_tables.specs.Tables.{named_variables}
use Rattle.lrp_parts.specs.Bound.{AreCompleted, IsCompleted}
use Rattle.lrp_parts.specs.Derivations.{AreAnswersOf, AreKeysBut, AreKeysFor, AreReleased, AreRowsWithin, Ground, HasChoicesBut, HasManyKeyedCells, HoldsNothingFor, IsDerivedBut, IsDerivedFor, IsDerivedFrom, IsHeldFor, IsOfChoice, IsOfPart, IsTogether, IsWithoutKey, Levels, MatchKeys, MatchesKey}
use Rattle.lrp_kept.specs.Keys.{keys_of}
use Rattle.lrp_kept.specs.declared.disjuncts.Disjunct.{Disjunct}
use Rattle.lrp_kept.specs.declared.disjuncts.JoinedAtom.{JoinedAtom}
use Rattle.lrp_kept.specs.declared.rows.HeldRows.{HeldRows}

-- ---- sets

each_by : (domain : List Text) (k : ℕ) (vs : List Variable) (p q : Assignment → Type 0) → ((env : Assignment) → p env → q env) → (cells : List FormCell) → AllByRecursion (Inhabits domain k vs p) cells → AllByRecursion (Inhabits domain k vs q) cells
each_by domain k vs p q f [] h = tt
each_by domain k vs p q f (c ∷ cells) h = (record { witness = h.0.witness; inside = h.0.inside; member = f h.0.witness h.0.member }, each_by domain k vs p q f cells h.1)

-- a larger set inhabits as many cells
pub many_by : (cap : ℕ) (domain : List Text) (k : ℕ) (times texts : List Identifier) (p q : Assignment → Type 0) → ((env : Assignment) → p env → q env) → InhabitsMoreThan cap domain k times texts p → InhabitsMoreThan cap domain k times texts q
many_by cap domain k times texts p q f h = record { cells = h.cells; count = h.count; apart = h.apart; each = each_by domain k (named_variables times texts) p q f h.cells h.each }

-- and is completed where the smaller one is
pub completed_by : (domain : List Text) (bound : List Column) (p q : Assignment → Type 0) → ((env : Assignment) → p env → q env) → (env : Assignment) → AreCompleted domain bound p env → AreCompleted domain bound q env
completed_by domain [] p q f env h = f env h
completed_by domain (c ∷ bound) p q f env h = completed_by domain bound (IsCompleted domain c p) (IsCompleted domain c q) (λ e x. record { value = x.value; can = x.can; is = f _ x.is }) env h

abbrev pub with_rows : Ground → HeldRows → Ground
with_rows g others = record g { rows = others }

no_first : (key k : ℕ) (keys : List ℕ) → (Contains (k ∷ keys) key → ⊥) → k ≢ key
no_first key k keys none e = none (subst (λ x. Contains (k ∷ keys) x) e (contains_first k keys))

no_later : (key k : ℕ) (keys : List ℕ) → (Contains (k ∷ keys) key → ⊥) → Contains keys key → ⊥
no_later key k keys none i = none (contains_later k key keys i)

module _ (g : Ground) (others : HeldRows) (key : ℕ) (w : IsWithoutKey g.rows others key) where
  -- ---- keys

  pub keys_to : (atoms : List JoinedAtom) (keys : List ℕ) → AreKeysFor others atoms keys → AreKeysFor g.rows atoms keys × (Contains keys key → ⊥)
  keys_to atoms [] h = (tt, λ i. let l : i.0 < 0 = i.1 in omega (arith, l))
  keys_to [] (k ∷ keys) h = absurd h
  keys_to (a ∷ atoms) (k ∷ keys) h =
      let x = w.to a.relation k h.0 in
      let y = keys_to atoms keys h.1 in
      ((x.0, y.0), λ i. elim (cons_cases k key keys i) [ inl e ↦ x.1 e | inr more ↦ y.1 more ])

  pub keys_from : (atoms : List JoinedAtom) (keys : List ℕ) → AreKeysFor g.rows atoms keys → (Contains keys key → ⊥) → AreKeysFor others atoms keys
  keys_from atoms [] h none = tt
  keys_from [] (k ∷ keys) h none = absurd h
  keys_from (a ∷ atoms) (k ∷ keys) h none = (w.from a.relation k h.0 (no_first key k keys none), keys_from atoms keys h.1 (no_later key k keys none))

  -- ---- what matches

  one_to : (env : Assignment) (a : JoinedAtom) (k : ℕ) → k ≢ key → MatchesKey others env a k → MatchesKey g.rows env a k
  one_to env a k n m = record { source = m.source; held = sym (w.sources k n) ∙ m.held; is = m.is }

  one_from : (env : Assignment) (a : JoinedAtom) (k : ℕ) → k ≢ key → MatchesKey g.rows env a k → MatchesKey others env a k
  one_from env a k n m = record { source = m.source; held = w.sources k n ∙ m.held; is = m.is }

  match_to : (env : Assignment) (atoms : List JoinedAtom) (keys : List ℕ) → (Contains keys key → ⊥) → MatchKeys others env atoms keys → MatchKeys g.rows env atoms keys
  match_to env atoms [] none h = tt
  match_to env [] (k ∷ keys) none h = absurd h
  match_to env (a ∷ atoms) (k ∷ keys) none h = (one_to env a k (no_first key k keys none) h.0, match_to env atoms keys (no_later key k keys none) h.1)

  match_from : (env : Assignment) (atoms : List JoinedAtom) (keys : List ℕ) → (Contains keys key → ⊥) → MatchKeys g.rows env atoms keys → MatchKeys others env atoms keys
  match_from env atoms [] none h = tt
  match_from env [] (k ∷ keys) none h = absurd h
  match_from env (a ∷ atoms) (k ∷ keys) none h = (one_from env a k (no_first key k keys none) h.0, match_from env atoms keys (no_later key k keys none) h.1)

  within_to : (high : ℕ) (atoms : List JoinedAtom) (keys : List ℕ) → (Contains keys key → ⊥) → AreRowsWithin (with_rows g others) high atoms keys → AreRowsWithin g high atoms keys
  within_to high atoms [] none h = tt
  within_to high [] (k ∷ keys) none h = absurd h
  within_to high (a ∷ atoms) (k ∷ keys) none h = (λ source e. h.0 source (w.sources k (no_first key k keys none) ∙ e), within_to high atoms keys (no_later key k keys none) h.1)

  within_from : (high : ℕ) (atoms : List JoinedAtom) (keys : List ℕ) → (Contains keys key → ⊥) → AreRowsWithin g high atoms keys → AreRowsWithin (with_rows g others) high atoms keys
  within_from high atoms [] none h = tt
  within_from high [] (k ∷ keys) none h = absurd h
  within_from high (a ∷ atoms) (k ∷ keys) none h = (λ source e. h.0 source (sym (w.sources k (no_first key k keys none)) ∙ e), within_from high atoms keys (no_later key k keys none) h.1)

  module _ (d : Disjunct) (keys : List ℕ) (none : Contains keys key → ⊥) where
    pub together_to : (tests : List Test) (env : Assignment) → IsTogether (with_rows g others) d keys tests env → IsTogether g d keys tests env
    together_to tests env h = record { known = h.known; rows = match_to env d.atoms.items keys none h.rows; passes = h.passes }

    pub together_from : (tests : List Test) (env : Assignment) → IsTogether g d keys tests env → IsTogether (with_rows g others) d keys tests env
    together_from tests env h = record { known = h.known; rows = match_from env d.atoms.items keys none h.rows; passes = h.passes }

    answers_to : (s : StoreView) → AreAnswersOf (with_rows g others) d keys s → AreAnswersOf g d keys s
    answers_to s h = record {
      made = h.made;
      store = h.store;
      table = record {
        times_are = h.table.times_are;
        texts_are = h.table.texts_are;
        period_is = h.table.period_is;
        sound = λ env x. let y = h.table.sound env x in record { known = y.known; completed = completed_by g.domain d.bound (IsOfChoice (with_rows g others) d keys) (IsOfChoice g d keys) (together_to _) env y.completed };
        whole = λ env x. h.table.whole env (record { known = x.known; completed = completed_by g.domain d.bound (IsOfChoice g d keys) (IsOfChoice (with_rows g others) d keys) (together_from _) env x.completed });
        numbered = h.table.numbered;
      };
      reach = λ high x. h.reach high (record { rows = within_from high d.atoms.items keys none x.rows; tests = x.tests });
    }

    answers_from : (s : StoreView) → AreAnswersOf g d keys s → AreAnswersOf (with_rows g others) d keys s
    answers_from s h = record {
      made = h.made;
      store = h.store;
      table = record {
        times_are = h.table.times_are;
        texts_are = h.table.texts_are;
        period_is = h.table.period_is;
        sound = λ env x. let y = h.table.sound env x in record { known = y.known; completed = completed_by g.domain d.bound (IsOfChoice g d keys) (IsOfChoice (with_rows g others) d keys) (together_from _) env y.completed };
        whole = λ env x. h.table.whole env (record { known = x.known; completed = completed_by g.domain d.bound (IsOfChoice (with_rows g others) d keys) (IsOfChoice g d keys) (together_to _) env x.completed });
        numbered = h.table.numbered;
      };
      reach = λ high x. h.reach high (record { rows = within_to high d.atoms.items keys none x.rows; tests = x.tests });
    }

    many_to : HasManyKeyedCells (with_rows g others) d keys → HasManyKeyedCells g d keys
    many_to h = many_by g.cap g.domain g.period _ _ (IsOfPart (with_rows g others) d keys) (IsOfPart g d keys) (together_to _) h

    many_from : HasManyKeyedCells g d keys → HasManyKeyedCells (with_rows g others) d keys
    many_from h = many_by g.cap g.domain g.period _ _ (IsOfPart g d keys) (IsOfPart (with_rows g others) d keys) (together_from _) h

    derived_to : (value : Option StoreView) → AreKeysFor g.rows d.atoms.items keys → IsDerivedFor (with_rows g others) d keys value → IsDerivedFor g d keys value
    derived_to value rows h = record { some = h.some; rows = rows; answers = λ e. let x = h.answers e in (x.0, x.1, answers_to x.0 x.2) }

    derived_from : (value : Option StoreView) → AreKeysFor others d.atoms.items keys → IsDerivedFor g d keys value → IsDerivedFor (with_rows g others) d keys value
    derived_from value rows h = record { some = h.some; rows = rows; answers = λ e. let x = h.answers e in (x.0, x.1, answers_from x.0 x.2) }

  -- ---- choices

  choices_to : (atoms : List JoinedAtom) → AllByRecursion (λ (a : JoinedAtom). (k : ℕ) × Contains (keys_of others a.relation) k) atoms → AllByRecursion (λ (a : JoinedAtom). (k : ℕ) × Contains (keys_of g.rows a.relation) k × (k ≢ key)) atoms
  choices_to [] h = tt
  choices_to (a ∷ atoms) h = let x = w.to a.relation h.0.0 h.0.1 in ((h.0.0, x.0, x.1), choices_to atoms h.1)

  choices_from : (atoms : List JoinedAtom) → AllByRecursion (λ (a : JoinedAtom). (k : ℕ) × Contains (keys_of g.rows a.relation) k × (k ≢ key)) atoms → AllByRecursion (λ (a : JoinedAtom). (k : ℕ) × Contains (keys_of others a.relation) k) atoms
  choices_from [] h = tt
  choices_from (a ∷ atoms) h = ((h.0.0, w.from a.relation h.0.0 h.0.1 h.0.2), choices_from atoms h.1)

  -- ---- what is derived

  module _ (d : Disjunct) (levels : Levels) where
    -- with the row still away nothing is held for it, and all is held for the others
    pub derived_before : IsDerivedFrom (with_rows g others) d levels → IsDerivedBut g d key levels × HoldsNothingFor key levels
    derived_before h = (
      record {
        sound = record {
          count = h.sound.count;
          each = λ level keys value i. let x = h.sound.each level keys value i in let y = keys_to d.atoms.items keys x.1.rows in (x.0, derived_to d keys y.1 value y.0 x.1);
        };
        held = λ some keys k env i. let x = by some keys k in x.0 env (together_from d keys k.none _ env i);
        few = λ some keys k many. let x = by some keys k in x.1 (many_from d keys k.none many);
      },
      λ level keys value i c. (keys_to d.atoms.items keys (h.sound.each level keys value i).1.rows).1 c,
    )
      where
        by : HasChoicesBut g d key → (keys : List ℕ) → AreKeysBut g d key keys → ((env : Assignment) → IsOfPart (with_rows g others) d keys env → IsHeldFor levels keys) × (HasManyKeyedCells (with_rows g others) d keys → ⊥)
        by some [] k = absurd (let l : 0 < 0 = k.some in omega (arith, l))
        by some (first ∷ more) k =
            let afterwards = h.whole (choices_from d.atoms.items some) first in
            let rows = keys_from d.atoms.items (first ∷ more) k.rows k.none in
            (afterwards.held more rows, afterwards.few more rows)

    -- where the row goes, what is held for it goes
    pub derived_after : (after : Levels) → AreReleased key levels after → IsDerivedBut g d key levels → IsDerivedFrom (with_rows g others) d after
    derived_after after r h = record {
      sound = record {
        count = r.count ∙ h.sound.count;
        each = λ level keys value i.
            let x = r.to level keys value i in
            let y = h.sound.each level keys value x.0 in
            (y.0, derived_from d keys x.1 value (keys_from d.atoms.items keys y.1.rows x.1) y.1);
      };
      whole = λ some first. record {
        held = λ more rows env i.
            let k = keys_to d.atoms.items (first ∷ more) rows in
            let x = h.held (choices_to d.atoms.items some) (first ∷ more) (record { some = omega arith; rows = k.0; none = k.1 }) env (together_to d (first ∷ more) k.1 _ env i) in
            (x.0, r.from (length (first ∷ more) - 1) (first ∷ more) x.0 x.1 k.1);
        few = λ more rows many.
            let k = keys_to d.atoms.items (first ∷ more) rows in
            h.few (choices_to d.atoms.items some) (first ∷ more) (record { some = omega arith; rows = k.0; none = k.1 }) (many_to d (first ∷ more) k.1 many);
      };
    }

-- ---- over the same rows

some_but : (g : Ground) (key : ℕ) (atoms : List JoinedAtom) → AllByRecursion (λ (a : JoinedAtom). (k : ℕ) × Contains (keys_of g.rows a.relation) k × (k ≢ key)) atoms → AllByRecursion (λ (a : JoinedAtom). (k : ℕ) × Contains (keys_of g.rows a.relation) k) atoms
some_but g key [] h = tt
some_but g key (a ∷ atoms) h = ((h.0.0, h.0.1), some_but g key atoms h.1)

-- what is derived of all rows is derived of the others
pub derived_but : (g : Ground) (d : Disjunct) (key : ℕ) (levels : Levels) → IsDerivedFrom g d levels → IsDerivedBut g d key levels
derived_but g d key levels h = record {
  sound = h.sound;
  held = λ some keys k env i. (by some keys k).0 env i;
  few = λ some keys k many. (by some keys k).1 many;
}
  where
    by : HasChoicesBut g d key → (keys : List ℕ) → AreKeysBut g d key keys → ((env : Assignment) → IsOfPart g d keys env → IsHeldFor levels keys) × (HasManyKeyedCells g d keys → ⊥)
    by some [] k = absurd (let l : 0 < 0 = k.some in omega (arith, l))
    by some (first ∷ more) k = let afterwards = h.whole (some_but g key d.atoms.items some) first in (afterwards.held more k.rows, afterwards.few more k.rows)
