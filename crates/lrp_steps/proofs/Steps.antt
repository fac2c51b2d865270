-- A step that adds tuples to a store without cells makes a table of the assignments that they stand for.
use Rattle.std.proofs.Common.{◌≡◌, ◌≢◌, ℕ, zero, suc, ◌+◌, ◌-◌, ◌<◌, ◌≤◌, ◌^◌, List, [], ◌∷◌, length, map, replicate, None, Some, Bool, true, false, refl, sym, ap, subst, ◌∙◌, arith, get_or, Contains, eq-eqb}
use Rattle.std.proofs.lemmas.Int.{ints}
use Rattle.std.proofs.Common.{to_z, of_z}
use Rattle.std.specs.Int.{w64}
use Rattle.lrp_store.proofs.Listed.{word_abs}
use Rattle.std.specs.Prelude.{ℤ, pos, nat_abs, ◌≤ℤ◌, All, AllPairs, slice_get, ◌==◌, if◌then◌else◌}
use Rattle.std.specs.List.{AllZip}
use Rattle.std.specs.FinMap as finite
use Rattle.std.proofs.lemmas.List.{length-map}
use Rattle.std.proofs.lemmas.Option.{slice_get_within}
use Rattle.lrp_theory.specs.Divides.{Divides}
use Rattle.lrp_model.specs.Texts.{Text, Identifier, Ascends}
use Rattle.lrp_model.specs.Satisfaction.{Assignment}
use Rattle.lrp_model.specs.declared.tuples.Shape.{Shape}
use Rattle.lrp_zone.specs.Spread.{ArePlaces}
use Rattle.lrp_zone.specs.Zones.{reach_of}
use Rattle.lrp_store.specs.Stores.{StoreView, IsStore, InStore, HasReach, HoldsJust, zone_of}
use Rattle.lrp_store.specs.Growing.{IsAdded, IsRefused, InhabitsMany}
use Rattle.lrp_store.specs.Tables.{AreTexts, InTable}
use Rattle.lrp_tables.specs.declared.table.Table.{Table}
use Rattle.lrp_store.proofs.Grown.{Set}
use Rattle.lrp_systems.specs.Parts.{system_reach}
use Rattle.lrp_tables.specs.Columns.{ArePlacesOf}
use Rattle.lrp_tables.specs.Caps.{InhabitsMoreThan}
use Rattle.lrp_tables.specs.Tables.{HasTexts, IsTableOf}
use Rattle.lrp_tables.proofs.CellsNamed.{AreTuplesOf, many_named, few_named}
use Rattle.lrp_tables.proofs.Joining.{places_count, places_are, values_at}
use Rattle.lrp_tables.proofs.Numbers.{number_of, domain_differs, numbers_are, are_numbers, all_mapped, numbers_known, texts_known}
use Rattle.lrp_tables.proofs.TableMade.{table_of}
use Rattle.lrp_tables.specs.declared.names.Places.{Places}
use Rattle.lrp_steps.specs.declared.pattern.Pattern.{Pattern}
use Rattle.lrp_steps.specs.Patterns.{parts_of, IsAt, IsOver, IsKnown, MatchesPattern}
use Rattle.lrp_tables.specs.Calls.{number_at}
use Rattle.lrp_steps.specs.Gathered.{CanStandIn, HasBrought}
use Rattle.lrp_steps.proofs.Parts.{held_just, added_reach, added_few, refused_many}

-- ---- what has no condition

-- every tuple is as a pattern asks that asks nothing
pub all_suit : (xs : List ℤ) (ns : List ℕ) → MatchesPattern (record { zones = []; texts = replicate 8 None; equal = [] }) xs ns
all_suit xs ns = record { zones = λ k d h. absurd (omega arith); known = record { each = none 8 }; equal = λ k d h. absurd (omega arith) }
  where
    none : (n i : ℕ) → IsKnown (get_or (replicate n None) i None) (get_or ns i 0)
    none zero i = tt
    none (suc n) zero = tt
    none (suc n) (suc i) = known_at n i (get_or ns (suc i) 0)
      where
        known_at : (n i m : ℕ) → IsKnown (get_or (replicate n None) i None) m
        known_at zero i m = tt
        known_at (suc n) zero m = tt
        known_at (suc n) (suc i) m = known_at n i m

-- ---- values at places

-- the value at a place pairs with what stands there
pub zip_get : {X : Type 0} (R : ℕ → X → Type 0) (ns : List ℕ) (xs : List X) (i : ℕ) (x : X) → AllZip R ns xs → slice_get xs i ≡ Some x → R (get_or ns i 0) x
zip_get R ns [] i x all e = cc
zip_get R [] (y ∷ xs) i x all e = absurd all
zip_get R (n ∷ ns) (y ∷ xs) zero x all e = subst (R n) (let d : y ≡ x = cc in d) all.0
zip_get R (n ∷ ns) (y ∷ xs) (suc i) x all e = zip_get R ns xs i x all.1 e

-- a mapped list at a place
pub mapped_get : {X Y : Type 0} (f : X → Y) (xs : List X) (i : ℕ) (x : X) → slice_get xs i ≡ Some x → slice_get (map f xs) i ≡ Some (f x)
mapped_get f [] i x e = cc
mapped_get f (y ∷ xs) zero x e = let d : y ≡ x = cc in ap (λ z. Some (f z)) d
mapped_get f (y ∷ xs) (suc i) x e = mapped_get f xs i x e

-- the numbers at the places are those of the texts of the names
numbers_at : (domain : List Text) (f : Identifier → Text) (all : List Identifier) (ns : List ℕ) → AreTexts domain ns (map f all) → (names : List Identifier) (places : List ℕ) → ArePlacesOf names all places → AreTexts domain (map (number_at ns) places) (map f names)
numbers_at domain f all ns a [] [] are = tt
numbers_at domain f all ns a [] (p ∷ places) are = absurd are
numbers_at domain f all ns a (v ∷ names) [] are = absurd are
numbers_at domain f all ns a (v ∷ names) (p ∷ places) are = (zip_get (λ n t. slice_get domain n ≡ Some t) ns (map f all) (p - 1) (f v) a (mapped_get f all (p - 1) v are.0.1), numbers_at domain f all ns a names places are.1)

-- places are among the columns
among_all : (all names : List Identifier) (places : List ℕ) → ArePlacesOf names all places → All (λ p. (1 ≤ p) × (p ≤ length all)) places
among_all all [] [] are k d h = absurd (omega arith)
among_all all (v ∷ names) [] are k d h = absurd are
among_all all [] (p ∷ places) are k d h = absurd are
among_all all (v ∷ names) (p ∷ places) are zero d h = let low : 0 < p = are.0.0 in let l : p - 1 < length all = slice_get_within all (p - 1) v are.0.1 in (omega arith, omega arith)
among_all all (v ∷ names) (p ∷ places) are (suc k) d h = among_all all names places are.1 k d (omega arith)

module _ (domain : List Text) (ascends : Ascends domain) (s : StoreView) (times texts all_times all_texts : List Identifier) (places : Places) (t : ArePlacesOf times all_times places.times) (x : ArePlacesOf texts all_texts places.texts) where
  module _ (env : Assignment) (ns : List ℕ) (a : AreTexts domain ns (map env.texts all_texts)) where
    -- what stands at the places is a tuple of the store exactly where the table has the assignment
    pub at_has : IsAt places (InStore s) (map env.times all_times) ns → InTable domain times texts s env
    at_has h = (map (number_at ns) places.texts, numbers_at domain env.texts all_texts ns a texts places.texts x, subst (λ xs. InStore s xs (map (number_at ns) places.texts)) (values_at times all_times places.times t env.times) h)

    pub has_at : InTable domain times texts s env → IsAt places (InStore s) (map env.times all_times) ns
    has_at h =
        let d = domain_differs domain ascends in
        let e : h.0 ≡ map (number_at ns) places.texts = numbers_are domain d h.0 (map env.texts texts) h.1 ∙ sym (numbers_are domain d (map (number_at ns) places.texts) (map env.texts texts) (numbers_at domain env.texts all_texts ns a texts places.texts x)) in
        subst (λ xs. InStore s xs (map (number_at ns) places.texts)) (sym (values_at times all_times places.times t env.times)) (subst (λ ms. InStore s (map env.times times) ms) e h.2)

  -- the columns can stand at the places
  pub can_stand : (out : StoreView) → IsStore s → length times ≡ s.shape.times → length texts ≡ s.shape.texts → AllPairs ◌≢◌ times → out.shape.times ≡ length all_times → out.shape.texts ≡ length all_texts → Divides (pos s.period) (pos out.period) → (s.period ≢ out.period → HasReach s (2 ^ 62 - out.period)) → CanStandIn places s out
  can_stand out is et ex differ at ax divides reach = record {
    valid = is;
    count = places_count times all_times places.times t ∙ et;
    times = subst (λ n. ArePlaces places.times n) (sym at) (places_are times all_times places.times t differ);
    texts = record { count = places_count texts all_texts places.texts x ∙ ex; among = subst (λ n. All (λ p. (1 ≤ p) × (p ≤ n)) places.texts) (sym ax) (among_all all_texts texts places.texts x) };
    multiple = divides;
    reach = reach;
  }

-- ---- tables

-- tuples that stand for the assignments of a set
pub over_tuples : (domain : List Text) (times texts : List Identifier) (shape : Shape) (size : ℕ) → size ≡ length domain → shape.times ≡ length times → shape.texts ≡ length texts → (core : Set) (set : Assignment → Type 0)
    → ((env : Assignment) (ns : List ℕ) → AreTexts domain ns (map env.texts texts) → core (map env.times times) ns → set env)
    → ((env : Assignment) → set env → HasTexts domain texts env)
    → ((env : Assignment) → set env → (ns : List ℕ) → AreTexts domain ns (map env.texts texts) → core (map env.times times) ns)
    → AreTuplesOf domain times texts (IsOver shape size core) set
over_tuples domain times texts shape size es et ex core set to known from = record {
  to = λ env ns a h. to env ns a h.is;
  from = λ env m.
      let a : AreTexts domain (map (number_of domain) (map env.texts texts)) (map env.texts texts) = are_numbers domain (map env.texts texts) ((all_mapped env.texts (Contains domain) texts).1 (known env m)) in (
        map (number_of domain) (map env.texts texts),
        a,
        record {
          times_count = length-map times env.times ∙ sym et;
          texts_count = length-map (map env.texts texts) (number_of domain) ∙ length-map texts env.texts ∙ sym ex;
          known = subst (λ n. All (λ k. k < n) (map (number_of domain) (map env.texts texts))) (sym es) (numbers_known domain (map (number_of domain) (map env.texts texts)) (map env.texts texts) a);
          is = from env m (map (number_of domain) (map env.texts texts)) a;
        },
      );
  times_count = λ xs ns h. h.times_count ∙ et;
  texts_count = λ xs ns h. h.texts_count ∙ ex;
  known = λ xs ns h. subst (λ n. All (λ k. k < n) ns) es h.known;
}

module _ (domain : List Text) (ascends : Ascends domain) (times texts : List Identifier) (times_differ : AllPairs ◌≢◌ times) (texts_differ : AllPairs ◌≢◌ texts) (few_times : length times ≤ 8) (few_texts : length texts ≤ 8)
    (period : ℕ) (low : 0 < period) (tuples : Set) (set : Assignment → Type 0) (are : AreTuplesOf domain times texts tuples set) (cap : ℕ) (start out : StoreView) (fresh : start ≡ record { shape = record { times = length times; texts = length texts }; period = period; tables = finite.empty; spare = 0 }) where
  abbrev the_shape : Shape
  the_shape = record { times = length times; texts = length texts }

  empty : start.tables ≡ finite.empty
  empty = ap (λ (s : StoreView). s.tables) fresh

  -- the store is a table of the set
  pub step_table : (high : ℕ) → IsAdded tuples cap high start out → (made : Table) → made.vars.times ≡ times → made.vars.texts ≡ texts → made.store ≡ out → IsTableOf domain times texts period set made
  step_table high a made et ex es =
      table_of domain times texts period tuples set made et ex (ap (λ (s : StoreView). s.period) es ∙ a.grown.period ∙ ap (λ (s : StoreView). s.period) fresh) (subst IsStore (sym es) a.grown.valid) (subst (HoldsJust tuples) (sym es) (held_just tuples cap high start out empty a)) are

  -- which inhabits no more than cap cells
  pub step_few : (high : ℕ) → IsAdded tuples cap high start out → InhabitsMoreThan cap domain period times texts set → ⊥
  step_few high a = few_named domain ascends times texts times_differ texts_differ period low the_shape refl refl few_times few_texts tuples set are cap (λ more. added_few tuples cap high start out empty a (subst (λ (s : StoreView). InhabitsMany s.shape s.period tuples cap) (sym fresh) more))

  -- or more where it was refused
  pub step_many : (high : ℕ) → IsRefused tuples cap high start out → InhabitsMoreThan cap domain period times texts set
  step_many high r = many_named domain ascends times texts times_differ texts_differ period low the_shape refl refl few_times few_texts tuples set are cap (subst (λ (s : StoreView). InhabitsMany s.shape s.period tuples cap) fresh (refused_many tuples cap high start out empty r))

  -- in zones of this reach
  pub step_reach : (high : ℕ) → IsAdded tuples cap high start out → HasReach out high
  step_reach high a = added_reach tuples cap high start out empty a

  -- a column for each name
  pub step_times : (high : ℕ) → IsAdded tuples cap high start out → length times ≡ out.shape.times
  step_times high a = ap (λ (s : StoreView). s.shape.times) (sym fresh) ∙ ap (λ (q : Shape). q.times) (sym a.grown.shape)

  pub step_texts : (high : ℕ) → IsAdded tuples cap high start out → length texts ≡ out.shape.texts
  step_texts high a = ap (λ (s : StoreView). s.shape.texts) (sym fresh) ∙ ap (λ (q : Shape). q.texts) (sym a.grown.shape)

-- a store that is brought to a period reaches no farther than by that period
pub brought_by : (s : StoreView) (k high : ℕ) → HasReach s high → HasBrought s k (high + k)
brought_by s k high r = record { low = high; reach = r; within = by (s.period == k) }
  where
    by : (t : Bool) → (if t then high else high + (k - 1)) ≤ high + k
    by true = omega arith
    by false = omega arith

-- and no farther than before where it has that period already
pub brought_same : (s : StoreView) (k high : ℕ) → s.period ≡ k → HasReach s high → HasBrought s k high
brought_same s k high e r = record { low = high; reach = r; within = by (s.period == k) (same s.period k e) }
  where
    by : (t : Bool) → t ≡ true → (if t then high else high + (k - 1)) ≤ high
    by true h = omega arith
    by false h = cc

    same : (a b : ℕ) → a ≡ b → (a == b) ≡ true
    same a b e = eq-eqb a b e

-- what has a reach has each greater one
pub farther : (s : StoreView) (low high : ℕ) → low ≤ high → HasReach s low → HasReach s high
farther s low high le r = record { each = λ c t h. let l : reach_of (zone_of s c t) ≤ low = r.each c t h in omega (arith, l, le) }

-- texts with numbers are texts of the domain
pub has_texts : (domain : List Text) (texts : List Identifier) (env : Assignment) (ns : List ℕ) → AreTexts domain ns (map env.texts texts) → HasTexts domain texts env
has_texts domain texts env ns a = (all_mapped env.texts (Contains domain) texts).0 (texts_known domain ns (map env.texts texts) a)

-- ---- the pattern that asks nothing

abbrev pub free : Pattern
free = record { zones = []; texts = replicate 8 None; equal = [] }

pub free_reach : (pattern : Pattern) → pattern ≡ free → (k high : ℕ) → system_reach k (parts_of pattern) ≤ high
free_reach pattern e k high = subst (λ (p : Pattern). system_reach k (parts_of p) ≤ high) (sym e) (omega arith)

pub free_suits : (pattern : Pattern) → pattern ≡ free → (xs : List ℤ) (ns : List ℕ) → MatchesPattern pattern xs ns
free_suits pattern e xs ns = subst (λ (p : Pattern). MatchesPattern p xs ns) (sym e) (all_suit xs ns)

-- a store without cells over so many columns
abbrev pub empty_store : List Identifier → List Identifier → ℕ → StoreView
empty_store times texts period = record { shape = record { times = length times; texts = length texts }; period = period; tables = finite.empty; spare = 0 }

pub fresh_by : (s : StoreView) (ts times xs texts : List Identifier) (k period : ℕ) → s ≡ empty_store ts xs k → ts ≡ times → xs ≡ texts → k ≡ period → s ≡ empty_store times texts period
fresh_by s ts times xs texts k period e et ex ek = e ∙ ap (λ l. empty_store l xs k) et ∙ ap (λ l. empty_store times l k) ex ∙ ap (λ n. empty_store times texts n) ek

-- ---- periods as integers and as naturals

pub abs_is : (k : ℤ) → pos 1 ≤ℤ k → pos (nat_abs k) ≡ k
abs_is k low = omega (arith, ints)

pub positive : (k : ℤ) → pos 1 ≤ℤ k → 0 < nat_abs k
positive k low = omega (arith, ints)

pub divides_abs : (k n : ℤ) → pos 1 ≤ℤ k → Divides n k → Divides n (pos (nat_abs k))
divides_abs k n low d = subst (λ z. Divides n z) (sym (abs_is k low)) d

-- a period as it is passed
pub same_word : (k : ℤ) → pos 1 ≤ℤ k → k ≤ℤ pos (2 ^ 62) → nat_abs (to_z w64 (of_z w64 k)) ≡ nat_abs k
same_word k low high = word_abs k low high

pub store_period : (p : ℕ) (k : ℤ) → 0 < p → p ≤ 2 ^ 62 → k ≡ pos p → nat_abs (to_z w64 (of_z w64 k)) ≡ p
store_period p k low high e = same_word k (omega (arith, ints)) (omega (arith, ints)) ∙ ap nat_abs e
