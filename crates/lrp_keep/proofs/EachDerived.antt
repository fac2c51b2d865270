-- Disjuncts are derived one after the other.
use Rattle.std.proofs.Common.{◌≡◌, ◌≢◌, ◌<◌, ◌≤◌, ◌+◌, ℕ, zero, suc, List, [], ◌∷◌, ◌++◌, length, map, Some, ◌⊎◌, inl, inr, refl, sym, ap, subst, ◌∙◌, length-append, arith}
use Rattle.std.specs.Prelude.{slice_get}
use Rattle.std.proofs.lemmas.Bool.{cases_lt}
use Rattle.lrp_zone.proofs.Cases.{eq_or}
use Rattle.lrp_kept.specs.declared.disjuncts.Disjunct.{Disjunct}
use Rattle.lrp_parts.specs.Derivations.{AreReleased, Ground, HoldsNothingFor, IsDerivedBut, IsDerivedFrom, Levels}
use Rattle.lrp_parts.specs.declared.derivation.Derived.{Derived}
use Rattle.lrp_parts.proofs.Without.{derived_but}
use Rattle.lrp_keep.specs.Unions.{AreDerived, AreDerivedBut, RemainWithout}
use Rattle.lrp_keep.proofs.Lists.{at_mapped}
use Rattle.lrp_holdings.proofs.Chained.{none_some, some_is}
use Rattle.lrp_plan_laws.proofs.Elements.{within}
use Rattle.lrp_model.proofs.Everywhere.{map_count}
use Rattle.lrp_steps.proofs.Steps.{mapped_get}

abbrev pub levels_in : List Derived → List Levels
levels_in all = map (λ d. d.levels.items) all

-- an element more
pub get_push : {X : Type 0} (xs : List X) (x y : X) (i : ℕ) → slice_get (xs ++ x ∷ []) i ≡ Some y → (slice_get xs i ≡ Some y) ⊎ ((i ≡ length xs) × (x ≡ y))
get_push [] x y zero e = inr (refl, some_is x y e)
get_push [] x y (suc i) e = absurd (none_some y e)
get_push (z ∷ xs) x y zero e = inl e
get_push (z ∷ xs) x y (suc i) e = elim (get_push xs x y i e) [ inl a ↦ inl a | inr b ↦ inr (ap suc b.0, b.1) ]

module _ (g : Ground) (ds : List Disjunct) where
  -- the first ones are derived
  pub record AreDerivedBelow (count : ℕ) (all : List Derived) : Type 0 where
    pub size : length all ≡ count
    pub each : (i : ℕ) (d : Disjunct) (x : Derived) → slice_get ds i ≡ Some d → slice_get all i ≡ Some x → IsDerivedFrom g d x.levels.items

  pub none_derived : AreDerivedBelow 0 []
  none_derived = record { size = refl; each = λ i d x at there. absurd (none_some x there) }

  pub one_derived : (count : ℕ) (d : Disjunct) (all : List Derived) (x : Derived) → slice_get ds count ≡ Some d → AreDerivedBelow count all → IsDerivedFrom g d x.levels.items → AreDerivedBelow (count + 1) (all ++ x ∷ [])
  one_derived count d all x at a h = record {
    size = let n : length all ≡ count = a.size in let m : length (all ++ x ∷ []) ≡ length all + 1 = length-append all (x ∷ []) in omega (arith, n, m);
    each = λ i e y here there. elim (get_push all x y i there) [
      | inl was ↦ a.each i e y here was
      | inr new ↦
          let place : i ≡ count = new.0 ∙ a.size in
          subst (λ z. IsDerivedFrom g e z.levels.items) new.1 (subst (λ z. IsDerivedFrom g z x.levels.items) (some_is d e (sym at ∙ ap (slice_get ds) (sym place) ∙ here)) h)
    ];
  }

  pub all_derived : (all : List Derived) → AreDerivedBelow (length ds) all → AreDerived g ds (levels_in all)
  all_derived all a = record {
    count = map_count (λ d. d.levels.items) all ∙ a.size;
    each = λ i d levels at there. let x = at_mapped (λ (d : Derived). d.levels.items) all i levels there in subst (λ l. IsDerivedFrom g d l) x.2 (a.each i d x.0 at x.1);
  }

  -- ---- a row more

  -- in the first ones with the row under the key, in the others without it
  pub record AreAddedBelow (key count : ℕ) (all : List Derived) : Type 0 where
    pub size : length all ≡ length ds
    pub done : (i : ℕ) (d : Disjunct) (x : Derived) → i < count → slice_get ds i ≡ Some d → slice_get all i ≡ Some x → IsDerivedFrom g d x.levels.items
    pub rest : (i : ℕ) (d : Disjunct) (x : Derived) → count ≤ i → slice_get ds i ≡ Some d → slice_get all i ≡ Some x → IsDerivedBut g d key x.levels.items
    pub none : (i : ℕ) (x : Derived) → count ≤ i → slice_get all i ≡ Some x → HoldsNothingFor key x.levels.items

  pub none_added : (key : ℕ) (all : List Derived) → AreDerivedBut g ds key (levels_in all) → AreAddedBelow key 0 all
  none_added key all h = record {
    size = sym (map_count (λ (d : Derived). d.levels.items) all) ∙ h.count;
    done = λ i d x l. absurd (omega (arith, l));
    rest = λ i d x l at there. h.each i d x.levels.items at (mapped_get (λ (d : Derived). d.levels.items) all i x there);
    none = λ i x l there. h.none i x.levels.items (mapped_get (λ (d : Derived). d.levels.items) all i x there);
  }

  module _ (key count : ℕ) (d : Disjunct) (all next : List Derived) (x : Derived) (at : slice_get ds count ≡ Some d) (there : slice_get next count ≡ Some x) (others : (i : ℕ) → i ≢ count → slice_get next i ≡ slice_get all i) (same : length next ≡ length all) (a : AreAddedBelow key count all) where
    pub one_added : IsDerivedFrom g d x.levels.items → AreAddedBelow key (count + 1) next
    one_added h = record {
      size = same ∙ a.size;
      done = λ i e y l here is. elim (eq_or i count) [
        | inl place ↦ subst (λ z. IsDerivedFrom g e z.levels.items) (some_is x y (sym there ∙ ap (slice_get next) (sym place) ∙ is)) (subst (λ z. IsDerivedFrom g z x.levels.items) (some_is d e (sym at ∙ ap (slice_get ds) (sym place) ∙ here)) h)
        | inr n ↦ a.done i e y (omega (arith, l, n)) here (sym (others i n) ∙ is)
      ];
      rest = λ i e y l here is. let n : i ≢ count = λ p. (let k : count + 1 ≤ i = l in let q : i ≡ count = p in omega (arith, k, q)) in a.rest i e y (omega (arith, l)) here (sym (others i n) ∙ is);
      none = λ i y l is. let n : i ≢ count = λ p. (let k : count + 1 ≤ i = l in let q : i ≡ count = p in omega (arith, k, q)) in a.none i y (omega (arith, l)) (sym (others i n) ∙ is);
    }

    -- where one is refused, what is held for the key is in the first ones alone
    pub stopped : IsDerivedBut g d key x.levels.items → RemainWithout g ds key (levels_in next)
    stopped h = record {
      count = map_count (λ (d : Derived). d.levels.items) next ∙ same ∙ a.size;
      each = λ i e levels here is.
          let y = at_mapped (λ (d : Derived). d.levels.items) next i levels is in
          subst (λ l. IsDerivedBut g e key l) y.2 (elim (eq_or i count) [
            | inl place ↦ subst (λ (z : Derived). IsDerivedBut g e key z.levels.items) (some_is x y.0 (sym there ∙ ap (slice_get next) (sym place) ∙ y.1)) (subst (λ z. IsDerivedBut g z key x.levels.items) (some_is d e (sym at ∙ ap (slice_get ds) (sym place) ∙ here)) h)
            | inr n ↦ by i e y.0 here (sym (others i n) ∙ y.1)
          ]);
    }
      where
        by : (i : ℕ) (e : Disjunct) (y : Derived) → slice_get ds i ≡ Some e → slice_get all i ≡ Some y → IsDerivedBut g e key y.levels.items
        by i e y here is = elim (cases_lt i count) [ inl l ↦ derived_but g e key y.levels.items (a.done i e y l here is) | inr l ↦ a.rest i e y l here is ]

  pub all_added : (key : ℕ) (all : List Derived) → AreAddedBelow key (length ds) all → AreDerived g ds (levels_in all)
  all_added key all a = record {
    count = map_count (λ d. d.levels.items) all ∙ a.size;
    each = λ i d levels at there. let x = at_mapped (λ (d : Derived). d.levels.items) all i levels there in subst (λ l. IsDerivedFrom g d l) x.2 (a.done i d x.0 (within ds i d at) at x.1);
  }

-- ---- a row less

-- in the first ones all is let go that is held for the key
pub record AreLetGoBelow (key count : ℕ) (old new : List Derived) : Type 0 where
  pub size : length new ≡ length old
  pub done : (i : ℕ) (x y : Derived) → i < count → slice_get old i ≡ Some x → slice_get new i ≡ Some y → AreReleased key x.levels.items y.levels.items
  pub rest : (i : ℕ) → count ≤ i → slice_get new i ≡ slice_get old i

pub none_let_go : (key : ℕ) (all : List Derived) → AreLetGoBelow key 0 all all
none_let_go key all = record { size = refl; done = λ i x y l. absurd (omega (arith, l)); rest = λ i l. refl }

pub one_let_go : (key count : ℕ) (old now next : List Derived) (x y : Derived) → slice_get now count ≡ Some x → slice_get next count ≡ Some y → AreReleased key x.levels.items y.levels.items → ((i : ℕ) → i ≢ count → slice_get next i ≡ slice_get now i) → length next ≡ length now → AreLetGoBelow key count old now → AreLetGoBelow key (count + 1) old next
one_let_go key count old now next x y at there released others same a = record {
  size = same ∙ a.size;
  done = λ i v w l was is. elim (eq_or i count) [
    | inl place ↦
        let first : x ≡ v = some_is x v (sym at ∙ ap (slice_get now) (sym place) ∙ a.rest i (let q : i ≡ count = place in omega (arith, q)) ∙ was) in
        let second : y ≡ w = some_is y w (sym there ∙ ap (slice_get next) (sym place) ∙ is) in
        subst (λ (z : Derived). AreReleased key v.levels.items z.levels.items) second (subst (λ (z : Derived). AreReleased key z.levels.items y.levels.items) first released)
    | inr n ↦ a.done i v w (omega (arith, l, n)) was (sym (others i n) ∙ is)
  ];
  rest = λ i l. let n : i ≢ count = λ p. (let k : count + 1 ≤ i = l in let q : i ≡ count = p in omega (arith, k, q)) in others i n ∙ a.rest i (omega (arith, l));
}

pub all_let_go : (key : ℕ) (old new : List Derived) → AreLetGoBelow key (length old) old new → (i : ℕ) (before after : Levels) → slice_get (levels_in old) i ≡ Some before → slice_get (levels_in new) i ≡ Some after → AreReleased key before after
all_let_go key old new a i before after p q =
    let x = at_mapped (λ (d : Derived). d.levels.items) old i before p in
    let y = at_mapped (λ (d : Derived). d.levels.items) new i after q in
    subst (λ l. AreReleased key l after) x.2 (subst (λ l. AreReleased key x.0.levels.items l) y.2 (a.done i x.0 y.0 (within old i x.0 x.1) x.1 y.1))
