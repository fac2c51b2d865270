-- A state after a row is let go: what is left is derived from the rows that are left.
use Rattle.std.proofs.Common.{◌≡◌, ◌<◌, ℕ, zero, suc, List, [], ◌∷◌, length, map, Some, refl, sym, ap, subst, ◌∙◌, arith}
use Rattle.std.specs.Prelude.{slice_get}
use Rattle.lrp_model.specs.Formulas.{question_of}
use Rattle.lrp_parts.specs.Derivations.{AreReleased, CanDerive, IsDerivedFrom, IsWithoutKey, Levels}
use Rattle.lrp_kept.specs.Disjuncts.{AreDisjunctsOf}
use Rattle.lrp_kept.specs.Keyed.{IsLetGoAt}
use Rattle.lrp_keep.specs.States.{IsStateOf, ground_at}
use Rattle.lrp_keep.specs.declared.kept_query.KeptQuery.{KeptQuery}
use Rattle.lrp_keep.specs.declared.states.State.{State}
use Rattle.lrp_parts.proofs.Rekeyed.{let_go_rows, let_go_without}
use Rattle.lrp_keep.proofs.Views.{names_stay}
use Rattle.lrp_parts.proofs.Without.{derived_after, derived_but}
use Rattle.lrp_keep.proofs.Carried.{can_among}

module _ (of : KeptQuery) (old new : State) (relation place key : ℕ) (is : IsStateOf of old) (low : relation < length old.rows.relations.items) (gone : IsLetGoAt relation place key old.rows new.rows) (same_period : new.period ≡ old.period)
    (count : length new.derived.items ≡ length old.derived.items) (released : (i : ℕ) (before after : Levels) → slice_get (map (λ d. d.levels.items) old.derived.items) i ≡ Some before → slice_get (map (λ d. d.levels.items) new.derived.items) i ≡ Some after → AreReleased key before after) where
  without : IsWithoutKey old.rows new.rows key
  without = let_go_without relation place key old.rows new.rows low is.rows gone

  length_mapped : {X Y : Type 0} (f : X → Y) (xs : List X) → length (map f xs) ≡ length xs
  length_mapped f [] = refl
  length_mapped f (x ∷ xs) = ap suc (length_mapped f xs)

  some_at : {X : Type 0} (xs : List X) (i : ℕ) → i < length xs → (x : X) × (slice_get xs i ≡ Some x)
  some_at [] i l = absurd (let k : i < 0 = l in omega (arith, k))
  some_at (x ∷ xs) zero l = (x, refl)
  some_at (x ∷ xs) (suc i) l = some_at xs i (let k : suc i < suc (length xs) = l in omega (arith, k))

  there_is : {X : Type 0} (xs : List X) (i : ℕ) (x : X) → slice_get xs i ≡ Some x → i < length xs
  there_is [] i x e = cc
  there_is (y ∷ xs) zero x e = omega arith
  there_is (y ∷ xs) (suc i) x e = let l : i < length xs = there_is xs i x e in omega (arith, l)

  abbrev was : List Levels
  was = map (λ d. d.levels.items) old.derived.items

  abbrev now : List Levels
  now = map (λ d. d.levels.items) new.derived.items

  sizes : length now ≡ length was
  sizes = length_mapped (λ d. d.levels.items) new.derived.items ∙ count ∙ sym (length_mapped (λ d. d.levels.items) old.derived.items)

  pub state_after : IsStateOf of new
  state_after = record {
    rows = let_go_rows relation place key old.rows new.rows low is.rows gone;
    disjuncts = subst (λ l. AreDisjunctsOf l (question_of of.query.now) of.disjuncts.items) (sym (names_stay old.rows new.rows relation _ gone.listed)) is.disjuncts;
    can = λ i d at. subst (λ p. CanDerive (ground_at of new.rows p) d) (sym (ap (λ p. p.number) same_period)) (can_among (ground_at of old.rows old.period.number) new.rows d (λ r k c. let x = without.to r k c in (x.0, without.sources k x.1)) gone.listed.count (is.can i d at));
    derived = record {
      count = sizes ∙ is.derived.count;
      each = λ i d levels at there.
          let low_i : i < length now = there_is now i levels there in
          let b = some_at was i (let e : length now ≡ length was = sizes in omega (arith, e, low_i)) in
          let f = is.derived.each i d b.0 at b.1 in
          subst (λ p. IsDerivedFrom (ground_at of new.rows p) d levels) (sym (ap (λ p. p.number) same_period))
          (derived_after (ground_at of old.rows old.period.number) new.rows key without d b.0 levels (released i b.0 levels b.1 there) (derived_but (ground_at of old.rows old.period.number) d key b.0 f));
    };
  }
