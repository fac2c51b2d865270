-- What a chain has once a slot joined it.
use Rattle.std.proofs.Common.{◌≡◌, ◌≢◌, ℕ, zero, suc, ◌+◌, ◌-◌, ◌<◌, ◌≤◌, ◌⊎◌, inl, inr, Bool, true, false, add-zero, List, [], ◌∷◌, ◌++◌, Option, Some, None, IsSome, refl, sym, ap, subst, ◌∙◌, arith}
use Rattle.std.specs.Prelude.{◌==◌, if◌then◌else◌}
use Rattle.std.proofs.lemmas.Bool.{eqb-true}
use Rattle.std.specs.List.{AllByRecursion}
use Rattle.slab.specs.Slab.{Slab, get}
use Rattle.lrp_slots.specs.declared.chains.Link.{Link}
use Rattle.lrp_slots.specs.declared.chains.Chain.{Chain}
use Rattle.lrp_slots.specs.Links.{next_of, value_at, keys_from, key_after, values_at, chain_keys, chain_values, extended, IsWhole, AreDistinctSlots, AreHeld, Pushes}
use Rattle.lrp_slots.proofs.Keys.{all_so, all_both, all_front, all_joined, apart_before, AreApart-push, below_or, keys_from-add, key_after-suc, same_end, same_walk, same_values, values_at-append, held_of, still_held}

module _ {V : Type 0} where
  -- a key with a value is not the key of a slot with none
  vacant_differs : (slots : ℕ → Option (Link V)) (key k : ℕ) → slots key ≡ None → IsSome (slots k) → k ≢ key
  vacant_differs slots key k none held e =
      let none_here : slots k ≡ None = ap slots e ∙ none in
      let here : IsSome {T = Link V} None = subst IsSome none_here held in
      cc

  -- a slot with no value stands in no chain
  pub vacant_apart : (slots : ℕ → Option (Link V)) (key : ℕ) (keys : List ℕ) → slots key ≡ None → AreHeld slots keys → AllByRecursion (λ k. k ≢ key) keys
  vacant_apart slots key keys none held = all_so (λ k. IsSome (slots k)) (λ k. k ≢ key) keys (λ k here. vacant_differs slots key k none here) held

  -- what a chain is, and what it has, once a value was put at its end
  pub record Extends (old new : Slab (Link V)) (held : Option Chain) (keys : List ℕ) (values : List V) (value : V) : Type 0 where
    pub whole : IsWhole (get new) (extended held old.vacant_key)
    pub keys_are : chain_keys (get new) (extended held old.vacant_key) ≡ keys ++ old.vacant_key ∷ []
    pub values_are : chain_values (get new) (extended held old.vacant_key) ≡ values ++ value ∷ []

  -- a value alone
  pub begins : (old new : Slab (Link V)) (value : V) → Pushes old new None value → Extends old new None [] [] value
  begins old new value pushes = record {
    whole = record {
      some = omega arith;
      held = (held_of (get new old.vacant_key) value pushes.added, tt);
      apart = (tt, tt);
      last = refl;
      line = λ e i within. one_line i within;
    };
    keys_are = refl;
    values_are = ap (λ xs. xs ++ []) pushes.added;
  }
    where
      one_line : (i : ℕ) → i < 1 → key_after (get new) i old.vacant_key ≡ old.vacant_key + i
      one_line zero within = sym (add-zero old.vacant_key)
      one_line (suc i) within = absurd (omega arith)

module _ {V : Type 0} (old new : Slab (Link V)) (chain : Chain) (value : V) (whole : IsWhole (get old) chain) (pushes : Pushes old new (Some chain) value) where
  -- the key of the new slot
  abbrev key : ℕ
  key = old.vacant_key

  -- how many slots come before the last
  abbrev n : ℕ
  n = chain.count - 1

  -- the keys before
  abbrev keys : List ℕ
  keys = chain_keys (get old) chain

  -- those before the last
  abbrev front : List ℕ
  front = keys_from (get old) n chain.first

  -- the last key stands at the end
  keys_split : keys ≡ front ++ key_after (get old) n chain.first ∷ []
  keys_split = let some = whole.some in keys_from-add (get old) n 1 chain.count chain.first (omega arith)

  -- no key before it is the same
  unlike_last : AllByRecursion (λ k. k ≢ key_after (get old) n chain.first) front
  unlike_last = apart_before front (key_after (get old) n chain.first) [] (subst AreDistinctSlots keys_split whole.apart)

  -- no key is that of the new slot
  unlike_key : AllByRecursion (λ k. k ≢ key) keys
  unlike_key = vacant_apart (get old) key keys pushes.vacant whole.held

  -- the slots before the last lead to the same
  front_same : AllByRecursion (λ k. next_of (get new k) ≡ next_of (get old k)) front
  front_same =
      all_so (λ k. (k ≢ key) × (k ≢ key_after (get old) n chain.first)) (λ k. next_of (get new k) ≡ next_of (get old k)) front
      (λ k both. ap next_of (pushes.others k both.0 (λ e. both.1 (e ∙ sym whole.last))))
      (all_both (λ k. k ≢ key) (λ k. k ≢ key_after (get old) n chain.first) front
      (all_front (λ k. k ≢ key) front (key_after (get old) n chain.first ∷ []) (subst (AllByRecursion (λ k. k ≢ key)) keys_split unlike_key)) unlike_last)

  -- the last slot is one of them
  count_is : chain.count ≡ suc n
  count_is = let some = whole.some in omega arith

  -- so the walk is the same, as far as it went
  walk_same : keys_from (get new) (suc n) chain.first ≡ keys
  walk_same = (same_walk (get old) (get new) n chain.first front_same).0 ∙ ap (λ k. keys_from (get old) k chain.first) (sym count_is)

  -- and the slot after it is the new one
  end_is : key_after (get new) (suc n) chain.first ≡ key
  end_is =
      key_after-suc (get new) n chain.first
      ∙ ap (λ k. next_of (get new k)) ((same_walk (get old) (get new) n chain.first front_same).2 ∙ whole.last)
      ∙ pushes.joined chain.last refl

  -- the keys with the new one at their end
  keys_more : chain_keys (get new) (extended (Some chain) key) ≡ keys ++ key ∷ []
  keys_more =
      keys_from-add (get new) (suc n) 1 (chain.count + 1) chain.first (omega (arith, count_is))
      ∙ ap (λ ks. ks ++ key_after (get new) (suc n) chain.first ∷ []) walk_same ∙ ap (λ k. keys ++ k ∷ []) end_is

  -- they keep their values
  values_kept : AllByRecursion (λ k. value_at (get new k) ≡ value_at (get old k)) keys
  values_kept = all_so (λ k. k ≢ key) (λ k. value_at (get new k) ≡ value_at (get old k)) keys (λ k differs. pushes.values k differs) unlike_key

  -- and each has a value
  all_held : AreHeld (get new) (keys ++ key ∷ [])
  all_held =
      all_joined (λ k. IsSome (get new k)) keys (key ∷ [])
      (all_so (λ k. IsSome (get old k) × (value_at (get new k) ≡ value_at (get old k))) (λ k. IsSome (get new k)) keys (λ k both. still_held (get old k) (get new k) both.1 both.0)
      (all_both (λ k. IsSome (get old k)) (λ k. value_at (get new k) ≡ value_at (get old k)) keys whole.held values_kept))
      (held_of (get new key) value pushes.added, tt)

  -- a value at the end of a chain
  pub extends : Extends old new (Some chain) keys (chain_values (get old) chain) value
  extends = record {
    whole = record {
      some = omega arith;
      held = subst (AreHeld (get new)) (sym keys_more) all_held;
      apart = subst AreDistinctSlots (sym keys_more) (AreApart-push keys key whole.apart unlike_key);
      last = ap (λ k. key_after (get new) k chain.first) last_count ∙ end_is;
      line = λ e i within. line_more e i within (below_or i chain.count);
    };
    keys_are = keys_more;
    values_are =
        ap (values_at (get new)) keys_more ∙ values_at-append (get new) keys (key ∷ [])
        ∙ ap (λ vs. vs ++ values_at (get new) (key ∷ [])) (same_values (get old) (get new) keys values_kept)
        ∙ ap (λ vs. chain_values (get old) chain ++ (vs ++ [])) pushes.added;
  }
    where
      last_count : chain.count + 1 - 1 ≡ suc n
      last_count = omega (arith, count_is)

      -- where the key is after the last one, the slots stay in line
      follows : (line : Bool) → (if line then chain.last + 1 == key else false) ≡ true → (line ≡ true) × (chain.last + 1 ≡ key)
      follows true e = (refl, eqb-true (chain.last + 1) key e)
      follows false e = cc

      before_end : (i : ℕ) → i < chain.count → key_after (get new) i chain.first ≡ key_after (get old) i chain.first
      before_end i within = same_end (get old) (get new) n i chain.first (omega (arith, count_is)) front_same

      line_more : (if chain.in_line then chain.last + 1 == key else false) ≡ true → (i : ℕ) → i < chain.count + 1 → (i < chain.count) ⊎ (chain.count ≤ i) → key_after (get new) i chain.first ≡ chain.first + i
      line_more e i within (inl before) = before_end i before ∙ whole.line (follows chain.in_line e).0 i before
      line_more e i within (inr after) =
          let here : i ≡ suc n = omega (arith, count_is) in
          let at_last : chain.last ≡ chain.first + n = sym whole.last ∙ whole.line (follows chain.in_line e).0 n (omega (arith, count_is)) in
          let next : chain.last + 1 ≡ key = (follows chain.in_line e).1 in
          ap (λ k. key_after (get new) k chain.first) here ∙ end_is ∙ omega arith
