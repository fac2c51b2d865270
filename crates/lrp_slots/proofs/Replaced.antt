-- What the chains have where the last slot of one has another value.
use Rattle.std.proofs.Common.{◌≡◌, ◌≢◌, ℕ, ◌+◌, ◌-◌, inl, inr, Bool, true, false, cond, List, [], ◌∷◌, ◌++◌, length, take, Some, IsSome, refl, sym, ap, subst, ◌∙◌, arith}
use Rattle.std.specs.List.{AllByRecursion}
use Rattle.std.specs.BTreeMap.{is_at}
use Rattle.std.proofs.lemmas.Bool.{cases_eq}
use Rattle.std.proofs.lemmas.List.{take_at}
use Rattle.std.specs.FinMap as finite
use Rattle.slab.specs.Slab.{Slab, get}
use Rattle.lrp_model.specs.declared.tuples.Cell.{Cell}
use Rattle.lrp_slots.specs.declared.chains.Link.{Link}
use Rattle.lrp_slots.specs.declared.chains.Chain.{Chain}
use Rattle.lrp_slots.specs.Lists.{cell_cmp, list_at, set_list, with_last}
use Rattle.lrp_slots.specs.Links.{next_of, value_at, keys_from, values_at, chain_at, chain_keys, chain_values, lists_of, AreDistinctSlots, AreHeld, AreLinked, IsWhole, Sets}
use Rattle.lrp_slots.proofs.Keys.{all_back, all_front, all_so, apart_before, held_of, keys_from-add, length-keys_from, length-values_at, same_end, same_values, same_walk, values_at-append}
use Rattle.lrp_slots.proofs.Tables.{list_held, lists_set, same_cell, some_list}

-- a list with a value at its end is not empty
nonempty : {X : Type 0} (xs : List X) (x : X) → some_list (xs ++ x ∷ []) ≡ Some (xs ++ x ∷ [])
nonempty [] x = refl
nonempty (y ∷ xs) x = refl

-- and is set by an insertion
inserted_list : {X : Type 0} (lists : finite.FinMap cell_cmp (List X)) (c : Cell) (xs : List X) (x : X) → set_list lists c (xs ++ x ∷ []) ≡ finite.insert lists c (xs ++ x ∷ [])
inserted_list lists c [] x = refl
inserted_list lists c (y ∷ xs) x = refl

module _ {V : Type 0} (old new : Slab (Link V)) (es : List (Cell × Chain)) (c : Cell) (chain : Chain) (value : V) (linked : AreLinked old es) (held : chain_at es c ≡ Some chain) (sets : Sets old new chain.last value) where
  -- each slot leads to the same
  leads : (keys : List ℕ) → AllByRecursion (λ k. next_of (get new k) ≡ next_of (get old k)) keys
  leads [] = tt
  leads (key ∷ keys) = (sets.nexts key, leads keys)

  -- so each chain has the same keys
  same_keys : (other : Chain) → chain_keys (get new) other ≡ chain_keys (get old) other
  same_keys other = (same_walk (get old) (get new) other.count other.first (leads (chain_keys (get old) other))).1

  -- a slot that had a value has one
  still_has : (k : ℕ) → IsSome (get old k) → IsSome (get new k)
  still_has k some = elim (cases_eq k chain.last) [
    | inl e ↦ subst (λ n. IsSome (get new n)) (sym e) (held_of (get new chain.last) value sets.set)
    | inr ne ↦ subst IsSome (sym (sets.others k ne)) some
  ]

  -- each chain is whole
  still_whole : (other : Chain) → IsWhole (get old) other → IsWhole (get new) other
  still_whole other whole = record {
    some = whole.some;
    held = subst (AreHeld (get new)) (sym (same_keys other)) (all_so (λ k. IsSome (get old k)) (λ k. IsSome (get new k)) (chain_keys (get old) other) still_has whole.held);
    apart = subst AreDistinctSlots (sym (same_keys other)) whole.apart;
    last = same_end (get old) (get new) other.count (other.count - 1) other.first (omega arith) (leads (chain_keys (get old) other)) ∙ whole.last;
    line = λ e i within. same_end (get old) (get new) other.count i other.first (omega arith) (leads (chain_keys (get old) other)) ∙ whole.line e i within;
  }

  -- each slot still stands in one chain
  pub linked_after_set : AreLinked new es
  linked_after_set = record {
    owner = linked.owner;
    whole = λ q other e. still_whole other (linked.whole q other e);
    owned = λ q other e. subst (AllByRecursion (λ k. linked.owner k ≡ q)) (sym (same_keys other)) (linked.owned q other e);
    all = linked.all ∙ sym sets.len;
    fits = omega (arith, linked.fits, sets.len, sets.capacity);
    ascending = linked.ascending;
  }

  -- the chain is as it was, and the others too
  updates : (q : Cell) → chain_at es q ≡ cond (is_at (cell_cmp c) q) (Some chain) (chain_at es q)
  updates q = by (is_at (cell_cmp c) q) refl
    where
      by : (b : Bool) → is_at (cell_cmp c) q ≡ b → chain_at es q ≡ cond b (Some chain) (chain_at es q)
      by true e = subst (λ d. chain_at es d ≡ Some chain) (same_cell c q e) held
      by false e = refl

  -- the chain of the cell
  whole_here : IsWhole (get old) chain
  whole_here = linked.whole c chain held

  -- how many slots come before the last
  abbrev n : ℕ
  n = chain.count - 1

  -- their keys
  abbrev front : List ℕ
  front = keys_from (get old) n chain.first

  keys_split : chain_keys (get old) chain ≡ front ++ chain.last ∷ []
  keys_split =
      let some = whole_here.some in
      keys_from-add (get old) n 1 chain.count chain.first (omega arith) ∙ ap (λ k. front ++ k ∷ []) whole_here.last

  -- no key before the last is the same
  unlike_last : AllByRecursion (λ k. k ≢ chain.last) front
  unlike_last = apart_before front chain.last [] (subst AreDistinctSlots keys_split whole_here.apart)

  -- so their values stay
  front_same : values_at (get new) front ≡ values_at (get old) front
  front_same = same_values (get old) (get new) front (all_so (λ k. k ≢ chain.last) (λ k. value_at (get new k) ≡ value_at (get old k)) front (λ k ne. ap value_at (sets.others k ne)) unlike_last)

  -- and they are all values but the last
  front_length : length (values_at (get old) front) ≡ n
  front_length =
      length-values_at (get old) front (all_front (λ k. IsSome (get old k)) front (chain.last ∷ []) (subst (AreHeld (get old)) keys_split whole_here.held))
      ∙ length-keys_from (get old) n chain.first

  front_is : take (length (chain_values (get old) chain) - 1) (chain_values (get old) chain) ≡ values_at (get old) front
  front_is =
      let count : length (chain_values (get old) chain) ≡ chain.count = length-values_at (get old) (chain_keys (get old) chain) whole_here.held ∙ length-keys_from (get old) chain.count chain.first in
      ap (λ m. take (m - 1) (chain_values (get old) chain)) count
      ∙ ap (take n) (ap (values_at (get old)) keys_split ∙ values_at-append (get old) front (chain.last ∷ []))
      ∙ take_at (values_at (get old) front) (values_at (get old) (chain.last ∷ [])) n front_length

  -- the chain has the other value at its end
  values_are : chain_values (get new) chain ≡ with_last (chain_values (get old) chain) value
  values_are =
      ap (values_at (get new)) (same_keys chain ∙ keys_split) ∙ values_at-append (get new) front (chain.last ∷ [])
      ∙ ap (λ vs. values_at (get new) front ++ (vs ++ [])) sets.set
      ∙ ap (λ vs. vs ++ value ∷ []) (front_same ∙ sym front_is)

  -- another chain has the values that it had
  others_keep : (q : Cell) (other : Chain) → c ≢ q → chain_at es q ≡ Some other → chain_values (get new) other ≡ chain_values (get old) other
  others_keep q other apart e =
      ap (values_at (get new)) (same_keys other)
      ∙ same_values (get old) (get new) (chain_keys (get old) other)
      (all_so (λ k. linked.owner k ≡ q) (λ k. value_at (get new k) ≡ value_at (get old k)) (chain_keys (get old) other)
      (λ k owner. ap value_at (sets.others k (λ same. apart (sym last_owner ∙ ap linked.owner (sym same) ∙ owner)))) (linked.owned q other e))
    where
      last_owner : linked.owner chain.last ≡ c
      last_owner = (all_back (λ k. linked.owner k ≡ c) front (chain.last ∷ []) (subst (AllByRecursion (λ k. linked.owner k ≡ c)) keys_split (linked.owned c chain held))).0

  -- the list has the other value at its end, and the others stay
  pub lists_after_set : lists_of (get new) es ≡ finite.insert (lists_of (get old) es) c (with_last (list_at (lists_of (get old) es) c) value)
  lists_after_set =
      let before = chain_values (get old) chain in
      lists_set (get old) (get new) es es c (Some chain) (with_last before value) updates
      (ap Some values_are ∙ sym (nonempty (take (length before - 1) before) value)) others_keep
      ∙ inserted_list (lists_of (get old) es) c (take (length before - 1) before) value
      ∙ ap (λ xs. finite.insert (lists_of (get old) es) c (with_last xs value)) (sym (list_held (get old) es c chain held))
