-- All chains together, after a value was taken out.
use Rattle.std.proofs.Common.{◌≡◌, ◌≢◌, ℕ, zero, suc, ◌+◌, ◌<◌, Bool, cond, ◌⊎◌, List, [], ◌∷◌, ◌++◌, length, Option, Some, option_map, IsSome, refl, sym, ap, subst, ◌∙◌, arith, inl, inr}
use Rattle.std.proofs.Math.Dec.{eqb-suc-zero}
use Rattle.std.specs.Prelude.{slice_get}
use Rattle.std.specs.List.{AllByRecursion, remove}
use Rattle.std.specs.List.Sorted.{IsStrictlySortedBy}
use Rattle.std.specs.Map.{keys_of}
use Rattle.std.specs.BTreeMap.{is_at}
use Rattle.slab.specs.Slab.{Slab, get}
use Rattle.lrp_model.specs.declared.tuples.Cell.{Cell}
use Rattle.lrp_slots.specs.declared.chains.Link.{Link}
use Rattle.lrp_slots.specs.declared.chains.Chain.{Chain}
use Rattle.lrp_slots.specs.Lists.{cell_cmp, list_at, set_list}
use Rattle.lrp_slots.specs.Links.{value_at, values_at, chain_keys, chain_values, chain_at, slots_of, if_some, lists_of, IsWhole, AreDistinctSlots, AreHeld, AreLinked, TakesOut}
use Rattle.lrp_slots.proofs.Keys.{all_so, all_both, all_front, all_back, all_joined, apart_before, apart_after, AreApart-without, values_at-append, same_values, length-values_at, length-keys_from, still_held}
use Rattle.lrp_slots.proofs.Tables.{same_cell, other_cell, some_list, lists_set, list_held}
use Rattle.lrp_slots.proofs.Linked.{Keeps, keeps, changed_or_kept}

-- an element in the middle of a list
pub removed_middle : {X : Type 0} (xs : List X) (y : X) (ys : List X) → remove (xs ++ y ∷ ys) (length xs) ≡ xs ++ ys
removed_middle [] y ys = refl
removed_middle (x ∷ xs) y ys = ap (λ zs. x ∷ zs) (removed_middle xs y ys)

-- and what stands there
pub read_middle : {X : Type 0} (xs : List X) (y : X) (ys : List X) → slice_get (xs ++ y ∷ ys) (length xs) ≡ Some y
read_middle [] y ys = refl
read_middle (x ∷ xs) y ys = read_middle xs y ys

-- what is left of a chain has a slot
pub some_left : (rest chain : Chain) → if_some rest ≡ Some chain → (0 < rest.count) × (rest ≡ chain)
some_left rest chain e = by_slots rest.first rest.last rest.count rest.in_line e
  where
    by_slots : (first last count : ℕ) (line : Bool) → if_some (record { first = first; last = last; count = count; in_line = line }) ≡ Some chain → (0 < count) × (record { first = first; last = last; count = count; in_line = line } ≡ chain)
    by_slots first last zero line e = cc
    by_slots first last (suc n) line e =
        let left : Some (record { first = first; last = last; count = suc n; in_line = line }) ≡ Some chain = rw (eqb-suc-zero n) at e in
        (omega arith, cc)

module _ {V : Type 0} where
  -- the list of what is left
  pub list_left : (slots : ℕ → Option (Link V)) (rest : Chain) → length (chain_values slots rest) ≡ rest.count → option_map (chain_values slots) (if_some rest) ≡ some_list (chain_values slots rest)
  list_left slots rest many = by_slots rest.first rest.last rest.count rest.in_line many
    where
      filled : (xs : List V) (n : ℕ) → length xs ≡ suc n → Some xs ≡ some_list xs
      filled [] n e = absurd (omega arith)
      filled (x ∷ xs) n e = refl

      by_slots : (first last count : ℕ) (line : Bool) → length (chain_values slots (record { first = first; last = last; count = count; in_line = line })) ≡ count
          → option_map (chain_values slots) (if_some (record { first = first; last = last; count = count; in_line = line })) ≡ some_list (chain_values slots (record { first = first; last = last; count = count; in_line = line }))
      by_slots first last zero line many = refl
      by_slots first last (suc n) line many = rw (eqb-suc-zero n) (filled (chain_values slots (record { first = first; last = last; count = suc n; in_line = line })) n many)

-- what `remove` did to the slots and to the map
pub record Removal {V : Type 0} (old new : Slab (Link V)) (es fs : List (Cell × Chain)) (c : Cell) (chain : Chain) (place : ℕ) (value : V) (rest : Chain) : Type 0 where
  pub linked : AreLinked old es
  pub held : chain_at es c ≡ Some chain
  pub taken : TakesOut old new chain place value rest
  pub updates : (q : Cell) → chain_at fs q ≡ cond (is_at (cell_cmp c) q) (if_some rest) (chain_at es q)
  pub total : slots_of fs + chain.count ≡ slots_of es + rest.count
  pub ascending : IsStrictlySortedBy cell_cmp (keys_of fs)

module _ {V : Type 0} (old new : Slab (Link V)) (es fs : List (Cell × Chain)) (c : Cell) (chain : Chain) (place : ℕ) (value : V) (rest : Chain) (removal : Removal old new es fs c chain place value rest) where
  -- how the slots were linked
  abbrev linked : AreLinked old es
  linked = removal.linked

  -- what was taken
  abbrev taken : TakesOut old new chain place value rest
  taken = removal.taken

  -- the other chains are as they were
  others_keep : (q : Cell) (other : Chain) → c ≢ q → chain_at es q ≡ Some other → Keeps (get old) (get new) other
  others_keep q other apart e =
      keeps (get old) (get new) other (linked.whole q other e)
      (all_so (λ k. linked.owner k ≡ q) (λ k. get new k ≡ get old k) (chain_keys (get old) other)
      (λ k mine. taken.others k (all_so (λ j. linked.owner j ≡ c) (λ j. j ≢ k) (chain_keys (get old) chain) (λ j owned same. apart (sym owned ∙ ap linked.owner same ∙ mine)) (linked.owned c chain removal.held)))
      (linked.owned q other e))

  -- the chain was whole
  whole : IsWhole (get old) chain
  whole = linked.whole c chain removal.held

  -- no key came twice
  were_apart : AreDistinctSlots (taken.front ++ taken.key ∷ taken.back)
  were_apart = subst AreDistinctSlots taken.were whole.apart

  -- each had a value
  were_held : AreHeld (get old) (taken.front ++ taken.key ∷ taken.back)
  were_held = subst (AreHeld (get old)) taken.were whole.held

  -- the keys that are left are others
  unlike : AllByRecursion (λ k. k ≢ taken.key) (taken.front ++ taken.back)
  unlike = all_joined (λ k. k ≢ taken.key) taken.front taken.back (apart_before taken.front taken.key taken.back were_apart) (apart_after taken.front taken.key taken.back were_apart)

  -- what held of all keys holds of those that are left
  left : (P : ℕ → Type 0) → AllByRecursion P (taken.front ++ taken.key ∷ taken.back) → AllByRecursion P (taken.front ++ taken.back)
  left P all = all_joined P taken.front taken.back (all_front P taken.front (taken.key ∷ taken.back) all) ((all_back P taken.front (taken.key ∷ taken.back) all).1)

  -- they keep their values
  values_kept : AllByRecursion (λ k. value_at (get new k) ≡ value_at (get old k)) (taken.front ++ taken.back)
  values_kept = all_so (λ k. k ≢ taken.key) (λ k. value_at (get new k) ≡ value_at (get old k)) (taken.front ++ taken.back) (λ k differs. taken.values k differs) unlike

  -- and each has a value
  still : AreHeld (get new) (taken.front ++ taken.back)
  still =
      all_so (λ k. IsSome (get old k) × (value_at (get new k) ≡ value_at (get old k))) (λ k. IsSome (get new k)) (taken.front ++ taken.back) (λ k both. still_held (get old k) (get new k) both.1 both.0)
      (all_both (λ k. IsSome (get old k)) (λ k. value_at (get new k) ≡ value_at (get old k)) (taken.front ++ taken.back) (left (λ k. IsSome (get old k)) were_held) values_kept)

  -- what is left is whole
  rest_is_whole : 0 < rest.count → IsWhole (get new) rest
  rest_is_whole some = record {
    some = some;
    held = subst (AreHeld (get new)) (sym taken.are) still;
    apart = subst AreDistinctSlots (sym taken.are) (AreApart-without taken.front taken.key taken.back were_apart);
    last = taken.last some;
    line = λ e. absurd (cc (e, taken.broken));
  }

  -- and is the cell's
  rest_is_owned : AllByRecursion (λ k. linked.owner k ≡ c) (chain_keys (get new) rest)
  rest_is_owned =
      subst (AllByRecursion (λ k. linked.owner k ≡ c)) (sym taken.are)
      (left (λ k. linked.owner k ≡ c) (subst (AllByRecursion (λ k. linked.owner k ≡ c)) taken.were (linked.owned c chain removal.held)))

  -- a chain of the new map is what is left or was there before
  same_chain : (q : Cell) (other : Chain) → chain_at fs q ≡ Some other → ((c ≡ q) × (if_some rest ≡ Some other)) ⊎ ((c ≢ q) × (chain_at es q ≡ Some other))
  same_chain q other e =
      elim (changed_or_kept (is_at (cell_cmp c) q) (if_some rest) (chain_at es q) other (sym (removal.updates q) ∙ e)) [
        | inl here ↦ inl (same_cell c q here.0, here.1)
        | inr there ↦ inr (other_cell c q there.0, there.1)
      ]

  -- each slot still stands in one chain
  pub linked_after_remove : AreLinked new fs
  linked_after_remove = record {
    owner = linked.owner;
    whole = λ q other e. elim (same_chain q other e) [
      | inl here ↦ let is = some_left rest other here.1 in subst (IsWhole (get new)) is.1 (rest_is_whole is.0)
      | inr there ↦ (others_keep q other there.0 there.1).whole
    ];
    owned = λ q other e. elim (same_chain q other e) [
      | inl here ↦
          let is = some_left rest other here.1 in
          subst (λ (d : Cell). AllByRecursion (λ k. linked.owner k ≡ d) (chain_keys (get new) other)) here.0 (subst (λ (ch : Chain). AllByRecursion (λ k. linked.owner k ≡ c) (chain_keys (get new) ch)) is.1 rest_is_owned)
      | inr there ↦ subst (AllByRecursion (λ k. linked.owner k ≡ q)) (sym (others_keep q other there.0 there.1).keys) (linked.owned q other there.1)
    ];
    all = omega (arith, linked.all, removal.total, taken.len, taken.count);
    fits = omega (arith, taken.room);
    ascending = removal.ascending;
  }

  -- the values that the list had
  values_were : chain_values (get old) chain ≡ values_at (get old) taken.front ++ value ∷ values_at (get old) taken.back
  values_were =
      ap (values_at (get old)) taken.were ∙ values_at-append (get old) taken.front (taken.key ∷ taken.back)
      ∙ ap (λ vs. values_at (get old) taken.front ++ (vs ++ values_at (get old) taken.back)) taken.was

  -- the values that it has
  values_are : chain_values (get new) rest ≡ values_at (get old) taken.front ++ values_at (get old) taken.back
  values_are =
      ap (values_at (get new)) taken.are ∙ same_values (get old) (get new) (taken.front ++ taken.back) values_kept ∙ values_at-append (get old) taken.front taken.back

  -- how many came before
  place_is : length (values_at (get old) taken.front) ≡ place
  place_is = length-values_at (get old) taken.front (all_front (λ k. IsSome (get old k)) taken.front (taken.key ∷ taken.back) were_held) ∙ taken.place_of

  -- the list as it was
  pub list_was : list_at (lists_of (get old) es) c ≡ values_at (get old) taken.front ++ value ∷ values_at (get old) taken.back
  list_was = list_held (get old) es c chain removal.held ∙ values_were

  -- the value that was taken stood at the place
  pub value_removed : slice_get (list_at (lists_of (get old) es) c) place ≡ Some value
  value_removed = ap (λ xs. slice_get xs place) list_was ∙ ap (slice_get (values_at (get old) taken.front ++ value ∷ values_at (get old) taken.back)) (sym place_is) ∙ read_middle (values_at (get old) taken.front) value (values_at (get old) taken.back)

  -- the list as it is
  list_is : chain_values (get new) rest ≡ remove (list_at (lists_of (get old) es) c) place
  list_is =
      values_are ∙ sym (removed_middle (values_at (get old) taken.front) value (values_at (get old) taken.back))
      ∙ ap (remove (values_at (get old) taken.front ++ value ∷ values_at (get old) taken.back)) place_is ∙ ap (λ xs. remove xs place) (sym list_was)

  -- how many values it has
  count_is : length (chain_values (get new) rest) ≡ rest.count
  count_is =
      length-values_at (get new) (chain_keys (get new) rest) (subst (AreHeld (get new)) (sym taken.are) still) ∙ length-keys_from (get new) rest.count rest.first

  -- the list closed up, and the others stayed
  pub lists_after_remove : lists_of (get new) fs ≡ set_list (lists_of (get old) es) c (remove (list_at (lists_of (get old) es) c) place)
  lists_after_remove =
      lists_set (get old) (get new) es fs c (if_some rest) (chain_values (get new) rest) removal.updates (list_left (get new) rest count_is) (λ q other apart e. (others_keep q other apart e).values)
      ∙ ap (set_list (lists_of (get old) es) c) list_is
