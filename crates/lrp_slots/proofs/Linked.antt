-- All chains together, after a value was added or taken out.
use Rattle.std.proofs.Common.{◌≡◌, ◌≢◌, ℕ, suc, ◌+◌, ◌-◌, ◌<◌, ◌≤◌, Bool, true, false, cond, eqb, eq-eqb, ◌⊎◌, List, [], ◌∷◌, ◌++◌, length, get_or, Option, Some, None, option_map, IsSome, refl, sym, ap, subst, ◌∙◌, arith, inl, inr, unwrap_or}
use Rattle.std.specs.Prelude.{sum_by, IfSome, count_by, is_some, map}
use Rattle.std.specs.List.{AllByRecursion}
use Rattle.std.specs.Map.{values_of}
use Rattle.std.specs.BTreeMap.{is_at}
use Rattle.std.specs.List.Sorted.{IsStrictlySortedBy}
use Rattle.std.specs.Map.{keys_of, remove_entry}
use Rattle.std.specs.BTreeMap.{insert_entry}
use Rattle.std.proofs.lemmas.Bool.{ne_eqb}
use Rattle.std.proofs.lemmas.Map.Entries.{sum_by-insert_entry, sum_by-remove_entry, lookup_from_place}
use Rattle.std.proofs.lemmas.Map.Keys.{IsDistinct-from_sorted}
use Rattle.std.proofs.lemmas.List.Sums.{sum_by-cons}
use Rattle.std.proofs.lemmas.Option.{slice_get-get_or}
use Rattle.std.specs.Cmp.{eq_by_cmp_equiv}
use Rattle.std.specs.FinMap as finite
use Rattle.slab.specs.Slab.{Slab, get, slab_len, HasRoomFor}
use Rattle.lrp_model.specs.declared.tuples.Cell.{Cell}
use Rattle.lrp_slots.specs.declared.chains.Link.{Link}
use Rattle.lrp_slots.specs.declared.chains.Chain.{Chain}
use Rattle.lrp_slots.specs.Lists.{cell_cmp, list_at, set_list}
use Rattle.lrp_slots.specs.Links.{next_of, value_at, values_at, chain_keys, chain_values, list_of, chain_at, slots_of, extended, lists_of, IsLastSlot, IsWhole, AreDistinctSlots, AreHeld, AreLinked, Pushes}
use Rattle.lrp_slots.proofs.Keys.{all_so, all_both, all_joined, same_walk, same_end, same_values, on_the_way, length-keys_from, length-values_at}
use Rattle.lrp_slots.proofs.Tables.{cells_total, get-lists_of, entries-lists_of, same_cell, other_cell, some_list, lists_set, list_held, list_absent}
use Rattle.lrp_slots.proofs.Added.{vacant_apart, Extends, begins, extends}

module _ {V : Type 0} where
  -- what a chain has where none of its slots changed
  pub record Keeps (old new : ℕ → Option (Link V)) (chain : Chain) : Type 0 where
    pub whole : IsWhole new chain
    pub keys : chain_keys new chain ≡ chain_keys old chain
    pub values : chain_values new chain ≡ chain_values old chain

  -- a chain keeps what it has
  pub keeps : (old new : ℕ → Option (Link V)) (chain : Chain) → IsWhole old chain → AllByRecursion (λ k. new k ≡ old k) (chain_keys old chain) → Keeps old new chain
  keeps old new chain whole same =
      let next : AllByRecursion (λ k. next_of (new k) ≡ next_of (old k)) (chain_keys old chain) = all_so (λ k. new k ≡ old k) (λ k. next_of (new k) ≡ next_of (old k)) _ (λ k e. ap next_of e) same in
      let keys : chain_keys new chain ≡ chain_keys old chain = (same_walk old new chain.count chain.first next).1 in
      let held : AreHeld new (chain_keys old chain) =
      all_so (λ k. (new k ≡ old k) × IsSome (old k)) (λ k. IsSome (new k)) _ (λ k both. subst IsSome (sym both.0) both.1)
      (all_both (λ k. new k ≡ old k) (λ k. IsSome (old k)) (chain_keys old chain) same whole.held) in
      record {
        whole = record {
          some = whole.some;
          held = subst (AreHeld new) (sym keys) held;
          apart = subst AreDistinctSlots (sym keys) whole.apart;
          last = same_end old new chain.count (chain.count - 1) chain.first (omega arith) next ∙ whole.last;
          line = λ e i within. same_end old new chain.count i chain.first (omega arith) next ∙ whole.line e i within;
        };
        keys = keys;
        values = ap (values_at new) keys ∙ same_values old new (chain_keys old chain) (all_so (λ k. new k ≡ old k) (λ k. value_at (new k) ≡ value_at (old k)) _ (λ k e. ap value_at e) same);
      }

  -- the last slot of a cell's chain is the cell's
  last_is_owned : (slab : Slab (Link V)) (es : List (Cell × Chain)) (linked : AreLinked slab es) (c : Cell) (o : Option Chain) → chain_at es c ≡ o → (k : ℕ) → IsLastSlot o k → linked.owner k ≡ c
  last_is_owned slab es linked c None e k last = absurd last
  last_is_owned slab es linked c (Some chain) e k last =
      let whole = linked.whole c chain e in
      let some = whole.some in
      ap linked.owner (last ∙ sym whole.last) ∙ on_the_way (get slab) (λ key. linked.owner key ≡ c) chain.count (chain.count - 1) chain.first (omega arith) (linked.owned c chain e)

-- what a map has after a change at one key: the new value there, or what it had elsewhere
pub changed_or_kept : {X : Type 0} (b : Bool) (w o : Option X) (x : X) → cond b w o ≡ Some x → ((b ≡ true) × (w ≡ Some x)) ⊎ ((b ≡ false) × (o ≡ Some x))
changed_or_kept true w o x e = inl (refl, e)
changed_or_kept false w o x e = inr (refl, e)

-- what holds at each place holds of each
all_places : {X : Type 0} (P : X → Type 0) (xs : List X) → ((k : ℕ) (d : X) → k < length xs → P (get_or xs k d)) → AllByRecursion P xs
all_places P [] each = tt
all_places P (x ∷ xs) each = (each 0 x (omega arith), all_places P xs (λ k d within. each (suc k) d (omega arith)))

-- how many slots a chain has
abbrev count_of : Chain → ℕ
count_of chain = chain.count

-- no cells ascend
nothing_ascends : IsStrictlySortedBy cell_cmp []
unfolding IsStrictlySortedBy
nothing_ascends = tt

module _ {V : Type 0} where
  -- no slot has a value, and no cell has a chain
  pub none_linked : (slab : Slab (Link V)) (es : List (Cell × Chain)) → slab.slots ≡ [] → es ≡ [] → AreLinked slab es
  none_linked slab es empty none =
      let count : slab_len slab ≡ 0 = ap (count_by is_some) empty in
      subst (λ (f : List (Cell × Chain)). AreLinked slab f) (sym none)
      (record { owner = λ _. record { texts = []; residues = [] }; whole = λ c chain e. cc; owned = λ c chain e. cc; all = sym count; fits = omega arith; ascending = nothing_ascends })

  -- room alone changes no chain
  pub with_room : (old new : Slab (Link V)) (es fs : List (Cell × Chain)) → new ≡ record old { capacity = new.capacity } → old.capacity ≤ new.capacity → fs ≡ es → AreLinked old es → AreLinked new fs
  with_room old new es fs slots more same linked =
      subst (λ (s : Slab (Link V)). AreLinked s fs) (sym slots)
      (subst (λ (f : List (Cell × Chain)). AreLinked (record old { capacity = new.capacity }) f) (sym same) (record { owner = linked.owner; whole = linked.whole; owned = linked.owned; all = linked.all; fits = omega (arith, linked.fits); ascending = linked.ascending }))

  -- the keys of a chain, if there is one
  abbrev pub keys_before : (ℕ → Option (Link V)) → Option Chain → List ℕ
  keys_before slots None = []
  keys_before slots (Some chain) = chain_keys slots chain

  -- what a chain is with one value more
  extension : (old new : Slab (Link V)) (es : List (Cell × Chain)) (linked : AreLinked old es) (c : Cell) (value : V) (o : Option Chain) → chain_at es c ≡ o → Pushes old new o value
      → Extends old new o (keys_before (get old) o) (list_of (get old) o) value
  extension old new es linked c value None e pushes = begins old new value pushes
  extension old new es linked c value (Some chain) e pushes = extends old new chain value (linked.whole c chain e) pushes

  -- its keys are the cell's
  all_owned : (slab : Slab (Link V)) (es : List (Cell × Chain)) (linked : AreLinked slab es) (c : Cell) (o : Option Chain) → chain_at es c ≡ o → AllByRecursion (λ k. linked.owner k ≡ c) (keys_before (get slab) o)
  all_owned slab es linked c None e = tt
  all_owned slab es linked c (Some chain) e = linked.owned c chain e

  -- and each has a value
  all_held_before : (slab : Slab (Link V)) (es : List (Cell × Chain)) (linked : AreLinked slab es) (c : Cell) (o : Option Chain) → chain_at es c ≡ o → AreHeld (get slab) (keys_before (get slab) o)
  all_held_before slab es linked c None e = tt
  all_held_before slab es linked c (Some chain) e = (linked.whole c chain e).held

  -- the list at a cell is that of its chain, if it has one
  pub list_before : (slab : Slab (Link V)) (es : List (Cell × Chain)) (c : Cell) (o : Option Chain) → chain_at es c ≡ o → list_at (lists_of (get slab) es) c ≡ list_of (get slab) o
  list_before slab es c None e = list_absent (get slab) es c e
  list_before slab es c (Some chain) e = list_held (get slab) es c chain e

  -- the last slot of a chain has a value
  pub last_is_held : (slab : Slab (Link V)) (es : List (Cell × Chain)) → AreLinked slab es → (c : Cell) (o : Option Chain) → o ≡ chain_at es c → IfSome o (λ chain. IsSome (get slab chain.last))
  last_is_held slab es linked c None e = tt
  last_is_held slab es linked c (Some chain) e =
      let whole = linked.whole c chain (sym e) in
      let some = whole.some in
      subst (λ k. IsSome (get slab k)) whole.last (on_the_way (get slab) (λ k. IsSome (get slab k)) chain.count (chain.count - 1) chain.first (omega arith) whole.held)

  -- how many values a cell has
  pub length_at : (slab : Slab (Link V)) (es : List (Cell × Chain)) → AreLinked slab es → (c : Cell) (chain : Chain) → chain_at es c ≡ Some chain → length (list_at (lists_of (get slab) es) c) ≡ chain.count
  length_at slab es linked c chain e =
      ap length (list_held (get slab) es c chain e) ∙ length-values_at (get slab) (chain_keys (get slab) chain) (linked.whole c chain e).held ∙ length-keys_from (get slab) chain.count chain.first

  -- each key of a chain has a value
  pub chain_is_held : (slab : Slab (Link V)) (es : List (Cell × Chain)) → AreLinked slab es → (c : Cell) (o : Option Chain) → o ≡ chain_at es c → IfSome o (λ chain. AreHeld (get slab) (chain_keys (get slab) chain))
  chain_is_held slab es linked c None e = tt
  chain_is_held slab es linked c (Some chain) e = (linked.whole c chain (sym e)).held

  -- a cell with a chain is held
  pub is_held : (slab : Slab (Link V)) (es : List (Cell × Chain)) (lists : finite.FinMap cell_cmp (List V)) (c : Cell) (chain : Chain) → lists_of (get slab) es ≡ lists → chain_at es c ≡ Some chain → IsSome (finite.get lists c)
  is_held slab es lists c chain view e =
      let here : finite.get lists c ≡ Some (chain_values (get slab) chain) = ap (λ m. finite.get m c) (sym view) ∙ get-lists_of (get slab) es c ∙ ap (option_map (chain_values (get slab))) e in
      subst IsSome (sym here) refl

  -- no cell is held with an empty list
  pub filled : (slab : Slab (Link V)) (es : List (Cell × Chain)) → AreLinked slab es → (lists : finite.FinMap cell_cmp (List V)) → lists_of (get slab) es ≡ lists → (c : Cell) → finite.get lists c ≢ Some []
  filled slab es linked lists view c empty = by_chain (chain_at es c) refl (sym (get-lists_of (get slab) es c) ∙ ap (λ m. finite.get m c) view ∙ empty)
    where
      by_chain : (o : Option Chain) → chain_at es c ≡ o → option_map (chain_values (get slab)) o ≡ Some [] → ⊥
      by_chain None held none = cc
      by_chain (Some chain) held none =
          let whole = linked.whole c chain held in
          let nothing : chain_values (get slab) chain ≡ [] = cc in
          omega (arith, whole.some, ap length nothing, length-values_at (get slab) (chain_keys (get slab) chain) whole.held, length-keys_from (get slab) chain.count chain.first)

  -- each entry's chain is whole
  entries_whole : (slab : Slab (Link V)) (es : List (Cell × Chain)) → AreLinked slab es → AllByRecursion (λ e. IsWhole (get slab) e.1) es
  entries_whole slab es linked =
      all_places (λ (e : Cell × Chain). IsWhole (get slab) e.1) es (λ k d within.
      linked.whole (get_or es k d).0 (get_or es k d).1
      (lookup_from_place (eq_by_cmp_equiv cells_total) es k (get_or es k d).0 (get_or es k d).1 (IsDistinct-from_sorted cell_cmp (keys_of es) linked.ascending) (slice_get-get_or es k d within)))

  -- the values of these cells and the slots of their chains are as many
  sums : (slots : ℕ → Option (Link V)) (fs : List (Cell × Chain)) → AllByRecursion (λ e. IsWhole slots e.1) fs
      → sum_by (λ (xs : List V). length xs) (map (λ (f : Cell × List V). f.1) (map (λ (e : Cell × Chain). (e.0, chain_values slots e.1)) fs)) ≡ slots_of fs
  sums slots [] whole = refl
  sums slots (e ∷ fs) whole =
      omega (
        arith,
        sums slots fs whole.1,
        length-values_at slots (chain_keys slots e.1) whole.0.held,
        length-keys_from slots e.1.count e.1.first,
        sum_by-cons (λ (xs : List V). length xs) (chain_values slots e.1) (map (λ (f : Cell × List V). f.1) (map (λ (e : Cell × Chain). (e.0, chain_values slots e.1)) fs)),
        sum_by-cons count_of e.1 (values_of fs),
      )

  -- all values together
  pub values_counted : (slab : Slab (Link V)) (es : List (Cell × Chain)) → AreLinked slab es → sum_by (λ (xs : List V). length xs) (finite.values (lists_of (get slab) es)) ≡ slab_len slab
  values_counted slab es linked =
      ap (λ fs. sum_by (λ (xs : List V). length xs) (map (λ (f : Cell × List V). f.1) fs)) (entries-lists_of (get slab) es linked.ascending)
      ∙ sums (get slab) es (entries_whole slab es linked) ∙ linked.all

  -- a cell with no chain is not held
  pub not_held : (slab : Slab (Link V)) (es : List (Cell × Chain)) (lists : finite.FinMap cell_cmp (List V)) (c : Cell) → lists_of (get slab) es ≡ lists → chain_at es c ≡ None → IsSome (finite.get lists c) → ⊥
  not_held slab es lists c view absent held =
      let nothing : finite.get lists c ≡ None = ap (λ m. finite.get m c) (sym view) ∙ get-lists_of (get slab) es c ∙ ap (option_map (chain_values (get slab))) absent in
      let here : IsSome {T = List V} None = subst IsSome nothing held in
      cc

-- the slots of all chains, where one cell's chain is another
pub slots_of-insert : (es : List (Cell × Chain)) (c : Cell) (rest chain : Chain) → IsStrictlySortedBy cell_cmp (keys_of es) → chain_at es c ≡ Some chain → slots_of (insert_entry cell_cmp es c rest) + chain.count ≡ slots_of es + rest.count
slots_of-insert es c rest chain sorted held =
    let had : unwrap_or (option_map count_of (chain_at es c)) 0 ≡ chain.count = ap (λ o. unwrap_or (option_map count_of o) 0) held in
    omega (arith, sum_by-insert_entry count_of cells_total es c rest sorted)

-- and where it is gone
pub slots_of-remove : (es : List (Cell × Chain)) (c : Cell) (rest chain : Chain) → rest.count ≡ 0 → chain_at es c ≡ Some chain → slots_of (remove_entry (is_at (cell_cmp c)) es) + chain.count ≡ slots_of es + rest.count
slots_of-remove es c rest chain none held =
    let had : unwrap_or (option_map count_of (chain_at es c)) 0 ≡ chain.count = ap (λ o. unwrap_or (option_map count_of o) 0) held in
    omega (arith, sum_by-remove_entry count_of (is_at (cell_cmp c)) es)

-- the new chain has one slot more
one_more : (o : Option Chain) (key : ℕ) → (extended o key).count ≡ unwrap_or (option_map count_of o) 0 + 1
one_more None key = refl
one_more (Some chain) key = refl

-- a value was added
module _ {V : Type 0} (old new : Slab (Link V)) (es fs : List (Cell × Chain)) (c : Cell) (value : V) (linked : AreLinked old es) (pushes : Pushes old new (chain_at es c) value)
    (updates : (q : Cell) → chain_at fs q ≡ cond (is_at (cell_cmp c) q) (Some (extended (chain_at es c) old.vacant_key)) (chain_at es q)) where
  -- the chain with the new slot
  abbrev added_to : Chain
  added_to = extended (chain_at es c) old.vacant_key

  -- what that chain has
  extended_here : Extends old new (chain_at es c) (keys_before (get old) (chain_at es c)) (list_of (get old) (chain_at es c)) value
  extended_here = extension old new es linked c value (chain_at es c) refl pushes

  -- the other chains are as they were
  others_keep : (q : Cell) (chain : Chain) → c ≢ q → chain_at es q ≡ Some chain → Keeps (get old) (get new) chain
  others_keep q chain apart e =
      let whole = linked.whole q chain e in
      keeps (get old) (get new) chain whole
      (all_so (λ k. (k ≢ old.vacant_key) × (linked.owner k ≡ q)) (λ k. get new k ≡ get old k) (chain_keys (get old) chain)
      (λ k both. pushes.others k both.0 (λ last. apart (sym (last_is_owned old es linked c (chain_at es c) refl k last) ∙ both.1)))
      (all_both (λ k. k ≢ old.vacant_key) (λ k. linked.owner k ≡ q) (chain_keys (get old) chain)
      (vacant_apart (get old) old.vacant_key (chain_keys (get old) chain) pushes.vacant whole.held) (linked.owned q chain e)))

  -- whose each slot is now
  abbrev owner : ℕ → Cell
  owner k = cond (eqb k old.vacant_key) c (linked.owner k)

  -- the other slots are whose they were
  owner_kept : (q : Cell) (keys : List ℕ) → AreHeld (get old) keys → AllByRecursion (λ k. linked.owner k ≡ q) keys → AllByRecursion (λ k. owner k ≡ q) keys
  owner_kept q keys held owned =
      all_so (λ k. (k ≢ old.vacant_key) × (linked.owner k ≡ q)) (λ k. owner k ≡ q) keys
      (λ k both. ap (λ b. cond b c (linked.owner k)) (ne_eqb k old.vacant_key both.0) ∙ both.1)
      (all_both (λ k. k ≢ old.vacant_key) (λ k. linked.owner k ≡ q) keys (vacant_apart (get old) old.vacant_key keys pushes.vacant held) owned)

  -- the slots of the new chain are the cell's
  owned_here : AllByRecursion (λ k. owner k ≡ c) (chain_keys (get new) added_to)
  owned_here =
      subst (AllByRecursion (λ k. owner k ≡ c)) (sym extended_here.keys_are)
      (all_joined (λ k. owner k ≡ c) (keys_before (get old) (chain_at es c)) (old.vacant_key ∷ [])
      (owner_kept c (keys_before (get old) (chain_at es c)) (all_held_before old es linked c (chain_at es c) refl) (all_owned old es linked c (chain_at es c) refl))
      (ap (λ b. cond b c (linked.owner old.vacant_key)) (eq-eqb old.vacant_key old.vacant_key refl), tt))

  -- a chain of the new map is the new one or was there before
  same_chain : (q : Cell) (chain : Chain) → chain_at fs q ≡ Some chain → ((c ≡ q) × (added_to ≡ chain)) ⊎ ((c ≢ q) × (chain_at es q ≡ Some chain))
  same_chain q chain e =
      elim (changed_or_kept (is_at (cell_cmp c) q) (Some added_to) (chain_at es q) chain (sym (updates q) ∙ e)) [
        | inl here ↦ inl (same_cell c q here.0, cc)
        | inr there ↦ inr (other_cell c q there.0, there.1)
      ]

  -- each slot still stands in one chain
  pub added_are_linked : slots_of fs ≡ slab_len new → slab_len new ≤ new.capacity → IsStrictlySortedBy cell_cmp (keys_of fs) → AreLinked new fs
  added_are_linked total fits ascending = record {
    owner = owner;
    whole = λ q chain e. elim (same_chain q chain e) [
      | inl here ↦ subst (IsWhole (get new)) here.1 extended_here.whole
      | inr there ↦ (others_keep q chain there.0 there.1).whole
    ];
    owned = λ q chain e. elim (same_chain q chain e) [
      | inl here ↦ subst (λ (ch : Chain). AllByRecursion (λ k. owner k ≡ q) (chain_keys (get new) ch)) here.1 (subst (λ (d : Cell). AllByRecursion (λ k. owner k ≡ d) (chain_keys (get new) added_to)) here.0 owned_here)
      | inr there ↦
          let kept = others_keep q chain there.0 there.1 in
          subst (AllByRecursion (λ k. owner k ≡ q)) (sym kept.keys) (owner_kept q (chain_keys (get old) chain) (linked.whole q chain there.1).held (linked.owned q chain there.1))
    ];
    all = total;
    fits = fits;
    ascending = ascending;
  }

  -- the slots of all chains
  pub total_added : fs ≡ insert_entry cell_cmp es c added_to → IsStrictlySortedBy cell_cmp (keys_of es) → slots_of fs ≡ slab_len new
  total_added inserted sorted =
      ap slots_of inserted
      ∙ omega (arith, sum_by-insert_entry count_of cells_total es c added_to sorted, one_more (chain_at es c) old.vacant_key, linked.all, pushes.len)

  -- a list with a value at its end is not empty
  nonempty : (xs : List V) → some_list (xs ++ value ∷ []) ≡ Some (xs ++ value ∷ [])
  nonempty [] = refl
  nonempty (x ∷ xs) = refl

  -- and is set by an insertion
  inserted_list : (lists : finite.FinMap cell_cmp (List V)) (xs : List V) → set_list lists c (xs ++ value ∷ []) ≡ finite.insert lists c (xs ++ value ∷ [])
  inserted_list lists [] = refl
  inserted_list lists (x ∷ xs) = refl

  -- the list has the value at its end, and the others stay
  pub lists_added : lists_of (get new) fs ≡ finite.insert (lists_of (get old) es) c (list_at (lists_of (get old) es) c ++ value ∷ [])
  lists_added =
      let before = list_of (get old) (chain_at es c) in
      lists_set (get old) (get new) es fs c (Some added_to) (before ++ value ∷ []) updates
      (ap Some extended_here.values_are ∙ sym (nonempty before)) (λ q chain apart e. (others_keep q chain apart e).values)
      ∙ inserted_list (lists_of (get old) es) before
      ∙ ap (λ xs. finite.insert (lists_of (get old) es) c (xs ++ value ∷ [])) (sym (list_before old es c (chain_at es c) refl))

-- what `append` did to the slots and to the map
pub record Additions {V : Type 0} (mid new : Slab (Link V)) (es fs : List (Cell × Chain)) (c : Cell) (held : Option Chain) (made : Chain) (value : V) : Type 0 where
  pub linked : AreLinked mid es
  pub held_is : held ≡ chain_at es c
  pub made_is : made ≡ extended held mid.vacant_key
  pub pushes : Pushes mid new held value
  pub updates : (q : Cell) → chain_at fs q ≡ cond (is_at (cell_cmp c) q) (Some made) (chain_at es q)
  pub inserted : fs ≡ insert_entry cell_cmp es c made
  pub ascending : IsStrictlySortedBy cell_cmp (keys_of fs)
  pub room : HasRoomFor mid 1

module _ {V : Type 0} (mid new : Slab (Link V)) (es fs : List (Cell × Chain)) (c : Cell) (held : Option Chain) (made : Chain) (value : V) (additions : Additions mid new es fs c held made value) where
  -- the chain that was made
  made_of : made ≡ extended (chain_at es c) mid.vacant_key
  made_of = additions.made_is ∙ ap (λ h. extended h mid.vacant_key) additions.held_is

  -- what the slots have
  pushed : Pushes mid new (chain_at es c) value
  pushed = subst (λ h. Pushes mid new h value) additions.held_is additions.pushes

  -- what the map has
  updated : (q : Cell) → chain_at fs q ≡ cond (is_at (cell_cmp c) q) (Some (extended (chain_at es c) mid.vacant_key)) (chain_at es q)
  updated q = additions.updates q ∙ ap (λ m. cond (is_at (cell_cmp c) q) (Some m) (chain_at es q)) made_of

  -- each slot still stands in one chain
  pub linked_after_append : AreLinked new fs
  linked_after_append =
      added_are_linked mid new es fs c value additions.linked pushed updated
      (total_added mid new es fs c value additions.linked pushed updated (additions.inserted ∙ ap (insert_entry cell_cmp es c) made_of) additions.linked.ascending)
      (omega (arith, additions.room, additions.pushes.len, additions.pushes.capacity)) additions.ascending

  -- the list has the value at its end, and the others stay
  pub lists_after_append : lists_of (get new) fs ≡ finite.insert (lists_of (get mid) es) c (list_at (lists_of (get mid) es) c ++ value ∷ [])
  lists_after_append = lists_added mid new es fs c value additions.linked pushed updated
