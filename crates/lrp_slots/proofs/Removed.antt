-- What a chain has once a slot left it.
use Rattle.std.proofs.Common.{◌≡◌, ◌≢◌, ℕ, zero, suc, ◌+◌, ◌-◌, ◌<◌, Bool, false, List, [], ◌∷◌, ◌++◌, Some, None, IsSome, refl, sym, ap, subst, ◌∙◌, arith, append_assoc}
use Rattle.std.specs.List.{AllByRecursion}
use Rattle.slab.specs.Slab.{Slab, get, slab_len, HasRoomFor, Updates}
use Rattle.lrp_slots.specs.declared.chains.Link.{Link}
use Rattle.lrp_slots.specs.declared.chains.Chain.{Chain}
use Rattle.lrp_slots.specs.Links.{next_of, value_at, keys_from, key_after, chain_keys, IsWhole, AreDistinctSlots, Joins, TakesOut}
use Rattle.lrp_slots.proofs.Keys.{all_so, all_both, all_back, all_front, apart_before, apart_after, keys_from-add, key_after-add, key_after-suc, length-keys_from, on_the_way, same_walk, same_end}

-- what holds of each chain with at least one slot, by the number of the others
pub by_count : (P : Chain → Type 0) → ((first last n : ℕ) (line : Bool) → P (record { first = first; last = last; count = suc n; in_line = line })) → (chain : Chain) → 0 < chain.count → P chain
by_count P each chain some = counted chain.first chain.last chain.count chain.in_line some
  where
    counted : (first last count : ℕ) (line : Bool) → 0 < count → P (record { first = first; last = last; count = count; in_line = line })
    counted first last zero line some = absurd (omega arith)
    counted first last (suc n) line some = each first last n line

module _ {V : Type 0} where
  -- the first slot left
  pub first_out : (old new : Slab (Link V)) (chain : Chain) (link : Link V) → IsWhole (get old) chain → get old chain.first ≡ Some link → Updates old new chain.first None
      → slab_len new + 1 ≡ slab_len old → HasRoomFor new 1 → new.capacity ≡ old.capacity
      → TakesOut old new chain 0 link.value (record { first = link.next; last = chain.last; count = chain.count - 1; in_line = false })
  first_out old new chain link whole found updates len room capacity =
      by_count (λ chain. IsWhole (get old) chain → get old chain.first ≡ Some link → Updates old new chain.first None → TakesOut old new chain 0 link.value (record { first = link.next; last = chain.last; count = chain.count - 1; in_line = false }))
      each chain whole.some whole found updates
    where
      each : (first last n : ℕ) (line : Bool) → IsWhole (get old) (record { first = first; last = last; count = suc n; in_line = line }) → get old first ≡ Some link → Updates old new first None → TakesOut old new (record { first = first; last = last; count = suc n; in_line = line }) 0 link.value (record { first = link.next; last = last; count = suc n - 1; in_line = false })
      each first last n line whole found updates =
          let fewer : suc n - 1 ≡ n = omega arith in
          let next : next_of (get old first) ≡ link.next = ap next_of found in
          let apart : AllByRecursion (λ other. other ≢ first) (keys_from (get old) n link.next) = subst (λ k. AllByRecursion (λ other. other ≢ first) (keys_from (get old) n k)) next whole.apart.0 in
          let same : AllByRecursion (λ k. next_of (get new k) ≡ next_of (get old k)) (keys_from (get old) n link.next) =
          all_so (λ other. other ≢ first) (λ k. next_of (get new k) ≡ next_of (get old k)) _ (λ k differs. ap next_of (updates.others k differs)) apart in
          record {
            front = [];
            key = first;
            back = keys_from (get old) n link.next;
            place_of = refl;
            were = ap (λ k. first ∷ keys_from (get old) n k) next;
            are = ap (λ k. keys_from (get new) k link.next) fewer ∙ (same_walk (get old) (get new) n link.next same).1;
            count = omega arith;
            last = λ some. last_of n (omega arith) same (rw fewer at whole.last);
            broken = refl;
            was = ap value_at found;
            gone = updates.changed;
            values = λ k differs. ap value_at (updates.others k differs);
            others = λ k differs. updates.others k (λ e. differs.0 (sym e));
            len = len;
            room = room;
            capacity = capacity;
          }
        where
          last_of : (n : ℕ) → 0 < n → AllByRecursion (λ k. next_of (get new k) ≡ next_of (get old k)) (keys_from (get old) n link.next) → key_after (get old) n first ≡ last → key_after (get new) (suc n - 1 - 1) link.next ≡ last
          last_of zero some same end = absurd (omega arith)
          last_of (suc m) some same end =
              let fewer : suc (suc m) - 1 - 1 ≡ m = omega arith in
              ap (λ k. key_after (get new) k link.next) fewer ∙ same_end (get old) (get new) (suc m) m link.next (omega arith) same
              ∙ ap (key_after (get old) m) (sym (ap next_of found)) ∙ end

  -- what is known of the slots before and at a place after the first
  pub record Parts (old : Slab (Link V)) (chain : Chain) (i m key : ℕ) (link : Link V) : Type 0 where
    pub whole : IsWhole (get old) chain
    pub count : chain.count ≡ suc i + suc m
    pub key_is : key_after (get old) (suc i) chain.first ≡ key
    pub found : get old key ≡ Some link

  -- the keys before the place, the key at it, and those after it
  pub keys_are : (old : Slab (Link V)) (chain : Chain) (i m key : ℕ) (link : Link V) → Parts old chain i m key link
      → chain_keys (get old) chain ≡ keys_from (get old) (suc i) chain.first ++ key ∷ keys_from (get old) m link.next
  keys_are old chain i m key link parts =
      keys_from-add (get old) (suc i) (suc m) chain.count chain.first parts.count
      ∙ ap (λ k. keys_from (get old) (suc i) chain.first ++ keys_from (get old) (suc m) k) parts.key_is
      ∙ ap (λ k. keys_from (get old) (suc i) chain.first ++ key ∷ keys_from (get old) m k) (ap next_of parts.found)

  -- the same with the key just before the place apart
  pub keys_are_around : (old : Slab (Link V)) (chain : Chain) (i m key : ℕ) (link : Link V) → Parts old chain i m key link
      → chain_keys (get old) chain ≡ keys_from (get old) i chain.first ++ key_after (get old) i chain.first ∷ key ∷ keys_from (get old) m link.next
  keys_are_around old chain i m key link parts =
      let split : keys_from (get old) (suc i) chain.first ≡ keys_from (get old) i chain.first ++ key_after (get old) i chain.first ∷ [] = keys_from-add (get old) i 1 (suc i) chain.first (omega arith) in
      keys_are old chain i m key link parts ∙ ap (λ ks. ks ++ key ∷ keys_from (get old) m link.next) split
      ∙ append_assoc (keys_from (get old) i chain.first) (key_after (get old) i chain.first ∷ []) (key ∷ keys_from (get old) m link.next)

  -- the slot before the place is another one
  pub apart_from_before : (old : Slab (Link V)) (chain : Chain) (i m key : ℕ) (link : Link V) → Parts old chain i m key link → key ≢ key_after (get old) i chain.first
  apart_from_before old chain i m key link parts =
      (apart_after (keys_from (get old) i chain.first) _ _ (subst AreDistinctSlots (keys_are_around old chain i m key link parts) parts.whole.apart)).0

module _ {V : Type 0} (old mid new : Slab (Link V)) (chain : Chain) (i m key : ℕ) (link : Link V) (parts : Parts old chain i m key link)
    (updates : Updates old mid key None) (joins : Joins mid new (key_after (get old) i chain.first) link.next) where
  -- the key of the slot before
  abbrev before : ℕ
  before = key_after (get old) i chain.first

  -- the keys before the place
  abbrev front : List ℕ
  front = keys_from (get old) (suc i) chain.first

  -- the keys after it
  abbrev back : List ℕ
  back = keys_from (get old) m link.next

  -- a slot leads to the same as before
  abbrev SameNext : ℕ → Type 0
  SameNext k = next_of (get new k) ≡ next_of (get old k)

  -- a slot that is neither of the two stays
  untouched : (k : ℕ) → k ≢ key → k ≢ before → get new k ≡ get old k
  untouched k a b = joins.others k b ∙ updates.others k a

  -- keys that are neither of the two lead to the same
  same_next : (ks : List ℕ) → AllByRecursion (λ k. k ≢ key) ks → AllByRecursion (λ k. k ≢ before) ks → AllByRecursion SameNext ks
  same_next ks a b =
      all_so (λ k. (k ≢ key) × (k ≢ before)) SameNext ks (λ k both. ap next_of (untouched k both.0 both.1)) (all_both (λ k. k ≢ key) (λ k. k ≢ before) ks a b)

  -- no key comes twice
  are_apart : AreDistinctSlots (front ++ key ∷ back)
  are_apart = subst AreDistinctSlots (keys_are old chain i m key link parts) parts.whole.apart

  -- the same, with the key before apart
  are_apart_around : AreDistinctSlots (keys_from (get old) i chain.first ++ before ∷ key ∷ back)
  are_apart_around = subst AreDistinctSlots (keys_are_around old chain i m key link parts) parts.whole.apart

  -- the key before is the last of the first keys
  front_splits : front ≡ keys_from (get old) i chain.first ++ before ∷ []
  front_splits = keys_from-add (get old) i 1 (suc i) chain.first (omega arith)

  -- the keys before it lead to the same
  front_same : AllByRecursion SameNext (keys_from (get old) i chain.first)
  front_same =
      same_next (keys_from (get old) i chain.first)
      (all_front (λ k. k ≢ key) (keys_from (get old) i chain.first) (before ∷ []) (subst (AllByRecursion (λ k. k ≢ key)) front_splits (apart_before front key back are_apart)))
      (apart_before (keys_from (get old) i chain.first) before (key ∷ back) are_apart_around)

  -- and so do those after the place
  back_same : AllByRecursion SameNext back
  back_same = same_next back (apart_after front key back are_apart) ((apart_after (keys_from (get old) i chain.first) before (key ∷ back) are_apart_around).1)

  -- so the walk to the place is the same
  front_walk : keys_from (get new) (suc i) chain.first ≡ front
  front_walk = (same_walk (get old) (get new) i chain.first front_same).0

  -- it comes to the key before
  to_before : key_after (get new) i chain.first ≡ before
  to_before = (same_walk (get old) (get new) i chain.first front_same).2

  -- which leads past the place
  past_it : key_after (get new) (suc i) chain.first ≡ link.next
  past_it = key_after-suc (get new) i chain.first ∙ ap (λ k. next_of (get new k)) to_before ∙ joins.joined

  -- the keys that are left
  keys_left : (count : ℕ) → count ≡ suc i + m → keys_from (get new) count chain.first ≡ front ++ back
  keys_left count e =
      keys_from-add (get new) (suc i) m count chain.first e ∙ ap (λ ks. ks ++ keys_from (get new) m (key_after (get new) (suc i) chain.first)) front_walk
      ∙ ap (λ k. front ++ keys_from (get new) m k) past_it ∙ ap (λ ks. front ++ ks) ((same_walk (get old) (get new) m link.next back_same).1)

  -- the last of them
  last_left : (last rest count : ℕ) → count ≡ suc i + rest → rest ≡ m → (rest ≡ 0 → last ≡ before) → (0 < rest → last ≡ chain.last) → key_after (get new) (count - 1) chain.first ≡ last
  last_left last zero count e same if_end if_more =
      let fewer : count - 1 ≡ i = omega arith in
      ap (λ k. key_after (get new) k chain.first) fewer ∙ to_before ∙ sym (if_end refl)
  last_left last (suc rest) count e same if_end if_more =
      let fewer : count - 1 ≡ suc i + rest = omega arith in
      let whole : chain.count - 1 ≡ suc i + suc rest = omega (arith, parts.count) in
      ap (λ k. key_after (get new) k chain.first) fewer ∙ key_after-add (get new) (suc i) rest (suc i + rest) chain.first refl
      ∙ ap (key_after (get new) rest) past_it ∙ same_end (get old) (get new) m rest link.next (omega arith) back_same
      ∙ sym (ap (key_after (get old) rest) (ap next_of parts.found)) ∙ sym (ap (key_after (get old) (suc rest)) parts.key_is)
      ∙ sym (key_after-add (get old) (suc i) (suc rest) (suc i + suc rest) chain.first refl)
      ∙ sym (ap (λ k. key_after (get old) k chain.first) whole) ∙ parts.whole.last ∙ sym (if_more (omega arith))

  -- a slot of no key of the chain stays
  outside : (k : ℕ) → AllByRecursion (λ other. other ≢ k) (chain_keys (get old) chain) → get new k ≡ get old k
  outside k differs =
      let each : AllByRecursion (λ other. other ≢ k) (keys_from (get old) i chain.first ++ before ∷ key ∷ back) = subst (AllByRecursion (λ other. other ≢ k)) (keys_are_around old chain i m key link parts) differs in
      let late : AllByRecursion (λ other. other ≢ k) (before ∷ key ∷ back) = all_back (λ other. other ≢ k) (keys_from (get old) i chain.first) (before ∷ key ∷ back) each in
      untouched k (λ e. late.1.0 (sym e)) (λ e. late.0 (sym e))

  -- a slot after the first left
  pub later_out : (last : ℕ) → (m ≡ 0 → last ≡ before) → (0 < m → last ≡ chain.last) → slab_len mid + 1 ≡ slab_len old → HasRoomFor mid 1 → mid.capacity ≡ old.capacity
      → TakesOut old new chain (suc i) link.value (record { first = chain.first; last = last; count = chain.count - 1; in_line = false })
  later_out last if_end if_more len room capacity = record {
    front = front;
    key = key;
    back = back;
    place_of = length-keys_from (get old) (suc i) chain.first;
    were = keys_are old chain i m key link parts;
    are = keys_left (chain.count - 1) (omega (arith, parts.count));
    count = omega (arith, parts.count);
    last = λ some. last_left last m (chain.count - 1) (omega (arith, parts.count)) refl if_end if_more;
    broken = refl;
    was = ap value_at parts.found;
    gone = joins.others key (apart_from_before old chain i m key link parts) ∙ updates.changed;
    values = λ k differs. joins.values k ∙ ap value_at (updates.others k differs);
    others = outside;
    len = ap (λ n. n + 1) joins.len ∙ len;
    room = omega (arith, room, joins.len, joins.capacity);
    capacity = joins.capacity ∙ capacity;
  }

-- the slot before a place of a chain, which is not the first, leads to the one at it
pub record Reaches {V : Type 0} (old : Slab (Link V)) (chain : Chain) (place before : ℕ) (to : Link V) : Type 0 where
  pub whole : IsWhole (get old) chain
  pub within : place < chain.count
  pub later : place ≢ 0
  pub before_is : before ≡ key_after (get old) (place - 1) chain.first
  pub leads : get old before ≡ Some to

module _ {V : Type 0} where
  -- the key at the place
  pub reached : (old : Slab (Link V)) (chain : Chain) (place before : ℕ) (to : Link V) → Reaches old chain place before to → key_after (get old) place chain.first ≡ to.next
  reached old chain zero before to r = absurd (r.later refl)
  reached old chain (suc i) before to r =
      let fewer : suc i - 1 ≡ i = omega arith in
      key_after-suc (get old) i chain.first ∙ ap (λ k. next_of (get old k)) (ap (λ k. key_after (get old) k chain.first) (sym fewer) ∙ sym r.before_is) ∙ ap next_of r.leads

  -- it has a value
  pub reached_is_held : (old : Slab (Link V)) (chain : Chain) (place before : ℕ) (to : Link V) → Reaches old chain place before to → IsSome (get old to.next)
  reached_is_held old chain place before to r =
      subst (λ k. IsSome (get old k)) (reached old chain place before to r) (on_the_way (get old) (λ k. IsSome (get old k)) chain.count place chain.first r.within r.whole.held)

  -- what is known of the slots around the place
  pub parts_of : (old : Slab (Link V)) (chain : Chain) (place before i : ℕ) (to link : Link V) → Reaches old chain place before to → place ≡ suc i → get old to.next ≡ Some link → Parts old chain i (chain.count - suc (suc i)) to.next link
  parts_of old chain place before i to link r e found = record {
    whole = r.whole;
    count = omega (arith, r.within);
    key_is = ap (λ k. key_after (get old) k chain.first) (sym e) ∙ reached old chain place before to r;
    found = found;
  }

  -- the slot before it keeps its value where it leaves
  pub before_is_held : (old mid : Slab (Link V)) (chain : Chain) (place before : ℕ) (to link : Link V) → Reaches old chain place before to → get old to.next ≡ Some link → Updates old mid to.next None → IsSome (get mid before)
  before_is_held old mid chain zero before to link r found updates = absurd (r.later refl)
  before_is_held old mid chain (suc i) before to link r found updates =
      let fewer : suc i - 1 ≡ i = omega arith in
      let is : before ≡ key_after (get old) i chain.first = r.before_is ∙ ap (λ k. key_after (get old) k chain.first) fewer in
      let differs = apart_from_before old chain i (chain.count - suc (suc i)) to.next link (parts_of old chain (suc i) before i to link r refl found) in
      subst IsSome (sym (updates.others before (λ e. differs (sym e ∙ is)))) (subst IsSome (sym r.leads) refl)

  -- the slot at the place left
  pub taken_out : (old mid new : Slab (Link V)) (chain : Chain) (place before last : ℕ) (to link : Link V) → Reaches old chain place before to → get old to.next ≡ Some link
      → Updates old mid to.next None → Joins mid new before link.next
      → (place + 1 ≡ chain.count → last ≡ before) → (place + 1 ≢ chain.count → last ≡ chain.last)
      → slab_len mid + 1 ≡ slab_len old → HasRoomFor mid 1 → mid.capacity ≡ old.capacity
      → TakesOut old new chain place link.value (record { first = chain.first; last = last; count = chain.count - 1; in_line = false })
  taken_out old mid new chain zero before last to link r found updates joins at_end inside len room capacity = absurd (r.later refl)
  taken_out old mid new chain (suc i) before last to link r found updates joins at_end inside len room capacity =
      let fewer : suc i - 1 ≡ i = omega arith in
      let is : before ≡ key_after (get old) i chain.first = r.before_is ∙ ap (λ k. key_after (get old) k chain.first) fewer in
      let within = r.within in
      later_out old mid new chain i (chain.count - suc (suc i)) to.next link (parts_of old chain (suc i) before i to link r refl found) updates
      (subst (λ k. Joins mid new k link.next) is joins) last (λ e. at_end (omega arith) ∙ is) (λ more. inside (λ e. omega arith)) len room capacity
