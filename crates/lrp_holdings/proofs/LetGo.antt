-- What is held after a value, or all values of an owner, are let go, and after a value is held.
use Rattle.std.proofs.Common.{◌≡◌, ℕ, zero, suc, ◌+◌, ◌<◌, ◌≤◌, inl, inr, List, [], ◌∷◌, length, map, get_or, Option, Some, None, IsSome, refl, sym, ap, subst, ◌∙◌, arith}
use Rattle.std.specs.Prelude.{slice_get, IfSome, OnSome, Contains}
use Rattle.std.proofs.lemmas.List.{length-map, get_or_past}
use Rattle.std.proofs.lemmas.Option.{slice_get_within, slice_get-get_or}
use Rattle.slab.specs.Slab.{Slab, Updates, get, slab_len}
use Rattle.slab.proofs.SlabLemmas.{Contains-cons_cases}
use Rattle.lrp_holdings.proofs.Cases.{eq_or}
use Rattle.lrp_model.proofs.Decided.{contains_first, contains_later, contains_none}
use Rattle.lrp_holdings.specs.Chains.{AreAllChained, AreChainedBelow, AreChainedFrom, IsHeldInChains, IsLetGo, IsReleasedFrom, IsRelinked, IsShort, first_of, held_in, owner_at, owner_in}
use Rattle.lrp_holdings.specs.Holdings.{Held}
use Rattle.lrp_holdings.specs.declared.chains.OwnerLink.{OwnerLink}
use Rattle.lrp_holdings.specs.declared.chains.Owner.{Owner}
use Rattle.lrp_holdings.specs.declared.chains.Holding.{Holding}
use Rattle.lrp_holdings.proofs.Chained.{absent, mapped, none_some, not_some, some_is}

abbrev number : Owner → ℕ
number o = o.number

-- an owner at a place is among the owners' numbers, and the other way round
pub contains_of : (os : List Owner) (p : ℕ) (o : Owner) → slice_get os p ≡ Some o → Contains (map number os) o.number
contains_of [] p o e = absurd (let l : p < 0 = slice_get_within [] p o e in omega (arith, l))
contains_of (x ∷ os) zero o e = subst (λ n. Contains (map number (x ∷ os)) n) (ap number (some_is x o e)) (contains_first x.number (map number os))
contains_of (x ∷ os) (suc p) o e = contains_later x.number o.number (map number os) (contains_of os p o e)

pub owner_found : (os : List Owner) (n : ℕ) → Contains (map number os) n → (p : ℕ) × (o : Owner) × (slice_get os p ≡ Some o) × (o.number ≡ n)
owner_found [] n c = absurd (contains_none n c)
owner_found (x ∷ os) n c = elim (Contains-cons_cases x.number n (map number os) c) [
  | inl e ↦ (0, x, refl, e)
  | inr d ↦ let r = owner_found os n d in (suc r.0, r.1, r.2, r.3)
]

module _ {V : Type 0} where
  -- ---- one value

  -- a value that was held has as few owners as before
  pub short_still : (x y : Option (Holding V)) → ((h : Held V) → held_in y ≡ Some h → held_in x ≡ Some h) → IsShort x → IsShort y
  short_still x None was s = tt
  short_still None (Some b) was s = absurd (none_some (record { owners = map number b.owners.items; value = b.value }) (was (record { owners = map number b.owners.items; value = b.value }) refl))
  short_still (Some a) (Some b) was s =
      let same : length (map number a.owners.items) ≡ length (map number b.owners.items) = ap (λ (h : Held V). length h.owners) (some_is (record { owners = map number a.owners.items; value = a.value }) (record { owners = map number b.owners.items; value = b.value }) (was (record { owners = map number b.owners.items; value = b.value }) refl)) in
      let l : length (map number a.owners.items) ≡ length a.owners.items = length-map a.owners.items number in
      let m : length (map number b.owners.items) ≡ length b.owners.items = length-map b.owners.items number in
      omega (arith, s, same, l, m)

  pub from_all : (s : Slab (Holding V)) (cs : List (Option OwnerLink)) (slot : ℕ) → AreAllChained s cs → AreChainedFrom s cs slot 0
  from_all s cs slot c = mapped (λ m o. owner_at (get s) m ≡ Some o) (λ m o. (owner_at (get s) m ≡ Some o) × (m.slot ≡ slot → 0 ≤ m.place)) cs (λ m o h. (h, λ e. omega arith)) (λ m o h. h.0) c

  pub relinked_none : (s : Slab (Holding V)) → IsRelinked s s
  relinked_none s = record { held = λ k. refl; len = refl; capacity = refl }

  -- a value has as many owners as before
  same_count : (x y : Option (Holding V)) (n : ℕ) → held_in y ≡ held_in x → IsSome x → IfSome x (λ h. n ≡ length h.owners.items) → IsSome y × IfSome y (λ h. n ≡ length h.owners.items)
  same_count None y n e s i = absurd (not_some (Holding V) s)
  same_count (Some a) None n e s i = absurd (none_some (record { owners = map number a.owners.items; value = a.value }) e)
  same_count (Some a) (Some b) n e s i = (refl, by (ap (λ (h : Held V). length h.owners) (some_is (record { owners = map number b.owners.items; value = b.value }) (record { owners = map number a.owners.items; value = a.value }) e)))
    where
      by : length (map number b.owners.items) ≡ length (map number a.owners.items) → n ≡ length b.owners.items
      by h = i ∙ sym (length-map a.owners.items number) ∙ sym h ∙ length-map b.owners.items number

  stands_below : (x : Option (Holding V)) (n p : ℕ) → IsSome x → IfSome x (λ h. n ≡ length h.owners.items) → p < n → IsSome (owner_in x p)
  stands_below None n p s i l = absurd (not_some (Holding V) s)
  stands_below (Some h) n p s i l = by (slice_get h.owners.items p) refl
    where
      none_none : (os : List Owner) → p < length os → slice_get os p ≡ None → ⊥
      none_none [] low e = omega (arith, low)
      none_none (o ∷ os) low e = none_some (get_or (o ∷ os) p o) (sym e ∙ slice_get-get_or (o ∷ os) p o low)

      by : (x : Option Owner) → slice_get h.owners.items p ≡ x → IsSome x
      by (Some o) e = refl
      by None e = absurd (none_none h.owners.items (omega (arith, i, l)) e)

  pub still_stands : (s t : Slab (Holding V)) (slot n p : ℕ) → IsRelinked s t → IsSome (get s slot) → IfSome (get s slot) (λ h. n ≡ length h.owners.items) → p < n → IsSome (owner_in (get t slot) p)
  still_stands s t slot n p r s' i l = let x = same_count (get s slot) (get t slot) n (r.held slot) s' i in stands_below (get t slot) n p x.0 x.1 l

  none_past : (x : Option (Holding V)) (n p : ℕ) (o : Owner) → IfSome x (λ h. n ≡ length h.owners.items) → n ≤ p → owner_in x p ≡ Some o → ⊥
  none_past None n p o i l e = none_some o e
  none_past (Some h) n p o i l e = let b : p < length h.owners.items = slice_get_within h.owners.items p o e in omega (arith, i, l, b)

  -- all owners of a value are out, and the value goes
  pub all_let_go : (s t u : Slab (Holding V)) (cs : List (Option OwnerLink)) (slot n k : ℕ) → n ≤ k → IsRelinked s t → IsSome (get s slot) → IfSome (get s slot) (λ h. n ≡ length h.owners.items) → AreChainedFrom t cs slot k → Updates t u slot None → AreAllChained u cs
  all_let_go s t u cs slot n k low r s' i c w = mapped (λ m o. (owner_at (get t) m ≡ Some o) × (m.slot ≡ slot → k ≤ m.place)) (λ m o. owner_at (get u) m ≡ Some o) cs to from c
    where
      count : IfSome (get t slot) (λ h. n ≡ length h.owners.items)
      count = (same_count (get s slot) (get t slot) n (r.held slot) s' i).1

      to : (m : OwnerLink) (o : Owner) → (owner_at (get t) m ≡ Some o) × (m.slot ≡ slot → k ≤ m.place) → owner_at (get u) m ≡ Some o
      to m o h = elim (eq_or m.slot slot) [
        | inl e ↦ absurd (none_past (get t slot) n m.place o count (let f : k ≤ m.place = h.1 e in omega (arith, low, f)) (ap (λ j. owner_in (get t j) m.place) (sym e) ∙ h.0))
        | inr d ↦ ap (λ x. owner_in x m.place) (w.others m.slot d) ∙ h.0
      ]

      from : (m : OwnerLink) (o : Owner) → owner_at (get u) m ≡ Some o → (owner_at (get t) m ≡ Some o) × (m.slot ≡ slot → k ≤ m.place)
      from m o h = elim (eq_or m.slot slot) [
        | inl e ↦ absurd (none_some o (sym (ap (λ j. owner_in (get u j) m.place) e ∙ ap (λ x. owner_in x m.place) w.changed) ∙ h))
        | inr d ↦ (sym (ap (λ x. owner_in x m.place) (w.others m.slot d)) ∙ h, λ e. absurd (d e))
      ]

  pub is_let_go : (s t u : Slab (Holding V)) (slot : ℕ) → IsRelinked s t → Updates t u slot None → slab_len u + 1 ≡ slab_len t → u.capacity ≡ t.capacity → IsLetGo s u slot
  is_let_go s t u slot r w len capacity = record { gone = ap held_in w.changed; others = λ k d. ap held_in (w.others k d) ∙ r.held k; len = len ∙ r.len; capacity = capacity ∙ r.capacity }

  on_some : {P : Type 0} (x : Option (Holding V)) → IsSome x → OnSome x P → P
  on_some None h o = absurd (not_some (Holding V) h)
  on_some (Some a) h o = o

  -- the value of a slot whose owners are out is let go
  pub let_go_is : (s t u : Slab (Holding V)) (slot n : ℕ) (result : Option (Holding V)) → IsRelinked s t → IsSome (get s slot) → IfSome (get s slot) (λ h. n ≡ length h.owners.items) → result ≡ get t slot → Updates t u slot None → OnSome result (slab_len u + 1 ≡ slab_len t) → u.capacity ≡ t.capacity → IsLetGo s u slot
  let_go_is s t u slot n result r s' i e w o capacity =
      is_let_go s t u slot r w (on_some result (subst (λ x. IsSome x) (sym e) (same_count (get s slot) (get t slot) n (r.held slot) s' i).0) o) capacity

  -- ---- all values of an owner

  -- some values of an owner are let go, and no other
  pub record ArePartlyReleased (n : ℕ) (s t : Slab (Holding V)) : Type 0 where
    pub kept : (slot : ℕ) (h : Held V) → held_in (get t slot) ≡ Some h → held_in (get s slot) ≡ Some h
    pub left : (slot : ℕ) (h : Held V) → held_in (get s slot) ≡ Some h → (Contains h.owners n → ⊥) → held_in (get t slot) ≡ Some h
    pub capacity : t.capacity ≡ s.capacity

  pub released_none : (n : ℕ) (s : Slab (Holding V)) → ArePartlyReleased n s s
  released_none n s = record { kept = λ k h e. e; left = λ k h e d. e; capacity = refl }

  owned : (x : Option (Holding V)) (h : Held V) (p : ℕ) (o : Owner) → held_in x ≡ Some h → owner_in x p ≡ Some o → Contains h.owners o.number
  owned None h p o e f = absurd (none_some o f)
  owned (Some a) h p o e f = subst (λ (y : Held V). Contains y.owners o.number) (some_is (record { owners = map number a.owners.items; value = a.value }) h e) (contains_of a.owners.items p o f)

  pub released_one : (n : ℕ) (s t u : Slab (Holding V)) (link : OwnerLink) (o : Owner) → ArePartlyReleased n s t → owner_at (get t) link ≡ Some o → o.number ≡ n → IsLetGo t u link.slot → ArePartlyReleased n s u
  released_one n s t u link o p at same w = record { kept = kept; left = left; capacity = w.capacity ∙ p.capacity }
    where
      kept : (slot : ℕ) (h : Held V) → held_in (get u slot) ≡ Some h → held_in (get s slot) ≡ Some h
      kept slot h e = elim (eq_or slot link.slot) [
        | inl i ↦ absurd (none_some h (sym (ap (λ k. held_in (get u k)) i ∙ w.gone) ∙ e))
        | inr d ↦ p.kept slot h (sym (w.others slot d) ∙ e)
      ]

      left : (slot : ℕ) (h : Held V) → held_in (get s slot) ≡ Some h → (Contains h.owners n → ⊥) → held_in (get u slot) ≡ Some h
      left slot h e none = elim (eq_or slot link.slot) [
        | inl i ↦ absurd (none (subst (λ k. Contains h.owners k) same (owned (get t link.slot) h link.place o (ap (λ k. held_in (get t k)) (sym i) ∙ p.left slot h e none) at)))
        | inr d ↦ w.others slot d ∙ p.left slot h e none
      ]

  found : (x : Option (Holding V)) (h : Held V) (n : ℕ) → held_in x ≡ Some h → Contains h.owners n → (p : ℕ) × (o : Owner) × (owner_in x p ≡ Some o) × (o.number ≡ n)
  found None h n e c = absurd (none_some h e)
  found (Some a) h n e c = owner_found a.owners.items n (subst (λ (y : Held V). Contains y.owners n) (sym (some_is (record { owners = map number a.owners.items; value = a.value }) h e)) c)

  pub released_all : (n : ℕ) (s t : Slab (Holding V)) (cs : List (Option OwnerLink)) → ArePartlyReleased n s t → AreAllChained t cs → first_of cs n ≡ None → IsReleasedFrom n s t
  released_all n s t cs p c none = record {
    to = λ slot h e. (p.kept slot h e, λ i. let x = found (get t slot) h n e i in absent (λ m o. owner_at (get t) m ≡ Some o) cs c n none (record { slot = slot; place = x.0 }) x.1 x.2 x.3);
    from = p.left;
    capacity = p.capacity;
  }

  -- a chain that begins somewhere begins at an owner of this number
  pub begins : (t : Slab (Holding V)) (cs : List (Option OwnerLink)) (n : ℕ) (link : OwnerLink) → AreAllChained t cs → first_of cs n ≡ Some link → (o : Owner) × (owner_at (get t) link ≡ Some o) × (o.number ≡ n)
  begins t cs n link c e = let x = c.first_from n link e in (x.0, x.1, x.2)

  has_value : (x : Option (Holding V)) (p : ℕ) (o : Owner) → owner_in x p ≡ Some o → IsSome x
  has_value None p o e = absurd (none_some o e)
  has_value (Some h) p o e = refl

  pub begins_at_value : (t : Slab (Holding V)) (cs : List (Option OwnerLink)) (n : ℕ) (link : OwnerLink) → AreAllChained t cs → first_of cs n ≡ Some link → IsSome (get t link.slot)
  begins_at_value t cs n link c e = let x = begins t cs n link c e in has_value (get t link.slot) link.place x.0 x.1

  -- ---- a value is held

  pub below_all : (s t : Slab (Holding V)) (cs : List (Option OwnerLink)) (slot n k : ℕ) → n ≤ k → IsRelinked s t → IsSome (get s slot) → IfSome (get s slot) (λ h. n ≡ length h.owners.items) → AreChainedBelow t cs slot k → AreAllChained t cs
  below_all s t cs slot n k low r s' i c = mapped (λ m o. (owner_at (get t) m ≡ Some o) × (m.slot ≡ slot → m.place < k)) (λ m o. owner_at (get t) m ≡ Some o) cs (λ m o h. h.0) from c
    where
      count : IfSome (get t slot) (λ h. n ≡ length h.owners.items)
      count = (same_count (get s slot) (get t slot) n (r.held slot) s' i).1

      below : (x : Option (Holding V)) (p : ℕ) (o : Owner) → IfSome x (λ h. n ≡ length h.owners.items) → owner_in x p ≡ Some o → p < n
      below None p o j e = absurd (none_some o e)
      below (Some h) p o j e = let b : p < length h.owners.items = slice_get_within h.owners.items p o e in omega (arith, j, b)

      from : (m : OwnerLink) (o : Owner) → owner_at (get t) m ≡ Some o → (owner_at (get t) m ≡ Some o) × (m.slot ≡ slot → m.place < k)
      from m o h = (h, λ e. let f : m.place < n = below (get t slot) m.place o count (ap (λ j. owner_in (get t j) m.place) (sym e) ∙ h) in omega (arith, low, f))

  -- a value is put into a free slot, and no chain has its owners yet
  module _ (s t : Slab (Holding V)) (cs : List (Option OwnerLink)) (slot : ℕ) (h : Holding V) (free : get s slot ≡ None) (w : Updates s t slot (Some h)) where
    pub not_chained_yet : AreAllChained s cs → AreChainedBelow t cs slot 0
    not_chained_yet c = mapped (λ m o. owner_at (get s) m ≡ Some o) (λ m o. (owner_at (get t) m ≡ Some o) × (m.slot ≡ slot → m.place < 0)) cs to from c
      where
        to : (m : OwnerLink) (o : Owner) → owner_at (get s) m ≡ Some o → (owner_at (get t) m ≡ Some o) × (m.slot ≡ slot → m.place < 0)
        to m o e = elim (eq_or m.slot slot) [
          | inl i ↦ absurd (none_some o (sym (ap (λ k. owner_in (get s k) m.place) i ∙ ap (λ x. owner_in x m.place) free) ∙ e))
          | inr d ↦ (ap (λ x. owner_in x m.place) (w.others m.slot d) ∙ e, λ i. absurd (d i))
        ]

        from : (m : OwnerLink) (o : Owner) → (owner_at (get t) m ≡ Some o) × (m.slot ≡ slot → m.place < 0) → owner_at (get s) m ≡ Some o
        from m o e = elim (eq_or m.slot slot) [
          | inl i ↦ absurd (let l : m.place < 0 = e.1 i in omega (arith, l))
          | inr d ↦ sym (ap (λ x. owner_in x m.place) (w.others m.slot d)) ∙ e.0
        ]

  -- ---- no value

  pub nothing_held : (s : Slab (Holding V)) (cs : List (Option OwnerLink)) → s.slots ≡ [] → cs ≡ [] → IsHeldInChains s cs
  nothing_held s cs e f = record {
    chained = record {
      serial = λ l. 0;
      room = λ l o h. absurd (stands_nowhere l o h);
      first_to = λ l o h i. absurd (stands_nowhere l o h);
      first_from = λ n l h. absurd (none_some l (sym (ap (λ x. first_of x n) f ∙ get_or_past [] n None (omega arith)) ∙ h));
      next = λ l o m h i. absurd (stands_nowhere l o h);
      before = λ l o m h i. absurd (stands_nowhere l o h);
    };
    within = λ k h. absurd (not_some (Holding V) (subst (λ x. IsSome x) (vacant k) h));
    short = λ k. subst (λ x. IsShort x) (sym (vacant k)) tt;
  }
    where
      vacant : (k : ℕ) → get s k ≡ None
      vacant k = ap (λ xs. get_or xs k None) e ∙ get_or_past [] k None (omega arith)

      stands_nowhere : (l : OwnerLink) (o : Owner) → owner_at (get s) l ≡ Some o → ⊥
      stands_nowhere l o h = none_some o (sym (ap (λ x. owner_in x l.place) (vacant l.slot)) ∙ h)
