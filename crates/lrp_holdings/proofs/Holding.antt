-- What a value that is held, and an owner that is released, make of all that is held.
use Rattle.std.proofs.Common.{◌≡◌, ℕ, zero, suc, ◌<◌, ◌≤◌, ◌^◌, inl, inr, List, [], ◌∷◌, ◌+◌, length, map, take, get_or, Option, Some, None, IsSome, refl, sym, ap, subst, ◌∙◌, arith}
use Rattle.std.specs.Prelude.{slice_get, Contains}
use Rattle.std.specs.List.{All}
use Rattle.std.proofs.Math.ListN.{get_or-map}
use Rattle.std.proofs.lemmas.Option.{slice_get_within}
use Rattle.std.proofs.lemmas.List.Elements.{All-contains, All-more, All-weaker}
use Rattle.slab.specs.Slab.{Slab, Updates, get}
use Rattle.lrp_holdings.proofs.Cases.{eq_or}
use Rattle.lrp_model.proofs.Decided.{contains_first, contains_later}
use Rattle.lrp_holdings.specs.Chains.{AreAllChained, AreLoose, HasRoomForFirst, IsHeldInChains, IsReleasedFrom, IsRelinked, IsShort, held_in, loose_owner, owner_at, owner_in}
use Rattle.lrp_holdings.specs.Holdings.{Held, HoldingsView, IsHeldToo, IsReleased, held_at}
use Rattle.lrp_holdings.specs.declared.chains.OwnerLink.{OwnerLink}
use Rattle.lrp_holdings.specs.declared.chains.Owner.{Owner}
use Rattle.lrp_holdings.specs.declared.chains.Holding.{Holding}
use Rattle.lrp_holdings.proofs.LetGo.{short_still}
use Rattle.lrp_holdings.proofs.Chained.{mapped, none_some, not_some, roomier, some_is}

abbrev number : Owner → ℕ
number o = o.number

-- the numbers of loose owners are those that they were made of
map_back : (ns : List ℕ) → map number (map loose_owner ns) ≡ ns
map_back [] = refl
map_back (n ∷ ns) = ap (λ ks. n ∷ ks) (map_back ns)

loose_one : (ns : List ℕ) (p : ℕ) (o : Owner) → slice_get (map loose_owner ns) p ≡ Some o → (o.before ≡ None) × Contains ns o.number
loose_one [] p o e = absurd (let l : p < 0 = slice_get_within [] p o e in omega (arith, l))
loose_one (n ∷ ns) zero o e = let s : loose_owner n ≡ o = some_is (loose_owner n) o e in (sym (ap (λ (k : Owner). k.before) s), subst (λ k. Contains (n ∷ ns) k) (ap number s) (contains_first n ns))
loose_one (n ∷ ns) (suc p) o e = let r = loose_one ns p o e in (r.0, contains_later n o.number ns r.1)

-- ---- room for chains

pub same_room : (cs : List (Option OwnerLink)) → HasRoomForFirst cs cs
same_room cs = record { more = omega arith; same = λ n. refl }

pub more_room : (bs cs ds : List (Option OwnerLink)) → HasRoomForFirst bs cs → HasRoomForFirst cs ds → HasRoomForFirst bs ds
more_room bs cs ds h k = record { more = (let a = h.more in let b = k.more in omega (arith, a, b)); same = λ n. k.same n ∙ h.same n }

-- one number more has room
pub room_for_one_more : (ns : List ℕ) (i d : ℕ) (cs ds : List (Option OwnerLink)) → i < length ns → All (λ k. k < length cs) (take i ns) → HasRoomForFirst cs ds → get_or ns i d < length ds → All (λ k. k < length ds) (take (i + 1) ns)
room_for_one_more ns i d cs ds lt all room low =
    All-more (λ k. k < length ds) ns i d lt
    (All-weaker (λ k. k < length cs) (λ k. k < length ds) (λ k l. let m = room.more in omega (arith, l, m)) (take i ns) all)
    low

module _ {V : Type 0} where
  abbrev pub view_of : Slab (Holding V) → HoldingsView V
  view_of s = record { slots = map held_in s.slots }

  pub view_at : (s : Slab (Holding V)) (k : ℕ) → held_at (view_of s) k ≡ held_in (get s k)
  view_at s k = get_or-map held_in s.slots k None

  pub some_back : (x y : Option (Holding V)) → held_in y ≡ held_in x → IsSome y → IsSome x
  some_back (Some a) y e h = refl
  some_back None None e h = absurd (not_some (Holding V) h)
  some_back None (Some b) e h = absurd (none_some (record { owners = map number b.owners.items; value = b.value }) (sym e))

  -- ---- room

  pub roomier_held : (s : Slab (Holding V)) (cs ds : List (Option OwnerLink)) → HasRoomForFirst cs ds → IsHeldInChains s cs → IsHeldInChains s ds
  roomier_held s cs ds w h = record { chained = roomier (λ m o. owner_at (get s) m ≡ Some o) cs ds w h.chained; within = h.within; short = h.short }

  pub larger_held : (s t : Slab (Holding V)) (cs : List (Option OwnerLink)) → t ≡ record s { capacity = t.capacity } → s.capacity ≤ t.capacity → IsHeldInChains s cs → IsHeldInChains t cs
  larger_held s t cs e low h = record {
    chained = mapped (λ m o. owner_at (get s) m ≡ Some o) (λ m o. owner_at (get t) m ≡ Some o) cs (λ m o i. ap (λ x. owner_in x m.place) (same m.slot) ∙ i) (λ m o i. sym (ap (λ x. owner_in x m.place) (same m.slot)) ∙ i) h.chained;
    within = λ k i. let l : k < s.capacity = h.within k (subst (λ x. IsSome x) (same k) i) in omega (arith, l, low);
    short = λ k. subst (λ x. IsShort x) (sym (same k)) (h.short k);
  }
    where
      same : (k : ℕ) → get t k ≡ get s k
      same k = ap (λ (x : Slab (Holding V)). get_or x.slots k None) e

  -- ---- a value is held

  module _ (s t u : Slab (Holding V)) (cs ds : List (Option OwnerLink)) (slot : ℕ) (h : Holding V) (numbers : List ℕ) (free : get s slot ≡ None) (w : Updates s t slot (Some h)) (owners : h.owners.items ≡ map loose_owner numbers) where
    pub loose_put : All (λ n. n < length ds) numbers → AreLoose t ds slot 0
    loose_put all = record {
      first = λ m o e low at. (one m o e at).0;
      room = λ m o e low at. All-contains (λ n. n < length ds) numbers o.number all (one m o e at).1;
    }
      where
        one : (m : OwnerLink) (o : Owner) → m.slot ≡ slot → owner_at (get t) m ≡ Some o → (o.before ≡ None) × Contains numbers o.number
        one m o e at = loose_one numbers m.place o (ap (λ xs. slice_get xs m.place) (sym owners) ∙ sym (ap (λ x. owner_in x m.place) w.changed) ∙ ap (λ k. owner_in (get t k) m.place) (sym e) ∙ at)

    pub within_after : IsHeldInChains s cs → slot < t.capacity → s.capacity ≤ t.capacity → IsRelinked t u → (k : ℕ) → IsSome (get u k) → k < u.capacity
    within_after held key low r k i =
        let was : IsSome (get t k) = some_back (get t k) (get u k) (r.held k) i in
        elim (eq_or k slot) [
          | inl e ↦ omega (arith, e, key, r.capacity)
          | inr d ↦ let l : k < s.capacity = held.within k (subst (λ x. IsSome x) (w.others k d) was) in omega (arith, l, low, r.capacity)
        ]

    -- each value has few owners, as it has
    pub short_put : IsHeldInChains s cs → length h.owners.items < 2 ^ 32 → (k : ℕ) → IsShort (get t k)
    short_put held few k = elim (eq_or k slot) [
      | inl e ↦ subst (λ x. IsShort x) (sym (ap (get t) e ∙ w.changed)) few
      | inr d ↦ subst (λ x. IsShort x) (sym (w.others k d)) (held.short k)
    ]

    pub short_after : IsHeldInChains s cs → length h.owners.items < 2 ^ 32 → IsRelinked t u → (k : ℕ) → IsShort (get u k)
    short_after held few r k = short_still (get t k) (get u k) (λ x e. sym (r.held k) ∙ e) (short_put held few k)

    pub is_held_too : (old : HoldingsView V) → view_of s ≡ old → IsRelinked t u → IsHeldToo numbers h.value old (view_of u)
    is_held_too old e r = record {
      slot = slot;
      free = ap (λ v. held_at v slot) (sym e) ∙ view_at s slot ∙ ap held_in free;
      there = view_at u slot ∙ r.held slot ∙ ap held_in w.changed ∙ ap (λ ns. Some (record { owners = ns; value = h.value })) (ap (map number) owners ∙ map_back numbers);
      others = λ k d. view_at u k ∙ r.held k ∙ ap held_in (w.others k d) ∙ sym (view_at s k) ∙ ap (λ v. held_at v k) e;
    }

  -- ---- an owner is released

  pub is_released : (n : ℕ) (s t : Slab (Holding V)) (old : HoldingsView V) → view_of s ≡ old → IsReleasedFrom n s t → IsReleased n old (view_of t)
  is_released n s t old e w = record {
    to = λ k h i. let x = w.to k h (sym (view_at t k) ∙ i) in (sym (here k) ∙ x.0, x.1);
    from = λ k h i d. view_at t k ∙ w.from k h (here k ∙ i) d;
  }
    where
      here : (k : ℕ) → held_in (get s k) ≡ held_at old k
      here k = sym (view_at s k) ∙ ap (λ v. held_at v k) e

  pub released_held : (n : ℕ) (s t : Slab (Holding V)) (cs ds : List (Option OwnerLink)) → IsHeldInChains s cs → IsReleasedFrom n s t → AreAllChained t ds → IsHeldInChains t ds
  released_held n s t cs ds h w c = record { chained = c; within = λ k i. by (get t k) k refl i; short = λ k. short_still (get s k) (get t k) (λ x e. (w.to k x e).0) (h.short k) }
    where
      by : (x : Option (Holding V)) → (k : ℕ) → get t k ≡ x → IsSome (get t k) → k < t.capacity
      by None k e i = absurd (not_some (Holding V) (subst (λ x. IsSome x) e i))
      by (Some a) k e i =
          let l : k < s.capacity = h.within k (some_held (get s k) (record { owners = map number a.owners.items; value = a.value }) (w.to k (record { owners = map number a.owners.items; value = a.value }) (ap held_in e)).0) in
          omega (arith, l, w.capacity)
        where
          some_held : (x : Option (Holding V)) (h : Held V) → held_in x ≡ Some h → IsSome x
          some_held None h e = absurd (none_some h e)
          some_held (Some a) h e = refl
