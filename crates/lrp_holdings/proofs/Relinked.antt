-- What the writes of links make of the links that are chained.
use Rattle.std.proofs.Common.{◌≡◌, ◌≢◌, ℕ, zero, suc, ◌+◌, ◌<◌, ◌≤◌, inl, inr, List, [], ◌∷◌, length, map, get_or, cond, Option, Some, None, IsSome, refl, sym, ap, subst, ◌∙◌, arith}
use Rattle.std.specs.Prelude.{slice_get, slice_set, IfSome, is_some, count_by}
use Rattle.std.proofs.lemmas.List.Sums.{sum_by-cons}
use Rattle.std.proofs.lemmas.Option.{slice_get-get_or}
use Rattle.lrp_holdings.proofs.Cases.{eq_or}
use Rattle.slab.specs.Slab.{Slab, Updates, get, with_value}
use Rattle.slab.proofs.SlabLemmas.{Updates-with_value}
use Rattle.lrp_holdings.specs.Chains.{AreChainedBelow, AreChainedFrom, AreLoose, IsChanged, IsLedTo, IsRelinked, IsSetAt, first_of, held_in, owner_at, owner_in, with_before, with_next}
use Rattle.lrp_holdings.specs.declared.chains.OwnerLink.{OwnerLink}
use Rattle.lrp_holdings.specs.declared.chains.Owner.{Owner}
use Rattle.lrp_holdings.specs.declared.chains.Holding.{Holding}
use Rattle.lrp_holdings.proofs.Chained.{IsFronted, IsRedirected, linked, none_some, not_some, same_link, some_is, some_or, some_stands, unlinked}

set_count : (X : Type 0) (xs : List (Option X)) (i : ℕ) (v : X) → IsSome (get_or xs i None) → count_by is_some (slice_set xs i (Some v)) ≡ count_by is_some xs
set_count X [] i v h = absurd (not_some X h)
set_count X (None ∷ xs) zero v h = absurd (not_some X h)
set_count X (Some w ∷ xs) zero v h = refl
set_count X (None ∷ xs) (suc i) v h = set_count X xs i v h
set_count X (Some w ∷ xs) (suc i) v h = sum_by-cons (λ x. cond (is_some x) 1 0) (Some w) (slice_set xs i (Some v)) ∙ ap (λ n. 1 + n) (set_count X xs i v h) ∙ sym (sum_by-cons (λ x. cond (is_some x) 1 0) (Some w) xs)

same_numbers : (xs ys : List Owner) → length ys ≡ length xs → ((i : ℕ) (x : Owner) → slice_get xs i ≡ Some x → (y : Owner) × (slice_get ys i ≡ Some y) × (y.number ≡ x.number)) → map (λ (o : Owner). o.number) ys ≡ map (λ (o : Owner). o.number) xs
same_numbers [] [] e f = refl
same_numbers [] (y ∷ ys) e f = absurd (omega (arith, e))
same_numbers (x ∷ xs) [] e f = absurd (omega (arith, e))
same_numbers (x ∷ xs) (y ∷ ys) e f =
    let a = f zero x refl in
    let n : y.number ≡ x.number = ap (λ (o : Owner). o.number) (some_is y a.0 a.1) ∙ a.2 in
    let r : map (λ (o : Owner). o.number) ys ≡ map (λ (o : Owner). o.number) xs = same_numbers xs ys (omega (arith, e)) (λ i z h. f (suc i) z h) in
    ap (λ k. k ∷ map (λ (o : Owner). o.number) ys) n ∙ ap (λ ks. x.number ∷ ks) r

-- the first link of a chain as it is read
pub read_first : (cs : List (Option OwnerLink)) (n : ℕ) (r : Option OwnerLink) → n < length cs → r ≡ get_or cs n r → r ≡ first_of cs n
read_first cs n r low e = e ∙ some_is (get_or cs n r) (get_or cs n None) (sym (slice_get-get_or cs n r low) ∙ slice_get-get_or cs n None low)

module _ {V : Type 0} where
  pub relinked_twice : (s t u : Slab (Holding V)) → IsRelinked s t → IsRelinked t u → IsRelinked s u
  relinked_twice s t u a b = record { held = λ k. b.held k ∙ a.held k; len = b.len ∙ a.len; capacity = b.capacity ∙ a.capacity }

  -- after a write each owner still stands
  pub changed_stands : (f : Owner → Owner) (s t : Slab (Holding V)) (link : Option OwnerLink) (m : OwnerLink) → IsChanged f s t link → IsSome (owner_at (get s) m) → IsSome (owner_at (get t) m)
  changed_stands f s t link m a h = by (owner_at (get s) m) refl h
    where
      by : (x : Option Owner) → owner_at (get s) m ≡ x → IsSome x → IsSome (owner_at (get t) m)
      by None e i = absurd (not_some Owner i)
      by (Some p) e i = elim (some_or link m) [
        | inl j ↦ some_stands (owner_at (get t) m) (f p) (a.there m p j e)
        | inr d ↦ some_stands (owner_at (get t) m) p (a.others m d ∙ e)
      ]

  pub if_changed_stands : (f : Owner → Owner) (s t : Slab (Holding V)) (link m : Option OwnerLink) → IsChanged f s t link → IfSome m (λ at. IsSome (owner_at (get s) at)) → IfSome m (λ at. IsSome (owner_at (get t) at))
  if_changed_stands f s t link None a h = tt
  if_changed_stands f s t link (Some m) a h = changed_stands f s t link m a h

  -- what stands somewhere stands there with both links written
  module _ (s t u : Slab (Holding V)) (before next : Option OwnerLink) (wn wb : Option OwnerLink) (a : IsChanged (with_next wn) s t before) (b : IsChanged (with_before wb) t u next) where
    -- the owner that a link has after both writes
    pub record IsWritten (m : OwnerLink) (p q : Owner) : Type 0 where
      pub number : q.number ≡ p.number
      pub next_to : before ≡ Some m → q.next ≡ wn
      pub next_same : before ≢ Some m → q.next ≡ p.next
      pub before_to : next ≡ Some m → q.before ≡ wb
      pub before_same : next ≢ Some m → q.before ≡ p.before

    pub written : (m : OwnerLink) (p : Owner) → owner_at (get s) m ≡ Some p → (q : Owner) × (owner_at (get u) m ≡ Some q) × IsWritten m p q
    written m p h = elim (some_or before m) [
      | inl e ↦ elim (some_or next m) [
        | inl f ↦ (with_before wb (with_next wn p), b.there m (with_next wn p) f (a.there m p e h), record { number = refl; next_to = λ i. refl; next_same = λ d. absurd (d e); before_to = λ i. refl; before_same = λ d. absurd (d f) })
        | inr g ↦ (with_next wn p, b.others m g ∙ a.there m p e h, record { number = refl; next_to = λ i. refl; next_same = λ d. absurd (d e); before_to = λ i. absurd (g i); before_same = λ d. refl })
      ]
      | inr d ↦ elim (some_or next m) [
        | inl f ↦ (with_before wb p, b.there m p f (a.others m d ∙ h), record { number = refl; next_to = λ i. absurd (d i); next_same = λ i. refl; before_to = λ i. refl; before_same = λ g. absurd (g f) })
        | inr g ↦ (p, b.others m g ∙ a.others m d ∙ h, record { number = refl; next_to = λ i. absurd (d i); next_same = λ i. refl; before_to = λ i. absurd (g i); before_same = λ i. refl })
      ]
    ]

    -- and where nothing stands, nothing stands, if nothing is written there
    pub unwritten : (m : OwnerLink) → owner_at (get s) m ≡ None → before ≢ Some m → next ≢ Some m → owner_at (get u) m ≡ None
    unwritten m h d e = b.others m e ∙ a.others m d ∙ h

  -- ---- one write

  -- an owner of one value is changed, but not its number
  module _ (f : Owner → Owner) (keeps : (o : Owner) → (f o).number ≡ o.number) (s : Slab (Holding V)) (link : OwnerLink) (h new : Holding V) (is : get s link.slot ≡ Some h) (value : new.value ≡ h.value) (w : IsSetAt f h.owners.items new.owners.items link.place) where
    abbrev written_slots : Slab (Holding V)
    written_slots = with_value s link.slot new

    up : Updates s written_slots link.slot (Some new)
    up = Updates-with_value s link.slot new (some_stands (get s link.slot) h is)

    at_link : (o : Owner) → owner_at (get s) link ≡ Some o → owner_at (get written_slots) link ≡ Some (f o)
    at_link o e = ap (λ x. owner_in x link.place) up.changed ∙ w.there o (sym (ap (λ x. owner_in x link.place) is) ∙ e)

    at_others : (m : OwnerLink) → Some link ≢ Some m → owner_at (get written_slots) m ≡ owner_at (get s) m
    at_others m d = elim (eq_or m.slot link.slot) [
      | inl e ↦ ap (λ k. owner_in (get written_slots k) m.place) e ∙ ap (λ x. owner_in x m.place) up.changed ∙ w.others m.place (λ i. d (ap (λ k. Some k) (sym (same_link m link e i)))) ∙ sym (ap (λ x. owner_in x m.place) is) ∙ sym (ap (λ k. owner_in (get s k) m.place) e)
      | inr g ↦ ap (λ x. owner_in x m.place) (up.others m.slot g)
    ]

    owners_same : map (λ (o : Owner). o.number) new.owners.items ≡ map (λ (o : Owner). o.number) h.owners.items
    owners_same = same_numbers h.owners.items new.owners.items w.size each
      where
        each : (i : ℕ) (x : Owner) → slice_get h.owners.items i ≡ Some x → (y : Owner) × (slice_get new.owners.items i ≡ Some y) × (y.number ≡ x.number)
        each i x e = elim (eq_or i link.place) [
          | inl j ↦ (f x, ap (λ k. slice_get new.owners.items k) j ∙ w.there x (ap (λ k. slice_get h.owners.items k) (sym j) ∙ e), keeps x)
          | inr g ↦ (x, w.others i g ∙ e, refl)
        ]

    same_held : (slot : ℕ) → held_in (get written_slots slot) ≡ held_in (get s slot)
    same_held slot = elim (eq_or slot link.slot) [
      | inl e ↦ ap (λ k. held_in (get written_slots k)) e ∙ ap held_in up.changed ∙ ap (λ ns. Some (record { owners = ns; value = new.value })) owners_same ∙ ap (λ v. Some (record { owners = map (λ (o : Owner). o.number) h.owners.items; value = v })) value ∙ sym (ap held_in is) ∙ sym (ap (λ k. held_in (get s k)) e)
      | inr g ↦ ap held_in (up.others slot g)
    ]

    changed : IsChanged f s written_slots (Some link)
    changed = record {
      there = λ l o e g. subst (λ k. owner_at (get s) k ≡ Some o → owner_at (get written_slots) k ≡ Some (f o)) (some_is link l e) (at_link o) g;
      others = at_others;
      same = record { held = same_held; len = set_count (Holding V) s.slots link.slot new (some_stands (get s link.slot) h is); capacity = refl };
    }

    pub changed_at : (at : Option OwnerLink) → at ≡ Some link → IsChanged f s written_slots at
    changed_at at e = subst (λ k. IsChanged f s written_slots k) (sym e) changed

  abbrev Below : Slab (Holding V) → ℕ → ℕ → OwnerLink → Owner → Type 0
  Below s slot place m o = (owner_at (get s) m ≡ Some o) × (m.slot ≡ slot → m.place < place)

  abbrev From : Slab (Holding V) → ℕ → ℕ → OwnerLink → Owner → Type 0
  From s slot place m o = (owner_at (get s) m ≡ Some o) × (m.slot ≡ slot → place ≤ m.place)

  one_owner : (s : Slab (Holding V)) (m : OwnerLink) (p q : Owner) → owner_at (get s) m ≡ Some p → owner_at (get s) m ≡ Some q → p ≡ q
  one_owner s m p q h g = some_is p q (sym h ∙ g)

  -- ---- a link is taken out

  module _ (s t u : Slab (Holding V)) (old new : List (Option OwnerLink)) (link : OwnerLink) (o : Owner) (c : AreChainedFrom s old link.slot link.place) (at : owner_at (get s) link ≡ Some o)
      (a : IsChanged (with_next o.next) s t o.before) (b : IsChanged (with_before o.before) t u o.next) (led : IsLedTo o old new) where
    stands : From s link.slot link.place link o
    stands = (at, λ e. omega arith)

    one : (m : OwnerLink) (p q : Owner) → From s link.slot link.place m p → From s link.slot link.place m q → p ≡ q
    one m p q h g = one_owner s m p q h.0 g.0

    redirected : (m : OwnerLink) (p q : Owner) → From s link.slot link.place m p → IsWritten s t u o.before o.next o.next o.before a b m p q → IsRedirected link o p q
    redirected m p q h w = record {
      number = w.number;
      next_to = λ e. let x = c.next m p link h e in w.next_to (sym (ap (λ (k : Owner). k.before) (one link x.0 o x.1 stands)) ∙ x.3);
      next_same = λ d. w.next_same (λ e. let x = c.before link o m stands e in d (sym (ap (λ (k : Owner). k.next) (one m x.0 p x.1 h)) ∙ x.3));
      before_to = λ e. let x = c.before m p link h e in w.before_to (sym (ap (λ (k : Owner). k.next) (one link x.0 o x.1 stands)) ∙ x.3);
      before_same = λ d. w.before_same (λ e. let x = c.next link o m stands e in d (sym (ap (λ (k : Owner). k.before) (one m x.0 p x.1 h)) ∙ x.3));
    }

    away : (m : OwnerLink) → (m.slot ≡ link.slot → link.place + 1 ≤ m.place) → m ≢ link
    away m h e = let f = h (ap (λ (k : OwnerLink). k.slot) e) in let g : m.place ≡ link.place = ap (λ (k : OwnerLink). k.place) e in omega (arith, f, g)

    later : (m : OwnerLink) → (m.slot ≡ link.slot → link.place ≤ m.place) → m ≢ link → m.slot ≡ link.slot → link.place + 1 ≤ m.place
    later m h d e = elim (eq_or m.place link.place) [ inl f ↦ absurd (d (same_link m link e f)) | inr f ↦ let g = h e in omega (arith, f, g) ]

    taken_to : (m : OwnerLink) (q : Owner) → From u link.slot (link.place + 1) m q → (p : Owner) × From s link.slot link.place m p × (m ≢ link) × IsRedirected link o p q
    taken_to m q h = by (owner_at (get s) m) refl
      where
        alive : m.slot ≡ link.slot → link.place ≤ m.place
        alive e = let g = h.1 e in omega (arith, g)

        by : (x : Option Owner) → owner_at (get s) m ≡ x → (p : Owner) × From s link.slot link.place m p × (m ≢ link) × IsRedirected link o p q
        by None e = absurd (none_some q (sym (unwritten s t u o.before o.next o.next o.before a b m e (λ f. let x = c.before link o m stands f in none_some x.0 (sym e ∙ x.1.0)) (λ f. let x = c.next link o m stands f in none_some x.0 (sym e ∙ x.1.0))) ∙ h.0))
        by (Some p) e =
            let x = written s t u o.before o.next o.next o.before a b m p e in
            let same : x.0 ≡ q = one_owner u m x.0 q x.1 h.0 in
            (p, (e, alive), away m h.1, subst (λ k. IsRedirected link o p k) same (redirected m p x.0 (e, alive) x.2))

    taken_from : (m : OwnerLink) (p : Owner) → From s link.slot link.place m p → m ≢ link → (q : Owner) × From u link.slot (link.place + 1) m q × IsRedirected link o p q
    taken_from m p h d =
        let x = written s t u o.before o.next o.next o.before a b m p h.0 in
        (x.0, (x.1, later m h.1 d), redirected m p x.0 h x.2)

    pub taken : AreChainedFrom u new link.slot (link.place + 1)
    taken = unlinked (From s link.slot link.place) (From u link.slot (link.place + 1)) old new c one link o stands led (record { to = taken_to; from = taken_from })

  -- the links that are written are links of owners
  module _ (s : Slab (Holding V)) (old : List (Option OwnerLink)) (link : OwnerLink) (o : Owner) (c : AreChainedFrom s old link.slot link.place) (at : owner_at (get s) link ≡ Some o) where
    pub before_stands : (b : Option OwnerLink) → o.before ≡ b → IfSome b (λ m. IsSome (owner_at (get s) m))
    before_stands None e = tt
    before_stands (Some m) e = let x = c.before link o m (at, λ i. omega arith) e in some_stands (owner_at (get s) m) x.0 x.1.0

    pub next_stands : (b : Option OwnerLink) → o.next ≡ b → IfSome b (λ m. IsSome (owner_at (get s) m))
    next_stands None e = tt
    next_stands (Some m) e = let x = c.next link o m (at, λ i. omega arith) e in some_stands (owner_at (get s) m) x.0 x.1.0

    pub number_below : o.number < length old
    number_below = c.room link o (at, λ i. omega arith)

  -- the first link of a chain is that of an owner
  pub first_stands : (s : Slab (Holding V)) (old : List (Option OwnerLink)) (slot place n : ℕ) → AreChainedBelow s old slot place → (b : Option OwnerLink) → b ≡ first_of old n → IfSome b (λ m. IsSome (owner_at (get s) m))
  first_stands s old slot place n c None e = tt
  first_stands s old slot place n c (Some m) e = let x = c.first_from n m (sym e) in some_stands (owner_at (get s) m) x.0 x.1.0

  -- ---- a link is put in

  module _ (s t u : Slab (Holding V)) (old : List (Option OwnerLink)) (link : OwnerLink) (o : Owner) (c : AreChainedBelow s old link.slot link.place) (loose : AreLoose s old link.slot link.place) (at : owner_at (get s) link ≡ Some o)
      (a : IsChanged (with_next (first_of old o.number)) s t (Some link)) (b : IsChanged (with_before (Some link)) t u (first_of old o.number)) where
    abbrev first : Option OwnerLink
    first = first_of old o.number

    free : (p : Owner) → Below s link.slot link.place link p → ⊥
    free p h = let g = h.1 refl in omega (arith, g)

    -- the first link of the chain is another one
    first_other : first ≢ Some link
    first_other e = let x = c.first_from o.number link e in free x.0 x.1

    here : (q : Owner) × (owner_at (get u) link ≡ Some q) × IsWritten s t u (Some link) first first (Some link) a b link o q
    here = written s t u (Some link) first first (Some link) a b link o at

    in_reach : (m : OwnerLink) → (m.slot ≡ link.slot → m.place < link.place) → m.slot ≡ link.slot → m.place < link.place + 1
    in_reach m h e = let g = h e in omega (arith, g)

    out_of : (m : OwnerLink) → (m.slot ≡ link.slot → m.place < link.place + 1) → m ≢ link → m.slot ≡ link.slot → m.place < link.place
    out_of m h d e = elim (eq_or m.place link.place) [ inl f ↦ absurd (d (same_link m link e f)) | inr f ↦ let g = h e in omega (arith, f, g) ]

    fronted : (m : OwnerLink) (p q : Owner) → m ≢ link → IsWritten s t u (Some link) first first (Some link) a b m p q → IsFronted link first m p q
    fronted m p q d w = record { number = w.number; next = w.next_same (λ e. d (sym (some_is link m e))); before_to = w.before_to; before_same = w.before_same }

    put_to : (m : OwnerLink) (q : Owner) → Below u link.slot (link.place + 1) m q → m ≢ link → (p : Owner) × Below s link.slot link.place m p × IsFronted link first m p q
    put_to m q h d = by (owner_at (get s) m) refl
      where
        by : (x : Option Owner) → owner_at (get s) m ≡ x → (p : Owner) × Below s link.slot link.place m p × IsFronted link first m p q
        by None e = absurd (none_some q (sym (unwritten s t u (Some link) first first (Some link) a b m e (λ f. d (sym (some_is link m f))) (λ f. let x = c.first_from o.number m f in none_some x.0 (sym e ∙ x.1.0))) ∙ h.0))
        by (Some p) e =
            let x = written s t u (Some link) first first (Some link) a b m p e in
            let same : x.0 ≡ q = one_owner u m x.0 q x.1 h.0 in
            (p, (e, out_of m h.1 d), subst (λ k. IsFronted link first m p k) same (fronted m p x.0 d x.2))

    put_from : (m : OwnerLink) (p : Owner) → Below s link.slot link.place m p → (q : Owner) × Below u link.slot (link.place + 1) m q × IsFronted link first m p q
    put_from m p h =
        let x = written s t u (Some link) first first (Some link) a b m p h.0 in
        (x.0, (x.1, in_reach m h.1), fronted m p x.0 (λ e. free p (subst (λ k. Below s link.slot link.place k p) e h)) x.2)

    there : (q : Owner) × Below u link.slot (link.place + 1) link q × (q.number ≡ o.number) × (q.before ≡ None) × (q.next ≡ first)
    there = (here.0, (here.1, λ e. omega arith), here.2.number, here.2.before_same first_other ∙ loose.first link o refl (omega arith) at, here.2.next_to refl)

    pub put : AreChainedBelow u (slice_set old o.number (Some link)) link.slot (link.place + 1)
    put = linked (Below s link.slot link.place) (Below u link.slot (link.place + 1)) old c (λ m p q h g. one_owner s m p q h.0 g.0) link o.number (loose.room link o refl (omega arith) at)
        (record { free = free; there = there; one = λ p q h g. one_owner u link p q h.0 g.0; to = put_to; from = put_from })

    -- the links after it are as they were
    pub still_loose : (new : List (Option OwnerLink)) → length new ≡ length old → AreLoose u new link.slot (link.place + 1)
    still_loose new size = record {
      first = λ m q e low h. let x = was m q e low h in x.2 ∙ loose.first m x.0 e (omega (arith, low)) x.1;
      room = λ m q e low h. let x = was m q e low h in let r = loose.room m x.0 e (omega (arith, low)) x.1 in omega (arith, r, x.3, size);
    }
      where
        was : (m : OwnerLink) (q : Owner) → m.slot ≡ link.slot → link.place + 1 ≤ m.place → owner_at (get u) m ≡ Some q → (p : Owner) × (owner_at (get s) m ≡ Some p) × (q.before ≡ p.before) × (q.number ≡ p.number)
        was m q e low h = by (owner_at (get s) m) refl
          where
            d : m ≢ link
            d i = let g : m.place ≡ link.place = ap (λ (k : OwnerLink). k.place) i in omega (arith, low, g)

            apart : first ≢ Some m
            apart f = let x = c.first_from o.number m f in let g = x.1.1 e in omega (arith, g, low)

            by : (x : Option Owner) → owner_at (get s) m ≡ x → (p : Owner) × (owner_at (get s) m ≡ Some p) × (q.before ≡ p.before) × (q.number ≡ p.number)
            by None i = absurd (none_some q (sym (unwritten s t u (Some link) first first (Some link) a b m i (λ f. d (sym (some_is link m f))) apart) ∙ h))
            by (Some p) i =
                let x = written s t u (Some link) first first (Some link) a b m p i in
                let same : x.0 ≡ q = one_owner u m x.0 q x.1 h in
                (p, i, ap (λ (k : Owner). k.before) (sym same) ∙ x.2.before_same apart, ap (λ (k : Owner). k.number) (sym same) ∙ x.2.number)
