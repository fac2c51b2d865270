-- Who wins a tournament over slots, and what a change of one slot leaves of it.
use Rattle.std.proofs.Common.{◌≡◌, ◌≢◌, ◌⊎◌, inl, inr, ℕ, zero, suc, ◌+◌, ◌*◌, ◌<◌, ◌≤◌, List, length, set, get_or-set_same, get_or-set_other, length-set, Option, Some, None, IsSome, refl, sym, ap, subst, ◌∙◌, arith}
use Rattle.std.specs.Prelude.{IfNone, IfSome}
use Rattle.std.proofs.lemmas.Bool.{cases_lt}
use Rattle.std.proofs.lemmas.List.{get_or_past}
use Rattle.lrp_holdings.specs.Winners.{AreMatched, AreMatchedBut, Covers, IsMatchWith, IsOwn, LeadsAt, winner_at}
use Rattle.lrp_holdings.proofs.Cases.{eq_or}
use Rattle.lrp_holdings.proofs.Chained.{none_some, not_some, some_is, some_stands}

module _ {V : Type 0} (leads : V → V → Type 0) (itself : (a : V) → leads a a) (onward : (a b c : V) → leads a b → leads b c → leads a c) where
  -- ---- the first of two

  module _ (value : ℕ → Option V) where
    pub covers_itself : (a : Option ℕ) → Covers leads value a a
    covers_itself a t w e h = (some_stands a t e, λ s v f g. let i : s ≡ t = some_is s t (sym f ∙ e) in subst (λ x. leads v x) (some_is v w (sym g ∙ ap value i ∙ h)) (itself v))

    pub covers_none : (a b : Option ℕ) → b ≡ None → Covers leads value a b
    covers_none a b n t w e h = absurd (none_some t (sym n ∙ e))

    -- what has no value is covered by anything
    pub covers_vacant : (a b : Option ℕ) → ((t : ℕ) → b ≡ Some t → value t ≡ None) → Covers leads value a b
    covers_vacant a b n t w e h = absurd (none_some w (sym (n t e) ∙ h))

    pub covers_by : (a b : Option ℕ) (s t : ℕ) (v w : V) → a ≡ Some s → b ≡ Some t → value s ≡ Some v → value t ≡ Some w → leads v w → Covers leads value a b
    covers_by a b s t v w e f g h l u x i j = (
      some_stands a s e,
      λ r y k m.
          let same : s ≡ r = some_is s r (sym e ∙ k) in
          let also : t ≡ u = some_is t u (sym f ∙ i) in
          subst (λ z. leads z x) (some_is v y (sym g ∙ ap value same ∙ m)) (subst (λ z. leads v z) (some_is w x (sym h ∙ ap value also ∙ j)) l),
    )

  -- ---- a match

  module _ (value : ℕ → Option V) (winners : List (Option ℕ)) (slot : ℕ) where
    covered : (a b : Option ℕ) → LeadsAt leads value a b → Covers leads value a b
    covered a b l t w e h =
        let x = l t w e h in (
          some_stands a x.0 x.2,
          λ s v f g. let same : x.0 ≡ s = some_is x.0 s (sym x.2 ∙ f) in subst (λ y. leads y w) (some_is x.1 v (sym x.3 ∙ ap value same ∙ g)) x.4,
        )

    through : (a b c : Option ℕ) → LeadsAt leads value a b → LeadsAt leads value b c → LeadsAt leads value a c
    through a b c l m t w e h = let y = m t w e h in let x = l y.0 y.1 y.2 y.3 in (x.0, x.1, x.2, x.3, onward x.1 y.1 w x.4 y.4)

    own_leads : (a own : Option ℕ) → IfSome own (λ o. (o ≡ slot) × IsSome (value slot)) → IfNone own (value slot ≡ None) → LeadsAt leads value a own → LeadsAt leads value a (Some slot)
    own_leads a None some none l t w e h = absurd (none_some w (sym none ∙ ap value (some_is slot t e) ∙ h))
    own_leads a (Some o) some none l t w e h = l t w (ap (λ k. Some k) some.0 ∙ e) h

    one_of : (own left right inner outer : Option ℕ) → IfSome own (λ o. (o ≡ slot) × IsSome (value slot)) → left ≡ winner_at winners (2 * slot + 1) → right ≡ winner_at winners (2 * slot + 2) → (inner ≡ own) ⊎ (inner ≡ left) → (outer ≡ inner) ⊎ (outer ≡ right)
        → IsOwn leads value slot outer ⊎ (outer ≡ None) ⊎ (outer ≡ winner_at winners (2 * slot + 1)) ⊎ (outer ≡ winner_at winners (2 * slot + 2))
    one_of own left right inner outer some l r i (inr o) = inr (inr (inr (o ∙ r)))
    one_of own left right inner outer some l r (inr i) (inl o) = inr (inr (inl (o ∙ i ∙ l)))
    one_of None left right inner outer some l r (inl i) (inl o) = inr (inl (o ∙ i))
    one_of (Some k) left right inner outer some l r (inl i) (inl o) = inl (record { is = o ∙ i ∙ ap (λ n. Some n) some.0; held = some.1 })

    pub match_of : (own left right inner outer : Option ℕ) → IfSome own (λ o. (o ≡ slot) × IsSome (value slot)) → IfNone own (value slot ≡ None) → left ≡ winner_at winners (2 * slot + 1) → right ≡ winner_at winners (2 * slot + 2)
        → (inner ≡ own) ⊎ (inner ≡ left) → LeadsAt leads value inner own → LeadsAt leads value inner left → (outer ≡ inner) ⊎ (outer ≡ right) → LeadsAt leads value outer inner → LeadsAt leads value outer right → IsMatchWith leads value winners slot outer
    match_of own left right inner outer some none l r i inner_own inner_left o outer_inner outer_right = record {
      one = one_of own left right inner outer some l r i o;
      own = covered outer (Some slot) (own_leads outer own some none (through outer inner own outer_inner inner_own));
      left = subst (λ k. Covers leads value outer k) l (covered outer left (through outer inner left outer_inner inner_left));
      right = subst (λ k. Covers leads value outer k) r (covered outer right outer_right);
    }

  -- ---- all winners

  module _ (value : ℕ → Option V) (winners : List (Option ℕ)) (m : AreMatched leads value winners) where
    past : (slot s : ℕ) → length winners ≤ slot → winner_at winners slot ≡ Some s → ⊥
    past slot s low e = none_some s (sym (get_or_past winners slot None low) ∙ e)

    held_from : (fuel slot : ℕ) → length winners ≤ slot + fuel → (s : ℕ) → winner_at winners slot ≡ Some s → IsSome (value s)
    held_from zero slot low s e = absurd (past slot s (omega (arith, low)) e)
    held_from (suc fuel) slot low s e = elim (cases_lt slot (length winners)) [
      | inr high ↦ absurd (past slot s high e)
      | inl inside ↦ by ((m slot inside).one) (λ k l f. held_from fuel k l s f)
    ]
      where
        by : IsOwn leads value slot (winner_at winners slot) ⊎ (winner_at winners slot ≡ None) ⊎ (winner_at winners slot ≡ winner_at winners (2 * slot + 1)) ⊎ (winner_at winners slot ≡ winner_at winners (2 * slot + 2)) → ((k : ℕ) → length winners ≤ k + fuel → winner_at winners k ≡ Some s → IsSome (value s)) → IsSome (value s)
        by (inl own) again = subst (λ k. IsSome (value k)) (some_is slot s (sym own.is ∙ e)) own.held
        by (inr (inl none)) again = absurd (none_some s (sym none ∙ e))
        by (inr (inr (inl left))) again = again (2 * slot + 1) (omega (arith, low)) (sym left ∙ e)
        by (inr (inr (inr right))) again = again (2 * slot + 2) (omega (arith, low)) (sym right ∙ e)

    -- a winner has a value
    pub winner_held : (slot s : ℕ) → winner_at winners slot ≡ Some s → IsSome (value s)
    winner_held slot s e = held_from (length winners) slot (omega arith) s e

    -- no slot without a value wins anywhere
    pub vacant_loses : (slot s : ℕ) → value s ≡ None → winner_at winners slot ≡ Some s → ⊥
    vacant_loses slot s none e = not_some V (subst (λ o. IsSome o) none (winner_held slot s e))

    some_of : (o : Option V) → IsSome o → (v : V) × (o ≡ Some v)
    some_of None s = absurd (not_some V s)
    some_of (Some v) s = (v, refl)

    some_slot : (o : Option ℕ) → IsSome o → (s : ℕ) × (o ≡ Some s)
    some_slot None s = absurd (not_some ℕ s)
    some_slot (Some s) h = (s, refl)

    -- slot 0 has the first of all winners
    abbrev Leads : ℕ → Type 0
    Leads t = (w : V) → value t ≡ Some w → IsSome (winner_at winners 0) × ((s : ℕ) (v : V) → winner_at winners 0 ≡ Some s → value s ≡ Some v → leads v w)

    -- from a slot to the one above it
    up : (above t u : ℕ) (w x : V) → winner_at winners above ≡ Some u → value u ≡ Some x → leads x w → Leads u → value t ≡ Some w → IsSome (winner_at winners 0) × ((s : ℕ) (v : V) → winner_at winners 0 ≡ Some s → value s ≡ Some v → leads v w)
    up above t u w x e h l leads_u f = let r = leads_u x h in (r.0, λ s v i j. onward v x w (r.1 s v i j) l)

    pub root_leads : (fuel slot : ℕ) → slot ≤ fuel → slot < length winners → (t : ℕ) → winner_at winners slot ≡ Some t → Leads t
    root_leads fuel zero low inside t e w h = covers_itself value (winner_at winners 0) t w e h
    root_leads zero (suc k) low inside t e w h = absurd (omega (arith, low))
    root_leads (suc fuel) (suc k) low inside t e w h = by (parent k) (λ p l i u f. root_leads fuel p l i u f)
      where
        -- the slot above
        parent : (k : ℕ) → (p : ℕ) × ((suc k ≡ 2 * p + 1) ⊎ (suc k ≡ 2 * p + 2))
        parent zero = (0, inl (omega arith))
        parent (suc zero) = (0, inr (omega arith))
        parent (suc (suc k)) = let r = parent k in (suc r.0, elim r.1 [ inl a ↦ inl (omega (arith, a)) | inr a ↦ inr (omega (arith, a)) ])

        from : ((p : ℕ) → p ≤ fuel → p < length winners → (u : ℕ) → winner_at winners p ≡ Some u → Leads u) → (p : ℕ) → p ≤ k → IsSome (winner_at winners p) × ((s : ℕ) (v : V) → winner_at winners p ≡ Some s → value s ≡ Some v → leads v w) → IsSome (winner_at winners 0) × ((s : ℕ) (v : V) → winner_at winners 0 ≡ Some s → value s ≡ Some v → leads v w)
        from again p small c =
            let u = some_slot (winner_at winners p) c.0 in
            let x = some_of (value u.0) (winner_held p u.0 u.1) in
            up p t u.0 w x.0 u.1 x.1 (c.1 u.0 x.0 u.1 x.1) (again p (omega (arith, small, low)) (omega (arith, small, inside)) u.0 u.1) h

        by : (p : ℕ) × ((suc k ≡ 2 * p + 1) ⊎ (suc k ≡ 2 * p + 2)) → ((p : ℕ) → p ≤ fuel → p < length winners → (u : ℕ) → winner_at winners p ≡ Some u → Leads u) → IsSome (winner_at winners 0) × ((s : ℕ) (v : V) → winner_at winners 0 ≡ Some s → value s ≡ Some v → leads v w)
        by (p, inl a) again = from again p (omega (arith, a)) ((m p (omega (arith, a, inside))).left t w (subst (λ n. winner_at winners n ≡ Some t) a e) h)
        by (p, inr a) again = from again p (omega (arith, a)) ((m p (omega (arith, a, inside))).right t w (subst (λ n. winner_at winners n ≡ Some t) a e) h)

    -- and so of all slots with a value
    pub first_of_all : (t : ℕ) → t < length winners → Leads t
    first_of_all t inside w h =
        let c = (m t inside).own t w refl h in
        let u = some_slot (winner_at winners t) c.0 in
        let x = some_of (value u.0) (winner_held t u.0 u.1) in
        up t t u.0 w x.0 u.1 x.1 (c.1 u.0 x.0 u.1 x.1) (root_leads t t (omega arith) inside u.0 u.1) h

  -- ---- a slot's value changes

  -- what is covered stays so where the values of both slots do
  covers_still : (old new : ℕ → Option V) (a b : Option ℕ) → ((s : ℕ) → a ≡ Some s → (new s ≡ old s) ⊎ (new s ≡ None)) → ((s : ℕ) → b ≡ Some s → (new s ≡ old s) ⊎ (new s ≡ None)) → Covers leads old a b → Covers leads new a b
  covers_still old new a b same_a same_b c t w e h = by (same_b t e)
    where
      by : (new t ≡ old t) ⊎ (new t ≡ None) → IsSome a × ((s : ℕ) (v : V) → a ≡ Some s → new s ≡ Some v → leads v w)
      by (inr none) = absurd (none_some w (sym none ∙ h))
      by (inl same) =
          let r = c t w e (sym same ∙ h) in (
            r.0,
            λ s v f g. elim (same_a s f) [
              | inl s_same ↦ r.1 s v f (sym s_same ∙ g)
              | inr s_none ↦ absurd (none_some v (sym s_none ∙ g))
            ],
          )

  match_still : (old new : ℕ → Option V) (winners : List (Option ℕ)) (slot : ℕ) → new slot ≡ old slot → ((s t : ℕ) → winner_at winners t ≡ Some s → (new s ≡ old s) ⊎ (new s ≡ None)) → IsMatchWith leads old winners slot (winner_at winners slot) → IsMatchWith leads new winners slot (winner_at winners slot)
  match_still old new winners slot same each is = record {
    one = elim is.one [ inl own ↦ inl (record { is = own.is; held = subst (λ o. IsSome o) (sym same) own.held }) | inr other ↦ inr other ];
    own = covers_still old new (winner_at winners slot) (Some slot) (λ s e. each s slot e) (λ s e. inl (subst (λ k. new k ≡ old k) (some_is slot s e) same)) is.own;
    left = covers_still old new (winner_at winners slot) (winner_at winners (2 * slot + 1)) (λ s e. each s slot e) (λ s e. each s (2 * slot + 1) e) is.left;
    right = covers_still old new (winner_at winners slot) (winner_at winners (2 * slot + 2)) (λ s e. each s slot e) (λ s e. each s (2 * slot + 2) e) is.right;
  }

  -- a slot's value is let go
  pub matched_without : (old new : ℕ → Option V) (winners : List (Option ℕ)) (gone : ℕ) → new gone ≡ None → ((k : ℕ) → k ≢ gone → new k ≡ old k) → AreMatched leads old winners → AreMatchedBut leads new (Some gone) winners
  matched_without old new winners gone none others m slot other inside =
      match_still old new winners slot (others slot (λ e. other (ap (λ k. Some k) (sym e)))) (λ s t e. elim (eq_or s gone) [ inl i ↦ inr (ap new i ∙ none) | inr d ↦ inl (others s d) ]) (m slot inside)

  -- a slot without a value takes one
  pub matched_with : (old new : ℕ → Option V) (winners : List (Option ℕ)) (slot : ℕ) → old slot ≡ None → ((k : ℕ) → k ≢ slot → new k ≡ old k) → AreMatched leads old winners → AreMatchedBut leads new (Some slot) winners
  matched_with old new winners more none others m slot other inside =
      match_still old new winners slot (others slot (λ e. other (ap (λ k. Some k) (sym e)))) (λ s t e. inl (others s (λ i. vacant_loses old winners m t s (ap old i ∙ none) e))) (m slot inside)

  -- all values are as they were
  pub matched_same : (old new : ℕ → Option V) (winners : List (Option ℕ)) → ((k : ℕ) → new k ≡ old k) → AreMatched leads old winners → AreMatched leads new winners
  matched_same old new winners same m slot inside = match_still old new winners slot (same slot) (λ s t e. inl (same s)) (m slot inside)

  -- ---- a winner is written

  module _ (value : ℕ → Option V) (winners new : List (Option ℕ)) (slot : ℕ) (first : Option ℕ) (inside : slot < length winners) (is : new ≡ set winners slot first) where
    there : winner_at new slot ≡ first
    there = ap (λ ws. winner_at ws slot) is ∙ get_or-set_same winners slot first None inside

    elsewhere : (k : ℕ) → k ≢ slot → winner_at new k ≡ winner_at winners k
    elsewhere k d = ap (λ ws. winner_at ws k) is ∙ get_or-set_other winners slot k first None d

    size : length new ≡ length winners
    size = ap length is ∙ length-set winners slot first

    moved : (k : ℕ) (a b c x y z : Option ℕ) → x ≡ a → y ≡ b → z ≡ c → winner_at winners (2 * k + 1) ≡ b → winner_at winners (2 * k + 2) ≡ c → winner_at new (2 * k + 1) ≡ y → winner_at new (2 * k + 2) ≡ z → IsMatchWith leads value winners k a → IsMatchWith leads value new k x
    moved k a b c x y z e f g hb hc hy hz m =
        let left : winner_at new (2 * k + 1) ≡ winner_at winners (2 * k + 1) = hy ∙ f ∙ sym hb in
        let right : winner_at new (2 * k + 2) ≡ winner_at winners (2 * k + 2) = hz ∙ g ∙ sym hc in
        subst (λ o. IsMatchWith leads value new k o) (sym e) (record {
          one = elim m.one [
            | inl own ↦ inl own
            | inr (inl none) ↦ inr (inl none)
            | inr (inr (inl h)) ↦ inr (inr (inl (h ∙ sym left)))
            | inr (inr (inr h)) ↦ inr (inr (inr (h ∙ sym right)))
          ];
          own = m.own;
          left = subst (λ o. Covers leads value a o) (sym left) m.left;
          right = subst (λ o. Covers leads value a o) (sym right) m.right;
        })

    pub played : (next : Option ℕ) → IsMatchWith leads value winners slot first → AreMatchedBut leads value (Some slot) winners → ((k : ℕ) → (slot ≡ 2 * k + 1) ⊎ (slot ≡ 2 * k + 2) → next ≡ Some k) → AreMatchedBut leads value next new
    played next is_match others above k other low = elim (eq_or k slot) [
      | inl e ↦ subst (λ n. IsMatchWith leads value new n (winner_at new n)) (sym e)
          (moved slot first (winner_at winners (2 * slot + 1)) (winner_at winners (2 * slot + 2)) (winner_at new slot) (winner_at new (2 * slot + 1)) (winner_at new (2 * slot + 2)) there (elsewhere (2 * slot + 1) (λ i. omega (arith, i))) (elsewhere (2 * slot + 2) (λ i. omega (arith, i))) refl refl refl refl is_match)
      | inr d ↦ moved k (winner_at winners k) (winner_at winners (2 * k + 1)) (winner_at winners (2 * k + 2)) (winner_at new k) (winner_at new (2 * k + 1)) (winner_at new (2 * k + 2)) (elsewhere k d)
          (elsewhere (2 * k + 1) (λ i. other (above k (inl (sym i))))) (elsewhere (2 * k + 2) (λ i. other (above k (inr (sym i))))) refl refl refl refl (others k (λ i. d (sym (some_is slot k i))) (omega (arith, low, size)))
    ]

  -- a match that is won as before
  pub played_same : (value : ℕ → Option V) (winners : List (Option ℕ)) (slot : ℕ) (first : Option ℕ) → first ≡ winner_at winners slot → IsMatchWith leads value winners slot first → AreMatchedBut leads value (Some slot) winners → AreMatched leads value winners
  played_same value winners slot first same is others k low = elim (eq_or k slot) [
    | inl e ↦ subst (λ n. IsMatchWith leads value winners n (winner_at winners n)) (sym e) (subst (λ o. IsMatchWith leads value winners slot o) same is)
    | inr d ↦ others k (λ i. d (sym (some_is slot k i))) low
  ]

  pub matched_all : (value : ℕ → Option V) (winners : List (Option ℕ)) (next : Option ℕ) → next ≡ None → AreMatchedBut leads value next winners → AreMatched leads value winners
  matched_all value winners next none m slot low = m slot (λ e. none_some slot (sym none ∙ e)) low
