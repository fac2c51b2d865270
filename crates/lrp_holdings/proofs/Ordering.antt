-- What is held in order: after a value is held, and after one is let go.
use Rattle.std.proofs.Common.{◌≡◌, ◌⊎◌, inl, inr, ℕ, suc, ◌+◌, ◌*◌, ◌<◌, ◌≤◌, List, [], length, map, get_or, Option, Some, None, IsSome, true, eqb, refl, sym, ap, subst, ◌∙◌, arith}
use Rattle.std.specs.Option.{option_eq, option_map}
use Rattle.std.specs.Prelude.{IfSome, unwrap_or}
use Rattle.std.proofs.lemmas.Bool.{cases_lt, eqb-true}
use Rattle.std.proofs.lemmas.List.{get_or_past}
use Rattle.slab.specs.Slab.{Slab, Updates, get}
use Rattle.lrp_holdings.specs.Chains.{IsLetGo, IsRelinked, held_in}
use Rattle.lrp_holdings.specs.Holdings.{Held, HoldingsView, held_at}
use Rattle.lrp_holdings.specs.Winners.{AreMatched, AreMatchedBut, HasWinners, IsFirstHeld, IsMatchWith, value_numbered, winner_at}
use Rattle.lrp_holdings.specs.declared.chains.Holding.{Holding}
use Rattle.lrp_holdings.proofs.Cases.{eq_or}
use Rattle.lrp_holdings.proofs.Chained.{none_some, not_some, some_is, some_stands}
use Rattle.lrp_holdings.proofs.Holding.{some_back, view_at, view_of}
use Rattle.lrp_holdings.proofs.Tournament.{covers_none, covers_vacant, first_of_all, matched_same, matched_with, matched_without, winner_held}

-- ---- from a slot to the one above it

-- equal options are the same
pub same_option : (a b : Option ℕ) → option_eq eqb a b ≡ true → a ≡ b
same_option None None e = refl
same_option None (Some y) e = cc
same_option (Some x) None e = cc
same_option (Some x) (Some y) e = ap (λ k. Some k) (eqb-true x y e)

module _ (slot : ℕ) where
  pub above_is : (next : Option ℕ) → (next ≡ None → slot ≡ 0) → IfSome next (λ up. (slot ≡ 2 * up + 1) ⊎ (slot ≡ 2 * up + 2)) → (k : ℕ) → (slot ≡ 2 * k + 1) ⊎ (slot ≡ 2 * k + 2) → next ≡ Some k
  above_is None none some k (inl e) = absurd (let z : slot ≡ 0 = none refl in omega (arith, z, e))
  above_is None none some k (inr e) = absurd (let z : slot ≡ 0 = none refl in omega (arith, z, e))
  above_is (Some up) none some k e = ap (λ i. Some i) (by some e)
    where
      by : (slot ≡ 2 * up + 1) ⊎ (slot ≡ 2 * up + 2) → (slot ≡ 2 * k + 1) ⊎ (slot ≡ 2 * k + 2) → up ≡ k
      by (inl a) (inl b) = omega (arith, a, b)
      by (inl a) (inr b) = absurd (omega (arith, a, b))
      by (inr a) (inl b) = absurd (omega (arith, a, b))
      by (inr a) (inr b) = omega (arith, a, b)

  lower : (up : ℕ) → (slot ≡ 2 * up + 1) ⊎ (slot ≡ 2 * up + 2) → up < slot
  lower up (inl e) = omega (arith, e)
  lower up (inr e) = omega (arith, e)

  pub above_within : (next : Option ℕ) (n : ℕ) → IfSome next (λ up. (slot ≡ 2 * up + 1) ⊎ (slot ≡ 2 * up + 2)) → slot < n → IfSome next (λ up. up < n)
  above_within None n some low = tt
  above_within (Some up) n some low = let l : up < slot = lower up some in omega (arith, l, low)

  pub above_smaller : (next old : Option ℕ) → old ≡ Some slot → IfSome next (λ up. (slot ≡ 2 * up + 1) ⊎ (slot ≡ 2 * up + 2)) → unwrap_or (option_map suc next) 0 < unwrap_or (option_map suc old) 0
  above_smaller next old e some = subst (λ o. unwrap_or (option_map suc next) 0 < unwrap_or (option_map suc o) 0) (sym e) (by next some)
    where
      by : (next : Option ℕ) → IfSome next (λ up. (slot ≡ 2 * up + 1) ⊎ (slot ≡ 2 * up + 2)) → unwrap_or (option_map suc next) 0 < suc slot
      by None some = omega arith
      by (Some up) some = let l : up < slot = lower up some in omega (arith, l)

module _ {V : Type 0} where
  -- the value of what is held is the one in its slot
  value_held : (x : Option (Holding V)) → option_map (λ (h : Holding V). h.value) x ≡ option_map (λ (h : Held V). h.value) (held_in x)
  value_held None = refl
  value_held (Some h) = refl

  value_same : (x y : Option (Holding V)) → held_in x ≡ held_in y → option_map (λ (h : Holding V). h.value) x ≡ option_map (λ (h : Holding V). h.value) y
  value_same x y e = value_held x ∙ ap (λ z. option_map (λ (h : Held V). h.value) z) e ∙ sym (value_held y)

  some_holding : (x : Option (Holding V)) → IsSome x → (h : Holding V) × (x ≡ Some h)
  some_holding None s = absurd (not_some (Holding V) s)
  some_holding (Some h) s = (h, refl)

  module _ (leads : V → V → Type 0) (itself : (a : V) → leads a a) (onward : (a b c : V) → leads a b → leads b c → leads a c) where
    pub won_none : (s : Slab (Holding V)) (ws : List (Option ℕ)) → s.slots ≡ [] → ws ≡ [] → HasWinners leads s ws
    won_none s ws e f = record {
      matched = λ k low. absurd (let l : k < 0 = subst (λ vs. k < length vs) f low in omega (arith, l));
      within = λ k i. absurd (not_some (Holding V) (subst (λ x. IsSome x) (ap (λ xs. get_or xs k None) e ∙ get_or_past [] k None (omega arith)) i));
    }

    -- ---- room

    match_as : (value : ℕ → Option V) (ws vs : List (Option ℕ)) (k : ℕ) (a x : Option ℕ) → ((s : ℕ) → winner_at vs s ≡ winner_at ws s) → x ≡ a → IsMatchWith leads value ws k a → IsMatchWith leads value vs k x
    match_as value ws vs k a x same e m = record {
      one = elim m.one [
        | inl own ↦ inl (record { is = e ∙ own.is; held = own.held })
        | inr (inl none) ↦ inr (inl (e ∙ none))
        | inr (inr (inl left)) ↦ inr (inr (inl (e ∙ left ∙ sym (same (2 * k + 1)))))
        | inr (inr (inr right)) ↦ inr (inr (inr (e ∙ right ∙ sym (same (2 * k + 2)))))
      ];
      own = λ t w f g. let r = m.own t w f g in (subst (λ o. IsSome o) (sym e) r.0, λ s v i j. r.1 s v (sym e ∙ i) j);
      left = λ t w f g. let r = m.left t w (sym (same (2 * k + 1)) ∙ f) g in (subst (λ o. IsSome o) (sym e) r.0, λ s v i j. r.1 s v (sym e ∙ i) j);
      right = λ t w f g. let r = m.right t w (sym (same (2 * k + 2)) ∙ f) g in (subst (λ o. IsSome o) (sym e) r.0, λ s v i j. r.1 s v (sym e ∙ i) j);
    }

    -- a slot without a value has no winner
    match_none : (value : ℕ → Option V) (vs : List (Option ℕ)) (k : ℕ) (x : Option ℕ) → x ≡ None → value k ≡ None → winner_at vs (2 * k + 1) ≡ None → winner_at vs (2 * k + 2) ≡ None → IsMatchWith leads value vs k x
    match_none value vs k x e none left right = record {
      one = inr (inl e);
      own = covers_vacant leads itself onward value x (Some k) (λ t i. ap value (sym (some_is k t i)) ∙ none);
      left = covers_none leads itself onward value x (winner_at vs (2 * k + 1)) left;
      right = covers_none leads itself onward value x (winner_at vs (2 * k + 2)) right;
    }

    -- slots for which there was no match have no value
    beyond : (s : Slab (Holding V)) (ws : List (Option ℕ)) → HasWinners leads s ws → (k : ℕ) → length ws ≤ k → value_numbered s k ≡ None
    beyond s ws w k high = by (get s k) refl
      where
        by : (x : Option (Holding V)) → get s k ≡ x → option_map (λ (h : Holding V). h.value) x ≡ None
        by None e = refl
        by (Some h) e = absurd (let l : k < length ws = w.within k (some_stands (get s k) h e) in omega (arith, l, high))

    pub roomier_won : (s : Slab (Holding V)) (ws vs : List (Option ℕ)) → ((k : ℕ) → winner_at vs k ≡ winner_at ws k) → length ws ≤ length vs → HasWinners leads s ws → HasWinners leads s vs
    roomier_won s ws vs same more w = record {
      matched = λ k low. elim (cases_lt k (length ws)) [
        | inl inside ↦ match_as (value_numbered s) ws vs k (winner_at ws k) (winner_at vs k) same (same k) (w.matched k inside)
        | inr high ↦ match_none (value_numbered s) vs k (winner_at vs k) (none k high) (beyond s ws w k high) (none (2 * k + 1) (omega (arith, high))) (none (2 * k + 2) (omega (arith, high)))
      ];
      within = λ k i. let l : k < length ws = w.within k i in omega (arith, l, more);
    }
      where
        none : (k : ℕ) → length ws ≤ k → winner_at vs k ≡ None
        none k high = same k ∙ get_or_past ws k None high

    pub larger_won : (s t : Slab (Holding V)) (ws : List (Option ℕ)) → t ≡ record s { capacity = t.capacity } → HasWinners leads s ws → HasWinners leads t ws
    larger_won s t ws e w = record {
      matched = matched_same leads itself onward (value_numbered s) (value_numbered t) ws (λ k. ap (λ x. option_map (λ (h : Holding V). h.value) x) (same k)) w.matched;
      within = λ k i. w.within k (subst (λ x. IsSome x) (same k) i);
    }
      where
        same : (k : ℕ) → get t k ≡ get s k
        same k = ap (λ (x : Slab (Holding V)). get_or x.slots k None) e

    -- ---- a value is held

    module _ (s t u : Slab (Holding V)) (vs : List (Option ℕ)) (slot : ℕ) (h : Holding V) (free : get s slot ≡ None) (put : Updates s t slot (Some h)) (r : IsRelinked t u) (w : HasWinners leads s vs) where
      pub matched_but_it : AreMatchedBut leads (value_numbered u) (Some slot) vs
      matched_but_it = matched_with leads itself onward (value_numbered s) (value_numbered u) vs slot (ap (λ x. option_map (λ (h : Holding V). h.value) x) free) (λ k d. value_same (get u k) (get t k) (r.held k) ∙ ap (λ x. option_map (λ (h : Holding V). h.value) x) (put.others k d)) w.matched

      pub won_with : (xs : List (Option ℕ)) → slot < length vs → AreMatched leads (value_numbered u) xs → length xs ≡ length vs → HasWinners leads u xs
      won_with xs low m size = record {
        matched = m;
        within = λ k i. elim (eq_or k slot) [
          | inl e ↦ omega (arith, e, low, size)
          | inr d ↦ let l : k < length vs = w.within k (subst (λ x. IsSome x) (put.others k d) (some_back (get t k) (get u k) (r.held k) i)) in omega (arith, l, size)
        ];
      }

    -- ---- a value is let go

    module _ (s t : Slab (Holding V)) (ws : List (Option ℕ)) (slot : ℕ) (gone : IsLetGo s t slot) (w : HasWinners leads s ws) where
      pub matched_but_gone : AreMatchedBut leads (value_numbered t) (Some slot) ws
      matched_but_gone = matched_without leads itself onward (value_numbered s) (value_numbered t) ws slot (value_same (get t slot) None gone.gone) (λ k d. value_same (get t k) (get s k) (gone.others k d)) w.matched

      pub won_without : (xs : List (Option ℕ)) → AreMatched leads (value_numbered t) xs → length xs ≡ length ws → HasWinners leads t xs
      won_without xs m size = record {
        matched = m;
        within = λ k i. elim (eq_or k slot) [
          | inl e ↦ absurd (not_some (Holding V) (some_back None (get t k) (ap (λ j. held_in (get t j)) e ∙ gone.gone) i))
          | inr d ↦ let l : k < length ws = w.within k (some_back (get s k) (get t k) (gone.others k d) i) in omega (arith, l, size)
        ];
      }

    -- ---- the first value

    module _ (s : Slab (Holding V)) (ws : List (Option ℕ)) (w : HasWinners leads s ws) (view : HoldingsView V) (is : view_of s ≡ view) where
      here : (k : ℕ) → held_at view k ≡ held_in (get s k)
      here k = ap (λ v. held_at v k) (sym is) ∙ view_at s k

      leads_held : (k : ℕ) (h : Holding V) → get s k ≡ Some h → IsSome (winner_at ws 0) × ((f : ℕ) (v : V) → winner_at ws 0 ≡ Some f → value_numbered s f ≡ Some v → leads v h.value)
      leads_held k h e = first_of_all leads itself onward (value_numbered s) ws w.matched k (w.within k (some_stands (get s k) h e)) h.value (ap (λ x. option_map (λ (h : Holding V). h.value) x) e)

      pub first_none : winner_at ws 0 ≡ None → (k : ℕ) → held_at view k ≡ None
      first_none none k = here k ∙ by (get s k) refl
        where
          by : (x : Option (Holding V)) → get s k ≡ x → held_in x ≡ None
          by None e = refl
          by (Some h) e = absurd (not_some ℕ (subst (λ o. IsSome o) none (leads_held k h e).0))

      value_at : (k : ℕ) → option_map (λ (h : Held V). h.value) (held_at view k) ≡ value_numbered s k
      value_at k = ap (λ x. option_map (λ (h : Held V). h.value) x) (here k) ∙ sym (value_held (get s k))

      -- a winner's slot has a value
      pub first_some : (k : ℕ) → winner_at ws 0 ≡ Some k → option_map (λ (h : Held V). h.value) (held_at view k) ≡ None → ⊥
      first_some k e none = not_some V (subst (λ o. IsSome o) (sym (value_at k) ∙ none) (winner_held leads itself onward (value_numbered s) ws w.matched 0 k e))

      pub first_is : (k : ℕ) (v : V) → winner_at ws 0 ≡ Some k → option_map (λ (h : Held V). h.value) (held_at view k) ≡ Some v → IsFirstHeld leads view v
      first_is k v e f = by (get s k) refl
        where
          all : (j : ℕ) (other : Held V) → held_at view j ≡ Some other → leads v other.value
          all j other g = among (get s j) refl
            where
              among : (x : Option (Holding V)) → get s j ≡ x → leads v other.value
              among None i = absurd (none_some other (ap held_in (sym i) ∙ sym (here j) ∙ g))
              among (Some h) i = subst (λ o. leads v o) (some_is h.value other.value (ap (λ x. option_map (λ (h : Held V). h.value) x) (ap held_in (sym i) ∙ sym (here j) ∙ g))) ((leads_held j h i).1 k v e (sym (value_at k) ∙ f))

          by : (x : Option (Holding V)) → get s k ≡ x → IsFirstHeld leads view v
          by None i = absurd (none_some v (ap (λ x. option_map (λ (h : Holding V). h.value) x) (sym i) ∙ sym (value_at k) ∙ f))
          by (Some h) i = record {
            slot = k;
            owners = map (λ o. o.number) h.owners.items;
            held = here k ∙ ap held_in i ∙ ap (λ x. Some (record { owners = map (λ o. o.number) h.owners.items; value = x })) (some_is h.value v (ap (λ x. option_map (λ (h : Holding V). h.value) x) (sym i) ∙ sym (value_at k) ∙ f));
            leads_all = all;
          }
