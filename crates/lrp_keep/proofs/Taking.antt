-- What calls take that may fail: a value, a slot, the last level.
use Rattle.std.proofs.Common.{◌≡◌, ◌<◌, ◌≤◌, ◌+◌, ◌-◌, ℕ, List, [], ◌∷◌, length, Option, inl, Result, Ok, Err, Some, None, refl, sym, ap, subst, ◌∙◌, arith}
use Rattle.std.specs.Prelude.{IsSome, MatchOption, OnOk, slice_get}
use Rattle.std.specs.Option.{option_map}
use Rattle.lrp_holdings.specs.Holdings.{Held, HoldingsView, held_at}
use Rattle.lrp_store.specs.Stores.{IsStore, StoreView}
use Rattle.lrp_parts.specs.Derivations.{HoldsIn, Levels}
use Rattle.lrp_keep.specs.Taken.{HasTaken, HasTakenSome, HasTakenValue, IsLikeHeld, IsLikeLast, IsLikeValue}
use Rattle.lrp_keep.proofs.Taken.{HoldsBelow, all_below, last_level, nothing_taken, one_below, one_taken, skip_below}
use Rattle.lrp_holdings.proofs.Chained.{none_some, some_is}

-- ---- a value

pub taken_of : {X Y : Type 0} (o : Result X Y) (value : Option StoreView) (from old new : StoreView) → value ≡ Some from → OnOk o (HasTaken from old new) → OnOk o (HasTakenValue value old new)
taken_of (Ok x) value from old new e h = subst (λ v. HasTakenValue v old new) (sym e) (one_taken from old new h)
taken_of (Err x) value from old new e h = tt

pub nothing_of : (value : Option StoreView) (old : StoreView) → value ≡ None → IsStore old → HasTakenValue value old old
nothing_of value old e is = subst (λ v. HasTakenValue v old old) (sym e) (nothing_taken old is)

-- ---- a slot

-- where the slot has a value, it is held there for some keys
held_there : (o : Option (Held (Option StoreView))) (value : Option StoreView) → Some value ≡ option_map (λ h. h.value) o → (x : Held (Option StoreView)) × (o ≡ Some x) × (x.value ≡ value)
held_there None value e = absurd (none_some value (sym e))
held_there (Some x) value e = (x, refl, some_is x.value value (sym e))

pub alike_slot : (h : HoldingsView (Option StoreView)) (slot : ℕ) (value : Option StoreView) (out : StoreView) → Some value ≡ option_map (λ x. x.value) (held_at h slot) → IsLikeHeld (HoldsIn (h ∷ []) 0) out → IsLikeValue value out
alike_slot h slot value out e like =
    let x = held_there (held_at h slot) value e in
    record {
      valid = like.valid;
      each = λ keys store is. like.each x.0.owners store (h, refl, (slot, x.1 ∙ ap (λ v. Some (record { owners = x.0.owners; value = v })) (x.2 ∙ sym is.is)));
    }

pub taken_slot : {X Y : Type 0} (o : Result X Y) (h : HoldingsView (Option StoreView)) (slot : ℕ) (value : Option StoreView) (old new : StoreView) → Some value ≡ option_map (λ x. x.value) (held_at h slot) → OnOk o (HasTakenValue value old new) → OnOk o (MatchOption (held_at h slot) (new ≡ old) (λ held. HasTakenValue held.value old new))
taken_slot (Ok y) h slot value old new e t =
    let x = held_there (held_at h slot) value e in
    subst (λ o. MatchOption o (new ≡ old) (λ held. HasTakenValue held.value old new)) (sym x.1) (subst (λ v. HasTakenValue v old new) (sym x.2) t)
taken_slot (Err y) h slot value old new e t = tt

pub no_slot : (h : HoldingsView (Option StoreView)) (slot : ℕ) (old : StoreView) → None ≡ option_map (λ x. x.value) (held_at h slot) → MatchOption (held_at h slot) (old ≡ old) (λ held. HasTakenValue held.value old old)
no_slot h slot old e = by (held_at h slot) e
  where
    by : (o : Option (Held (Option StoreView))) → None ≡ option_map (λ x. x.value) o → MatchOption o (old ≡ old) (λ held. HasTakenValue held.value old old)
    by None e = refl
    by (Some x) e = absurd (none_some x.value e)

-- ---- slot after slot

pub alike_still : (held : List ℕ → Option StoreView → Type 0) (old now : StoreView) → IsStore now → now.shape ≡ old.shape → now.period ≡ old.period → IsLikeHeld held old → IsLikeHeld held now
alike_still held old now valid shape period like = record {
  valid = valid;
  each = λ keys store is. record { shape = shape ∙ (like.each keys store is).shape; period = period ∙ (like.each keys store is).period };
}

pub one_slot : (h : HoldingsView (Option StoreView)) (slot : ℕ) (old now new : StoreView) → HasTakenSome (HoldsBelow h slot) old now → MatchOption (held_at h slot) (new ≡ now) (λ held. HasTakenValue held.value now new) → HasTakenSome (HoldsBelow h (slot + 1)) old new
one_slot h slot old now new t m = by (held_at h slot) refl m
  where
    by : (o : Option (Held (Option StoreView))) → held_at h slot ≡ o → MatchOption o (new ≡ now) (λ held. HasTakenValue held.value now new) → HasTakenSome (HoldsBelow h (slot + 1)) old new
    by None e same = subst (λ s. HasTakenSome (HoldsBelow h (slot + 1)) old s) (sym same) (skip_below h slot old now e t)
    by (Some x) e taken = one_below h slot old now new x e t taken

pub slots_done : (h : HoldingsView (Option StoreView)) (count slots : ℕ) (old new : StoreView) → slots ≤ count → ((slot : ℕ) → IsSome (held_at h slot) → slot < slots) → HasTakenSome (HoldsBelow h count) old new → HasTakenSome (HoldsIn (h ∷ []) 0) old new
slots_done h count slots old new le low t = all_below h count old new (λ slot is. let l : slot < slots = low slot is in omega (arith, l, le)) t

-- ---- the last level

pub last_alike : (levels : Levels) (h : HoldingsView (Option StoreView)) (out : StoreView) → Some h ≡ slice_get levels (length levels - 1) → IsLikeLast levels out → IsLikeHeld (HoldsIn (h ∷ []) 0) out
last_alike levels h out at like = record { valid = like.valid; each = λ keys store held. like.each keys store (held.0, sym at ∙ held.1, held.2) }

pub last_taken : {X Y : Type 0} (o : Result X Y) (levels : Levels) (h : HoldingsView (Option StoreView)) (old new : StoreView) → Some h ≡ slice_get levels (length levels - 1) → OnOk o (HasTakenSome (HoldsIn (h ∷ []) 0) old new) → OnOk o (HasTakenSome (HoldsIn levels (length levels - 1)) old new)
last_taken (Ok x) levels h old new at t = last_level levels h old new (sym at) t
last_taken (Err x) levels h old new at t = tt

pub no_level : (levels : Levels) (old : StoreView) → None ≡ slice_get levels (length levels - 1) → IsStore old → HasTakenSome (HoldsIn levels (length levels - 1)) old old
no_level levels old none is = record {
  valid = is;
  shape = refl;
  period = refl;
  to = λ xs ns i. inl i;
  kept = λ xs ns i. i;
  from = λ xs ns i. absurd (none_some i.is.0 (none ∙ i.is.1));
  within = λ high reach was. was;
}
