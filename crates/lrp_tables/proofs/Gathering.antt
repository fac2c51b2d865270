-- A set that is added to a store part by part.
use Rattle.std.proofs.Common.{ℕ, ◌≤◌, ◌⊎◌, inl, inr, List}
use Rattle.std.specs.Prelude.{ℤ}
use Rattle.lrp_store.specs.Stores.{StoreView, IsStore, InStore}
use Rattle.lrp_store.specs.Growing.{IsGrown, IsAdded, IsRefused}
use Rattle.lrp_store.proofs.Grown.{Set, grown_same, grown_on, grown_within, one_more_of}

-- of the set, all was added but what is left
pub record IsGathering (set left : Set) (cap high : ℕ) (start out : StoreView) : Type 0 where
  pub grown : IsGrown set cap high start out
  pub after : (xs : List ℤ) (ns : List ℕ) → set xs ns → InStore out xs ns ⊎ left xs ns

module _ (set : Set) (cap high : ℕ) (start : StoreView) where
  -- nothing was added yet
  pub gathering_none : (left : Set) → IsStore start → ((xs : List ℤ) (ns : List ℕ) → set xs ns → left xs ns) → IsGathering set left cap high start start
  gathering_none left is all = record { grown = grown_same cap high set start is; after = λ xs ns h. inr (all xs ns h) }

  -- then a part was
  pub gathering_more : (left rest part : Set) (low : ℕ) (out new : StoreView) → IsGathering set left cap high start out → low ≤ high → ((xs : List ℤ) (ns : List ℕ) → part xs ns → set xs ns)
      → ((xs : List ℤ) (ns : List ℕ) → set xs ns → left xs ns → part xs ns ⊎ rest xs ns) → IsAdded part cap low out new → IsGathering set rest cap high start new
  gathering_more left rest part low out new g le to from a = record {
    grown = grown_on cap high part set start out new to g.grown (grown_within cap low high part out new le a.grown);
    after = λ xs ns h. elim (g.after xs ns h) [
      | inl i ↦ inl (a.grown.kept xs ns i)
      | inr l ↦ elim (from xs ns h l) [ inl p ↦ inl (a.whole.each xs ns p) | inr r ↦ inr r ]
    ];
  }

  -- or a part was refused
  pub gathering_refused : (left part : Set) (low : ℕ) (out new : StoreView) → IsGathering set left cap high start out → low ≤ high → ((xs : List ℤ) (ns : List ℕ) → part xs ns → set xs ns) → IsRefused part cap low out new → IsRefused set cap high start new
  gathering_refused left part low out new g le to r = record {
    grown = grown_on cap high part set start out new to g.grown (grown_within cap low high part out new le r.grown);
    more = one_more_of cap part set new to r.more;
  }

  -- nothing is left
  pub gathered : (left : Set) (out : StoreView) → IsGathering set left cap high start out → ((xs : List ℤ) (ns : List ℕ) → set xs ns → left xs ns → ⊥) → IsAdded set cap high start out
  gathered left out g none = record { grown = g.grown; whole = record { each = λ xs ns h. elim (g.after xs ns h) [ inl i ↦ i | inr l ↦ absurd (none xs ns h l) ] } }

module _ (cap : ℕ) (p q : Set) (low high : ℕ) (le : low ≤ high) (s t : StoreView) (is : IsStore s) (to : (xs : List ℤ) (ns : List ℕ) → p xs ns → q xs ns) where
  -- the same set in other words was added
  pub added_as : ((xs : List ℤ) (ns : List ℕ) → q xs ns → p xs ns) → IsAdded p cap low s t → IsAdded q cap high s t
  added_as from a = record {
    grown = grown_on cap high p q s s t to (grown_same cap high q s is) (grown_within cap low high p s t le a.grown);
    whole = record { each = λ xs ns h. a.whole.each xs ns (from xs ns h) };
  }

  -- or refused
  pub refused_as : IsRefused p cap low s t → IsRefused q cap high s t
  refused_as r = record { grown = grown_on cap high p q s s t to (grown_same cap high q s is) (grown_within cap low high p s t le r.grown); more = one_more_of cap p q t to r.more }
