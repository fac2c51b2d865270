-- What was added as one set was added as another one that has the same tuples.
use Rattle.std.proofs.Common.{ℕ, ◌≤◌, List, Result, Ok, Err, OnOk}
use Rattle.std.specs.Prelude.{ℤ}
use Rattle.lrp_store.specs.Stores.{StoreView, IsStore}
use Rattle.lrp_store.specs.Growing.{IsAdded, IsRefused}
use Rattle.lrp_store.specs.declared.store.StoreFault.{StoreFault}
use Rattle.lrp_store.proofs.Grown.{Set, grown_same, grown_on, grown_within, one_more_of}

module _ (p q : Set) (cap low high : ℕ) (s new : StoreView) (is : IsStore s) (to : (xs : List ℤ) (ns : List ℕ) → p xs ns → q xs ns) (le : low ≤ high) where
  pub added_as : ((xs : List ℤ) (ns : List ℕ) → q xs ns → p xs ns) → {T : Type 0} (r : Result T StoreFault) → OnOk r (IsAdded p cap low s new) → OnOk r (IsAdded q cap high s new)
  added_as from (Ok x) a = record {
    grown = grown_on cap high p q s s new to (grown_same cap high q s is) (grown_within cap low high p s new le a.grown);
    whole = record { each = λ xs ns h. a.whole.each xs ns (from xs ns h) };
  }
  added_as from (Err e) a = tt

  pub refused_as : IsRefused p cap low s new → IsRefused q cap high s new
  refused_as r = record {
    grown = grown_on cap high p q s s new to (grown_same cap high q s is) (grown_within cap low high p s new le r.grown);
    more = one_more_of cap p q new to r.more;
  }
