-- There are no faults, or one of them is reported.
use Rattle.std.proofs.Common.{◌≡◌, ◌⊎◌, inl, inr, List, [], refl, Option, Some, None}
use Rattle.lrp_model.proofs.FirstFault.{none_is_empty}
use Rattle.lrp_model.specs.Faults.{earliest}
use Rattle.lrp_model.specs.Sorting.{query_standing}
use Rattle.lrp_model.specs.declared.faults.QueryFault.{QueryFault}

pub none_or_first : (faults : List QueryFault) → (faults ≡ []) ⊎ ((fault : QueryFault) × (earliest query_standing faults ≡ Some fault))
none_or_first faults = by (earliest query_standing faults) refl
  where
    by : (o : Option QueryFault) → earliest query_standing faults ≡ o → (faults ≡ []) ⊎ ((fault : QueryFault) × (earliest query_standing faults ≡ Some fault))
    by None e = inl (none_is_empty query_standing faults e)
    by (Some fault) e = inr (fault, e)
