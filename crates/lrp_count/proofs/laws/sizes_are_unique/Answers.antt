-- Equal sets have one size.
use Rattle.lrp_model.specs.Satisfaction.{IsAnswer}
use Rattle.lrp_count.specs.Ranges.{InWindowOf}
use Rattle.lrp_count.proofs.Sizes.{one_size}
use Rattle.lrp_count.proofs.laws.sizes_are_unique.Goals as goal

pub returns : goal.returns
returns c = λ db other_db q other from to size count same a b. one_size (InWindowOf (IsAnswer db q) from to) (InWindowOf (IsAnswer other_db other) from to) size count
    (λ t h. record { is = (same t).0 h.is; inside = h.inside; later = tt }) (λ t h. record { is = (same t).1 h.is; inside = h.inside; later = tt }) a b
