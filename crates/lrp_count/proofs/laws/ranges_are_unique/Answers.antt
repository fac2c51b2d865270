-- Equal sets have the same ranges.
use Rattle.lrp_model.specs.Satisfaction.{IsAnswer}
use Rattle.lrp_count.specs.Ranges.{IsAnswerTime}
use Rattle.lrp_count.proofs.RangeLaws.{same_ranges}
use Rattle.lrp_count.proofs.laws.ranges_are_unique.Goals as goal

pub returns : goal.returns
returns c = λ db other_db q other from to limit ranges others more further same a b. same_ranges (IsAnswerTime (IsAnswer db q)) (IsAnswerTime (IsAnswer other_db other)) from to limit ranges others more further (λ x h. (same x).0 h) (λ x h. (same x).1 h) a b
