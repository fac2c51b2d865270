-- What no range has comes after the last one.
use Rattle.lrp_model.specs.Satisfaction.{IsAnswer}
use Rattle.lrp_count.specs.Ranges.{IsAnswerTime}
use Rattle.lrp_count.proofs.WindowLaws.{cover_front}
use Rattle.lrp_count.proofs.laws.ranges_cover_the_front.Goals as goal

pub returns : goal.returns
returns c = λ db q from to limit ranges more last x are listed below. cover_front (IsAnswerTime (IsAnswer db q)) from to limit ranges more last x are listed below
