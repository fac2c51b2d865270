-- What no range has would come after them.
use Rattle.lrp_model.specs.Satisfaction.{IsAnswer}
use Rattle.lrp_count.specs.Ranges.{IsAnswerTime}
use Rattle.lrp_count.proofs.WindowLaws.{cover_all}
use Rattle.lrp_count.proofs.laws.ranges_cover.Goals as goal

pub returns : goal.returns
returns c = λ db q from to limit ranges x are. cover_all (IsAnswerTime (IsAnswer db q)) from to limit ranges x are
