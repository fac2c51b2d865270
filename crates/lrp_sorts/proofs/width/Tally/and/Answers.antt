use Rattle.lrp_model.specs.Sorts.{is_time, is_data}
use Rattle.lrp_sorts.proofs.width.Tally.and.Goals as goal

pub returns : goal.returns
returns c = λ bs names others a b. record {
  times = c.in_ok-merged.ensures is_time bs names others a.times b.times;
  texts = c.in_ok-merged-2.ensures is_data bs names others a.texts b.texts;
}
