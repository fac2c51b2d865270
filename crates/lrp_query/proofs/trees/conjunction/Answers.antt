use Rattle.std.proofs.Common.{◌∙◌, sym, ap}
use Rattle.lrp_model.specs.RawQueries.{raw_and}
use Rattle.lrp_model.proofs.RawViews.{raw_kind-And}
use Rattle.lrp_query.proofs.Started.{raws_of}
use Rattle.lrp_query.proofs.trees.conjunction.Goals as goal

pub returns : goal.returns
returns c = raw_kind-And c.args.of c.args.place ∙ ap (raw_and c.args.place) (sym (raws_of c.args.of.items))
