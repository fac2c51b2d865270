use Rattle.std.proofs.Common.{◌∙◌, sym, ap}
use Rattle.lrp_model.specs.RawQueries.{raw_or}
use Rattle.lrp_model.proofs.RawViews.{raw_kind-Or}
use Rattle.lrp_query.proofs.Started.{raws_of}
use Rattle.lrp_query.proofs.trees.disjunction.Goals as goal

pub returns : goal.returns
returns c = raw_kind-Or c.args.of c.args.place ∙ ap (raw_or c.args.place) (sym (raws_of c.args.of.items))
