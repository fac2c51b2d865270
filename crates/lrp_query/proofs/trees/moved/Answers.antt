use Rattle.std.proofs.Common.{◌∙◌, ap}
use Rattle.lrp_model.specs.RawQueries.{raw_kind}
use Rattle.lrp_query.proofs.Places.{moved_to}
use Rattle.lrp_query.proofs.trees.moved.Goals as goal

pub returns : goal.returns
returns c = ap (λ q. raw_kind q.0 c.args.place) c.into_parts-kind.ensures ∙ moved_to c.args.of.kind c.args.of.place c.args.place
