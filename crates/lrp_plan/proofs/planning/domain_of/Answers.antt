use Rattle.std.proofs.Common.{◌≡◌, ◌++◌, rules}
use Rattle.lrp_model.specs.Domains.{database_texts}
use Rattle.lrp_database.specs.Once.{once, texts_among}
use Rattle.lrp_plan.proofs.Whole.{constants_made}
use Rattle.lrp_plan.proofs.planning.domain_of.Goals as goal

pub returns : goal.returns
returns c =
    let e : c.from_vec.result ≡ once (texts_among (database_texts c.args.sources.now.database.now)) ++ texts_among c.args.sources.now.texts.items = search rules in
    constants_made c.new.result c.from_vec.result (database_texts c.args.sources.now.database.now) c.args.sources.now.texts.items e c.new.ensures
