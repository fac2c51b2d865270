use Rattle.std.proofs.Common.{◌≡◌, None, refl, subst, IfOk, rules}
use Rattle.lrp_model.specs.Texts.{in_order}
use Rattle.lrp_model.specs.Domains.{database_texts}
use Rattle.lrp_database.specs.Once.{once, texts_with}
use Rattle.lrp_plan.specs.Domains.{gathered}
use Rattle.lrp_plan.proofs.Gathered.{ordered_is}
use Rattle.lrp_plan.proofs.sources.Sources.texts.Goals as goal

pub returns-in-None : goal.returns-in-None
returns-in-None c =
    let g : gathered c.args.self.now.domains c.args.sort.now ≡ None = search rules in
    ordered_is c.ordered.result c.args.self.now c.args.sort.now (in_order (once (texts_with c.args.sort.now (database_texts c.args.self.now.database.now)))) refl g (subst (λ us. IfOk c.ordered.result (λ made. made ≡ in_order us)) c.texts_of.ensures.texts c.ordered.ensures)
