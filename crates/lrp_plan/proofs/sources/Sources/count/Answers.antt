use Rattle.std.proofs.Common.{◌≡◌, None, length, ap, ◌∙◌, rules}
use Rattle.lrp_plan.specs.Domains.{gathered}
use Rattle.lrp_plan.proofs.Gathered.{no_domain_count}
use Rattle.lrp_plan.proofs.sources.Sources.count.Goals as goal

pub returns-in-None : goal.returns-in-None
returns-in-None c = λ M s.
    let g : gathered c.args.self.now.domains c.args.sort.now ≡ None = search rules in
    c.len-in-None.ensures ∙ ap length c.texts_of.ensures.texts ∙ no_domain_count M c.args.self.now c.args.sort.now g s
