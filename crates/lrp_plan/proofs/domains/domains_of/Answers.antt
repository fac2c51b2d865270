use Rattle.std.proofs.Common.{◌∷◌, ◌++◌, [], take, sym, ap, subst, ◌∙◌, arith}
use Rattle.lrp_model.specs.Domains.{database_texts}
use Rattle.lrp_plan.specs.Domains.{AreDomains}
use Rattle.std.proofs.lemmas.List.{take_more}
use Rattle.lrp_plan.proofs.Planned.{take_all_of}
use Rattle.lrp_plan.proofs.domains.domains_of.Goals as goal

pub loop-entry-preserved : goal.loop-entry-preserved
loop-entry-preserved c =
    subst (λ xs. AreDomains (database_texts c.args.database.now) xs c.add.new.self) (sym (take_more c.args.texts.now c.loop-entry.entry-index c.entry-item.result c.loop-entry-test.true ∙ ap (λ x. take c.loop-entry.entry-index c.args.texts.now ++ x ∷ []) (sym c.entry-item.is)))
    (c.in_ok-add.ensures (take c.loop-entry.entry-index c.args.texts.now) c.loop-entry.invariant)

pub returns : goal.returns
returns c = subst (λ xs. AreDomains (database_texts c.args.database.now) xs c.loop-entry.domains) (take_all_of c.args.texts.now c.loop-entry.entry-index (omega (arith, c.loop-entry-test.false))) c.loop-entry.invariant
