use Rattle.std.proofs.Common.{ap, ◌∙◌}
use Rattle.lrp_model.specs.Faults.{earliest, fault_if}
use Rattle.lrp_model.specs.Sorting.{query_standing, query_fault}
use Rattle.lrp_model.specs.declared.faults.QueryKind.TheVariants.{Wide}
use Rattle.lrp_model.specs.Sooner.{sooner}
use Rattle.lrp_sorts.proofs.finding.with_width.Goals as goal

pub returns-clause-fault : goal.returns-clause-fault
returns-clause-fault c = λ bs q names k.
    c.sooner_of.ensures ∙ ap (λ x. sooner query_standing x c.args.inside.fault) (c.fault_where-own.ensures ∙ ap (λ b. earliest query_standing (fault_if b (query_fault Wide c.args.place))) (c.is_wide.ensures bs q names k))
