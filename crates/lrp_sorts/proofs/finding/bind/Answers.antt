use Rattle.std.proofs.Common.{◌≡◌, ap, sym, ◌∙◌, map}
use Rattle.std.specs.Option.{is_some}
use Rattle.lrp_model.specs.Faults.{earliest, fault_if, is_named_in}
use Rattle.lrp_model.specs.Sorting.{query_standing, query_fault, sort_faults}
use Rattle.lrp_model.specs.declared.faults.QueryKind.TheVariants.{Rebound}
use Rattle.lrp_model.specs.Sooner.{sooner}
use Rattle.lrp_model.proofs.FirstFault.{first_of_both}
use Rattle.lrp_sorts.specs.Scopes.{binders}
use Rattle.lrp_sorts.proofs.Binding.{bound_names, there_after}
use Rattle.lrp_sorts.proofs.finding.bind.Goals as goal

pub returns-clause-fault : goal.returns-clause-fault
returns-clause-fault c =
    let known : c.is_some.result ≡ is_named_in (map (λ b. b.name) (binders c.args.scope.now)) c.args.binder.now.name =
    c.is_some.ensures ∙ there_after c.in_ok-outer.outer ∙ ap is_some c.in_ok-outer.ensures.outer ∙ bound_names (binders c.args.scope.now) c.args.binder.now.name in
    c.binder_fault.ensures
    ∙ ap (λ b. sooner query_standing (earliest query_standing (fault_if b (query_fault Rebound c.args.binder.now.place))) (earliest query_standing (sort_faults c.args.catalog.now c.args.binder.now.sort c.args.binder.now.sort_place))) known
    ∙ sym (first_of_both query_standing (fault_if (is_named_in (map (λ b. b.name) (binders c.args.scope.now)) c.args.binder.now.name) (query_fault Rebound c.args.binder.now.place)) (sort_faults c.args.catalog.now c.args.binder.now.sort c.args.binder.now.sort_place))
