-- Faults of the number of values, of their sorts and of the bounds.
use Rattle.std.proofs.Common.{◌∙◌, ◌==◌, ap, not, length}
use Rattle.std.specs.List.{flat_map}
use Rattle.lrp_model.specs.Faults.{earliest, fault_if}
use Rattle.lrp_model.specs.DatabaseFaults.{database_standing, database_fault, wrong_sorts}
use Rattle.lrp_model.specs.declared.faults.DbKind.TheVariants.{Arity}
use Rattle.lrp_model.specs.Sooner.{sooner}
use Rattle.lrp_rel.proofs.FaultWalks.{bound_faults, first_of_three}
use Rattle.lrp_rel.proofs.faults.row_fault.Goals as goal

pub returns : goal.returns
returns c =
    let columns = c.args.columns.now in
    let row = c.args.row.now in
    let h = c.fault_where-arity.ensures in
    c.sooner_of-2.ensures ∙ ap (λ x. sooner database_standing x c.bounds_fault-bounds.result) c.sooner_of.ensures
    ∙ first_of_three c.fault_where-arity.result c.wrong_sort-sorts.result c.bounds_fault-bounds.result
    (fault_if (not (length row.item.values == length columns)) (database_fault Arity row.place)) (wrong_sorts columns row.item.values) (flat_map (bound_faults columns) row.item.bounds)
    (h ∙ ap (λ n. earliest database_standing (fault_if (not (n == length columns)) (database_fault Arity row.place))) c.len.ensures)
    (c.wrong_sort-sorts.ensures ∙ ap (λ l. earliest database_standing (wrong_sorts columns l)) c.as_slice.ensures)
    (c.bounds_fault-bounds.ensures columns c.requires ∙ ap (λ l. earliest database_standing (flat_map (bound_faults columns) l)) c.as_slice-2.ensures)
