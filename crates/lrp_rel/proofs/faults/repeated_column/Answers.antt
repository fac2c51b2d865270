-- One column more.
use Rattle.std.proofs.Common.{◌∙◌, ◌+◌, ap, sym, map, drop}
use Rattle.indexmap.specs.IndexSet.{keys}
use Rattle.lrp_model.specs.Faults.{earliest, repeated}
use Rattle.lrp_model.specs.DatabaseFaults.{database_standing, database_fault, named_at}
use Rattle.lrp_model.specs.declared.faults.DbKind.TheVariants.{Name}
use Rattle.lrp_model.specs.Sooner.{sooner}
use Rattle.lrp_rel.proofs.FaultWalks.{after, names_walk}
use Rattle.lrp_rel.proofs.faults.repeated_column.Goals as goal

pub loop-column-preserved : goal.loop-column-preserved
loop-column-preserved c =
    let columns = c.args.columns.now in
    let i = c.loop-column.column-index in
    let column = c.column-item.result in
    names_walk (named_at column) (map named_at (drop (i + 1) columns)) (keys c.loop-column.names) (keys c.repeated_name.new.names) c.loop-column.best c.sooner_of-best.result c.in_ok-found.found _
    (ap (λ l. sooner database_standing c.loop-column.best (earliest database_standing (repeated (database_fault Name) (keys c.loop-column.names) (map named_at l)))) (sym (after columns i column c.loop-column-test.true c.column-item.is)) ∙ c.loop-column.invariant)
    c.in_ok-found.ensures.found c.in_ok-found.ensures.names c.sooner_of-best.ensures
