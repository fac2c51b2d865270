-- A name is unknown where it is not among the names of the time columns.
use Rattle.std.proofs.Common.{◌∙◌, ap, not}
use Rattle.indexmap.specs.IndexSet.{keys}
use Rattle.lrp_model.specs.Faults.{earliest, fault_if}
use Rattle.lrp_model.specs.DatabaseFaults.{database_standing, database_fault}
use Rattle.lrp_model.specs.declared.faults.DbKind.TheVariants.{Column}
use Rattle.lrp_rel.proofs.FaultWalks.{known}
use Rattle.lrp_rel.proofs.faults.unknown_name.Goals as goal

pub returns : goal.returns
returns c = λ columns are.
    c.fault_where.ensures ∙ ap (λ b. earliest database_standing (fault_if b (database_fault Column c.args.name.now.place))) (ap not c.contains.ensures ∙ known columns c.args.name.now.item (keys c.args.times.now) are)
