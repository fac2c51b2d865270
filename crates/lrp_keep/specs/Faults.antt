-- The fault of a keeper that a fault of a step makes.
use Rattle.lrp_tables.specs.declared.table.StepFault.{StepFault}
use Rattle.lrp_tables.specs.declared.table.StepFault.TheVariants.{TooManyCells as too_many_cells, Memory as no_memory}
use Rattle.lrp_keep.specs.declared.faults.KeepFault.{KeepFault}
use Rattle.lrp_keep.specs.declared.faults.KeepFault.TheVariants.{TooManyCells, Memory}

-- the same fault
abbrev pub kept_fault : StepFault → KeepFault
kept_fault too_many_cells = TooManyCells
kept_fault no_memory = Memory
