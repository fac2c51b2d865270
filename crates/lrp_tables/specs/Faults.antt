-- The fault of a step that a fault of a store makes.
use Rattle.lrp_store.specs.declared.store.StoreFault.{StoreFault}
use Rattle.lrp_store.specs.declared.store.StoreFault.TheVariants.{TooManyCells as too_many_cells, Memory as no_memory}
use Rattle.lrp_tables.specs.declared.table.StepFault.{StepFault}
use Rattle.lrp_tables.specs.declared.table.StepFault.TheVariants.{TooManyCells, Memory}

-- the same fault
abbrev pub step_fault : StoreFault → StepFault
step_fault too_many_cells = TooManyCells
step_fault no_memory = Memory
