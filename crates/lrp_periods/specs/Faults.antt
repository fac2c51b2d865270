-- The fault of parts that a fault of a step makes.
use Rattle.lrp_tables.specs.declared.table.StepFault.{StepFault}
use Rattle.lrp_tables.specs.declared.table.StepFault.TheVariants.{TooManyCells, Memory as no_memory}
use Rattle.lrp_periods.specs.declared.parts.PartsFault.{PartsFault}
use Rattle.lrp_periods.specs.declared.parts.PartsFault.TheVariants.{GivenUp, Memory}

-- too many cells say nothing
abbrev pub parts_fault : StepFault → PartsFault
parts_fault TooManyCells = GivenUp
parts_fault no_memory = Memory
