-- The numbers with which the program ends.
use Rattle.std.specs.Prelude.{ℕ}
use Rattle.lrp_outputs.specs.declared.status.Status.{Status}
use Rattle.lrp_outputs.specs.declared.status.Status.TheVariants.{Done, Usage, Database, Query, Limit, Read, Write, Memory}

-- the number of a status
abbrev pub status_number : Status → ℕ
status_number Done = 0
status_number Usage = 2
status_number Database = 3
status_number Query = 4
status_number Limit = 5
status_number Read = 6
status_number Write = 7
status_number Memory = 8
