-- The database is kept as it was.
use Rattle.std.proofs.Common.{refl}
use Rattle.lrp_top.proofs.paging.refuse.Goals as goal

pub returns-clause-kept : goal.returns-clause-kept
returns-clause-kept g c = record { civil_is = refl; bytes_are = refl; read = c.requires.read; last = tt }
