-- Each text is read or refused in one way.
use Rattle.lrp_rel.proofs.WholeFault.{every_database, every_fault}
use Rattle.lrp_rel.proofs.read.read_database.Goals as goal

pub returns-clause-every_database : goal.returns-clause-every_database
returns-clause-every_database c = every_database c.args.bytes.now c.database_of_bytes.result c.database_of_bytes.ensures.read c.database_of_bytes.ensures.refused

pub returns-clause-every_fault : goal.returns-clause-every_fault
returns-clause-every_fault c = every_fault c.args.bytes.now c.database_of_bytes.result c.database_of_bytes.ensures.read c.database_of_bytes.ensures.refused
