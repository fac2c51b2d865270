-- The relations are those of the text.
use Rattle.std.proofs.Common.{Err, sym, subst}
use Rattle.lrp_model.specs.DatabaseReading.{IsDatabase}
use Rattle.lrp_rel.specs.Reading.{IsReadOrMemory}
use Rattle.lrp_top.specs.Written.{plain_by}
use Rattle.lrp_top.proofs.reading.database_in.Goals as goal

pub returns-in-Ok-clause-every : goal.returns-in-Ok-clause-every
returns-in-Ok-clause-every c = λ db h. c.in-Ok.ensures.every db (subst (λ bytes. IsDatabase (plain_by c.args.civil bytes) db) (sym c.as_slice.ensures) h)

pub returns-in-Err-Fault-clause-every : goal.returns-in-Err-Fault-clause-every
returns-in-Err-Fault-clause-every c = λ db h. subst (λ read. IsReadOrMemory db (Err read)) c.in-Err-Fault.field-0-is (c.in-Err-Fault.ensures.every db (subst (λ bytes. IsDatabase (plain_by c.args.civil bytes) db) (sym c.as_slice.ensures) h))
