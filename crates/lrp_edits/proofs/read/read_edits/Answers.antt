-- Each text is read or refused in one way, and what is read is lawful.
use Rattle.std.proofs.Common.{List, Result, Ok, Err, IfOk}
use Rattle.lrp_edits.specs.declared.edits.Edit.{Edit}
use Rattle.lrp_rel.specs.declared.trees.ReadFault.{ReadFault}
use Rattle.lrp_edits.proofs.EditLaws.{every_edits, every_fault}
use Rattle.lrp_edits.proofs.EditRows.{said_lawful, said_few}
use Rattle.lrp_edits.proofs.read.read_edits.Goals as goal

-- what holds of an Ok gives another fact of it
if_ok : {P Q : List Edit → Type 0} (r : Result (List Edit) ReadFault) → ((es : List Edit) → P es → Q es) → IfOk r P → IfOk r Q
if_ok (Ok es) f h = f es h
if_ok (Err e) f h = tt

pub returns-clause-every_edits : goal.returns-clause-every_edits
returns-clause-every_edits c = every_edits c.args.bytes.now c.args.database.now c.edits_of_bytes.result c.edits_of_bytes.ensures.read c.edits_of_bytes.ensures.refused

pub returns-clause-every_fault : goal.returns-clause-every_fault
returns-clause-every_fault c = every_fault c.args.bytes.now c.args.database.now c.edits_of_bytes.result c.edits_of_bytes.ensures.read c.edits_of_bytes.ensures.refused

pub returns-clause-lawful : goal.returns-clause-lawful
returns-clause-lawful c = if_ok c.edits_of_bytes.result (λ es d. said_lawful c.args.bytes.now c.args.database.now es d) c.edits_of_bytes.ensures.read

pub returns-clause-few : goal.returns-clause-few
returns-clause-few c = if_ok c.edits_of_bytes.result (λ es d. said_few c.args.bytes.now c.args.database.now es c.requires d) c.edits_of_bytes.ensures.read
