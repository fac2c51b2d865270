use Rattle.lrp_query.proofs.FileTexts.{file_answered}
use Rattle.lrp_query.proofs.queries.read_file.Goals as goal

pub returns-clause-file : goal.returns-clause-file
returns-clause-file c = (file_answered c.args.bytes.now c.read_file_bytes.result c.read_file_bytes.ensures.file c.read_file_bytes.ensures.refused).file

pub returns-clause-refused : goal.returns-clause-refused
returns-clause-refused c = (file_answered c.args.bytes.now c.read_file_bytes.result c.read_file_bytes.ensures.file c.read_file_bytes.ensures.refused).refused

pub returns-clause-every_file : goal.returns-clause-every_file
returns-clause-every_file c = (file_answered c.args.bytes.now c.read_file_bytes.result c.read_file_bytes.ensures.file c.read_file_bytes.ensures.refused).every_file

pub returns-clause-every_fault : goal.returns-clause-every_fault
returns-clause-every_fault c = (file_answered c.args.bytes.now c.read_file_bytes.result c.read_file_bytes.ensures.file c.read_file_bytes.ensures.refused).every_fault
