use Rattle.lrp_query.proofs.Languages.{plain}
use Rattle.lrp_query.proofs.LanguageTexts.{answered}
use Rattle.lrp_query.proofs.LawfulQueries.{lawful_read, plain_read}
use Rattle.lrp_query.proofs.queries.read_query.Goals as goal

pub returns-clause-every_query : goal.returns-clause-every_query
returns-clause-every_query c = (answered plain c.args.bytes.now c.read_bytes.result c.read_bytes.ensures.query c.read_bytes.ensures.refused).every_query

pub returns-clause-every_fault : goal.returns-clause-every_fault
returns-clause-every_fault c = (answered plain c.args.bytes.now c.read_bytes.result c.read_bytes.ensures.query c.read_bytes.ensures.refused).every_fault

pub returns-clause-lawful : goal.returns-clause-lawful
returns-clause-lawful c = lawful_read c.args.bytes.now c.read_bytes.result c.requires (answered plain c.args.bytes.now c.read_bytes.result c.read_bytes.ensures.query c.read_bytes.ensures.refused).query

pub returns-clause-query : goal.returns-clause-query
returns-clause-query c = (answered plain c.args.bytes.now c.read_bytes.result c.read_bytes.ensures.query c.read_bytes.ensures.refused).query

pub returns-clause-refused : goal.returns-clause-refused
returns-clause-refused c = (answered plain c.args.bytes.now c.read_bytes.result c.read_bytes.ensures.query c.read_bytes.ensures.refused).refused

pub returns-clause-plain : goal.returns-clause-plain
returns-clause-plain c = plain_read c.args.bytes.now c.read_bytes.result (answered plain c.args.bytes.now c.read_bytes.result c.read_bytes.ensures.query c.read_bytes.ensures.refused).query
