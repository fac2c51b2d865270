use Rattle.lrp_query.proofs.Languages.{tense}
use Rattle.lrp_query.proofs.LanguageTexts.{answered}
use Rattle.lrp_tense.proofs.LawfulTense.{expandable_read, lawful_read}
use Rattle.lrp_tense.proofs.queries.read_tense.Goals as goal

pub returns-clause-every_query : goal.returns-clause-every_query
returns-clause-every_query c = (answered tense c.args.bytes.now c.read_bytes.result c.read_bytes.ensures.query c.read_bytes.ensures.refused).every_query

pub returns-clause-every_fault : goal.returns-clause-every_fault
returns-clause-every_fault c = (answered tense c.args.bytes.now c.read_bytes.result c.read_bytes.ensures.query c.read_bytes.ensures.refused).every_fault

pub returns-clause-expandable : goal.returns-clause-expandable
returns-clause-expandable c = expandable_read c.args.bytes.now c.read_bytes.result (answered tense c.args.bytes.now c.read_bytes.result c.read_bytes.ensures.query c.read_bytes.ensures.refused).query

pub returns-clause-lawful : goal.returns-clause-lawful
returns-clause-lawful c = lawful_read c.args.bytes.now c.read_bytes.result c.requires (answered tense c.args.bytes.now c.read_bytes.result c.read_bytes.ensures.query c.read_bytes.ensures.refused).query

pub returns-clause-query : goal.returns-clause-query
returns-clause-query c = (answered tense c.args.bytes.now c.read_bytes.result c.read_bytes.ensures.query c.read_bytes.ensures.refused).query

pub returns-clause-refused : goal.returns-clause-refused
returns-clause-refused c = (answered tense c.args.bytes.now c.read_bytes.result c.read_bytes.ensures.query c.read_bytes.ensures.refused).refused
