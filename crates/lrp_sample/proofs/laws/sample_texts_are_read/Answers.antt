use Rattle.lrp_sample.proofs.Databases.{database_is_read}
use Rattle.lrp_sample.proofs.Queries.{query_is_read}
use Rattle.lrp_sample.proofs.laws.sample_texts_are_read.Goals as goal

pub returns-clause-database : goal.returns-clause-database
returns-clause-database c = λ seed size. database_is_read seed size

pub returns-clause-query : goal.returns-clause-query
returns-clause-query c = query_is_read
