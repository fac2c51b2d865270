use Rattle.lrp_answers.proofs.HeadOrder.{spot_tuple_is}
use Rattle.lrp_outputs.proofs.Spots.{texts_known}
use Rattle.lrp_outputs.proofs.laws.spots_stand_for_tuples.Goals as goal

pub returns-clause-tuple : goal.returns-clause-tuple
returns-clause-tuple c = spot_tuple_is

pub returns-clause-known : goal.returns-clause-known
returns-clause-known c = texts_known
