use Rattle.lrp_civil.proofs.Meanings as meanings
use Rattle.lrp_civil.proofs.Places.{same_places}
use Rattle.lrp_civil.proofs.Spelled.{value_is, value_spelled}
use Rattle.lrp_civil.proofs.plain.plain_text_of.Goals as goal

pub returns-clause-places : goal.returns-clause-places
returns-clause-places c = same_places c.args.kind c.args.bytes.now

pub returns-clause-spelled : goal.returns-clause-spelled
returns-clause-spelled c = λ here value. (value_spelled c.args.kind here value, value_is c.args.kind here value)

pub returns-clause-meaning : goal.returns-clause-meaning
returns-clause-meaning c = meanings.meaning
