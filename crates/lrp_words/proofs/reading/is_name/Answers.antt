use Rattle.lrp_words.proofs.NameLemmas.{name_is, name_long, name_short}
use Rattle.lrp_words.proofs.reading.is_name.Goals as goal

pub returns-then-text-le-MOST_NAME-clause-value : goal.returns-then-text-le-MOST_NAME-clause-value
returns-then-text-le-MOST_NAME-clause-value c = name_short c.args.text.now c.new.result c.sees_named.result c.new.ensures c.sees_named.ensures c.if-text-le-MOST_NAME.true

pub returns-then-text-le-MOST_NAME-clause-name : goal.returns-then-text-le-MOST_NAME-clause-name
returns-then-text-le-MOST_NAME-clause-name c = name_is c.args.text.now c.new.result c.sees_named.result c.new.ensures c.sees_named.ensures

pub returns-else-text-le-MOST_NAME-clause-value : goal.returns-else-text-le-MOST_NAME-clause-value
returns-else-text-le-MOST_NAME-clause-value c = name_long c.args.text.now c.if-text-le-MOST_NAME.false
