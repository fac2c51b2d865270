use Rattle.std.proofs.Common.{ap, arith, rules, codes}
use Rattle.std.proofs.lemmas.Slice.Eq.{text_from_reads}
use Rattle.lrp_model.specs.Lexing.{word_or_name}
use Rattle.lrp_text.proofs.scanning.word.Goals as goal

-- the four longest words, byte by byte
pub returns-in-exists : goal.returns-in-exists
unfolding word_or_name
returns-in-exists c = ap word_or_name (text_from_reads c.args.name.now (codes "exists") (omega arith) (search rules))

pub returns-in-forall : goal.returns-in-forall
unfolding word_or_name
returns-in-forall c = ap word_or_name (text_from_reads c.args.name.now (codes "forall") (omega arith) (search rules))

pub returns-in-implies : goal.returns-in-implies
unfolding word_or_name
returns-in-implies c = ap word_or_name (text_from_reads c.args.name.now (codes "implies") (omega arith) (search rules))

pub returns-in-relation : goal.returns-in-relation
unfolding word_or_name
returns-in-relation c = ap word_or_name (text_from_reads c.args.name.now (codes "relation") (omega arith) (search rules))
