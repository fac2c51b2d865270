use Rattle.std.proofs.Common.{subst, sym}
use Rattle.lrp_rel.specs.Reading.{IsUnreadDatabase}
use Rattle.lrp_rel.proofs.TextLaws.{never_deep, text_gathered, text_refused}
use Rattle.lrp_rel.proofs.trees.read_text.Goals as goal

pub refusal-requires : goal.refusal-requires
refusal-requires c = never_deep c.new-tokens.result c.read_relations_to_end.new.tokens c.in-Err.fault c.in-Err.ensures

pub returns-in-Ok-clause-gathered : goal.returns-in-Ok-clause-gathered
returns-in-Ok-clause-gathered c = text_gathered c.args.text.now c.new-tokens.result c.in-Ok.gathered c.new-tokens.ensures c.utf8.text c.in-Ok.ensures

pub returns-in-Err-clause-refused : goal.returns-in-Err-clause-refused
returns-in-Err-clause-refused c =
    subst (IsUnreadDatabase c.args.text.now) (sym c.refusal.ensures)
    (text_refused c.args.text.now c.new-tokens.result c.read_relations_to_end.new.tokens c.in-Err.fault c.peek.result.lexeme c.peek.result.slice.now c.peek.result.place c.new-tokens.ensures c.utf8.text c.peek.ensures c.in-Err.ensures)
