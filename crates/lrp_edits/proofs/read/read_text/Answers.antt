use Rattle.std.proofs.Common.{subst, sym}
use Rattle.lrp_edits.specs.EditReading.{AreEditsRefused}
use Rattle.lrp_edits.proofs.EditLaws.{never_deep, text_kept, text_refused}
use Rattle.lrp_edits.proofs.read.read_text.Goals as goal

pub refusal-requires : goal.refusal-requires
refusal-requires c = never_deep c.new-tokens.result c.read_edits_to_end.new.tokens c.in-Err.fault c.in-Err.ensures

pub returns-in-Ok-clause-kept : goal.returns-in-Ok-clause-kept
returns-in-Ok-clause-kept c = text_kept c.args.text.now c.new-tokens.result c.args.database.now c.in-Ok.kept c.new-tokens.ensures c.utf8.text c.in-Ok.ensures

pub returns-clause-refused : goal.returns-clause-refused
returns-clause-refused c =
    subst (AreEditsRefused c.args.text.now c.args.database.now) (sym c.refusal.ensures)
    (text_refused c.args.text.now c.args.database.now c.new-tokens.result c.read_edits_to_end.new.tokens c.in-Err.fault c.peek.result.lexeme c.peek.result.slice.now c.peek.result.place c.new-tokens.ensures c.utf8.text c.peek.ensures c.in-Err.ensures)
