use Rattle.std.proofs.Common.{rules, ◌∙◌, sym, refl}
use Rattle.lrp_civil.proofs.TokenLemmas.{comment_step, hash_step, blank_step}
use Rattle.lrp_civil.proofs.tokens.after_blanks.Goals as goal

pub loop-rest-preserved-then-comment : goal.loop-rest-preserved-then-comment
loop-rest-preserved-then-comment c = record {
  same = comment_step c.loop-rest.rest.now c.loop-rest.comment c.in-len1-up.len_at_least c.if-comment.true ∙ c.loop-rest.invariant.same;
  shorter = search rules;
}

pub loop-rest-preserved-then-b-eq35 : goal.loop-rest-preserved-then-b-eq35
loop-rest-preserved-then-b-eq35 c = record {
  same = hash_step c.loop-rest.rest.now c.loop-rest.comment _ c.in-len1-up.len_at_least c.if-comment.false c.if-b-eq35.true refl ∙ c.loop-rest.invariant.same;
  shorter = search rules;
}

pub loop-rest-preserved : goal.loop-rest-preserved
loop-rest-preserved c = record {
  same = blank_step c.loop-rest.rest.now c.loop-rest.comment c.in-len1-up.len_at_least c.if-comment.false c.if-b-eq35.false (sym c.if-not-is_blank.ensures) ∙ c.loop-rest.invariant.same;
  shorter = search rules;
}
