use Rattle.std.proofs.Common.{sym}
use Rattle.lrp_civil.proofs.TokenLemmas.{name_after}
use Rattle.lrp_civil.proofs.tokens.after_token.Goals as goal

pub returns-in-len1-up : goal.returns-in-len1-up
returns-in-len1-up c = name_after c.args.wide c.args.bytes.now c.after_name.result.now c.in-len1-up.len_at_least (sym c.if-is_letter.ensures) c.after_name.ensures
