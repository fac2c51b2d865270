-- A copy is known as the table is.
use Rattle.lrp_eval.proofs.KnownLaws.{known_with}
use Rattle.lrp_eval.proofs.known.keep_copy.Goals as goal

pub returns : goal.returns
returns c = λ planned db q cap known old. known_with planned db q cap _ c.args.part c.args.table.now c.in_ok-table.table _ _ c.in_ok-table.ensures.vars c.in_ok-table.ensures.store c.in_ok-push.ensures.ok known old
