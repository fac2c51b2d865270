-- The least of all answers is told.
use Rattle.std.proofs.Common.{sym, subst}
use Rattle.lrp_watch.specs.Decided.{HasEachText}
use Rattle.lrp_watch.proofs.anew.Renewed.tell.Goals as goal

pub least-requires-clause-texts : goal.least-requires-clause-texts
least-requires-clause-texts c = subst (HasEachText c.args.self.now.domain.now) (sym c.in_ok-made.ensures.answer.domain) c.requires.texts

pub returns-clause-told : goal.returns-clause-told
returns-clause-told c = record {
  least = c.least.result;
  is = c.least.ensures c.args.turn.now.database.now (record { head = c.in_ok-made.ensures.answer.head; answers = c.in_ok-made.ensures.answer.answers });
  more = c.in_ok-push.ensures.ok;
}
