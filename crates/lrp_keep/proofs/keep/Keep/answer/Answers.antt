-- The answer of a state is that of the keeper.
use Rattle.std.proofs.Common.{subst}
use Rattle.lrp_keep.specs.Keeps.{IsKeptAnswer}
use Rattle.lrp_keep.specs.States.{IsAnswerOfState}
use Rattle.lrp_keep.proofs.KeeperAnswers.{kept_answer}
use Rattle.lrp_keep.proofs.keep.Keep.answer.Goals as goal
use Rattle.lrp_cutting.proofs.Lists.{if_ok}

pub returns : goal.returns
returns c = if_ok (IsAnswerOfState c.self.inside.of c.self.inside.state) (IsKeptAnswer c.args.self.now) c.answer.result
    (λ a is. subst (λ k. IsKeptAnswer k a) c.self.view_is (kept_answer c.self.inside.of c.self.inside.state c.self.invariant.keeping a is)) c.answer.ensures
