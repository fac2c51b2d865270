-- One answer is the one part.
use Rattle.std.proofs.Common.{◌≡◌, List, [], ◌∷◌, ◌++◌, ap, ◌∙◌}
use Rattle.lrp_answers.specs.declared.answer.Answer.{Answer}
use Rattle.lrp_eval.proofs.answering.nearest_answer.Goals as goal

pub returns : goal.returns
returns c = record {
  answer = c.in_ok-answer.answer;
  alone = c.in_ok-push.ensures.ok ∙ ap (λ (l : List Answer). l ++ c.in_ok-answer.answer ∷ []) c.new-parts.ensures;
  under = c.in_ok-answer.ensures;
}
