-- One answer is the one part.
use Rattle.std.proofs.Common.{◌≡◌, List, [], ◌∷◌, ◌++◌, sym, ap, subst, ◌∙◌}
use Rattle.std.specs.List.{AllByRecursion}
use Rattle.lrp_model.specs.DataTexts.{IsDomain}
use Rattle.lrp_store.specs.Stores.{IsStore}
use Rattle.lrp_answers.specs.declared.answer.Answer.{Answer}
use Rattle.lrp_eval.specs.Answered.{AreAnswersInParts}
use Rattle.lrp_eval.proofs.EndLaws.{one_answers}
use Rattle.lrp_eval.proofs.answering.one_answer.Goals as goal

pub returns-clause-answers : goal.returns-clause-answers
returns-clause-answers c =
    let e : c.push.new.self ≡ c.in_ok-answer.answer ∷ [] = c.in_ok-push.ensures.ok ∙ ap (λ (l : List Answer). l ++ c.in_ok-answer.answer ∷ []) c.new-parts.ensures in
    λ planned db q cap h a. subst (AreAnswersInParts planned db q cap) (sym e) (one_answers planned db q c.args.plan.now cap c.in_ok-answer.answer h (c.in_ok-answer.ensures.answer planned db q cap h a))

pub returns-clause-valid : goal.returns-clause-valid
returns-clause-valid c =
    let e : c.push.new.self ≡ c.in_ok-answer.answer ∷ [] = c.in_ok-push.ensures.ok ∙ ap (λ (l : List Answer). l ++ c.in_ok-answer.answer ∷ []) c.new-parts.ensures in
    subst (λ (l : List Answer). AllByRecursion (λ part. IsStore part.store) l) (sym e) (c.in_ok-answer.ensures.valid, tt)

pub returns-clause-domain : goal.returns-clause-domain
returns-clause-domain c =
    let e : c.push.new.self ≡ c.in_ok-answer.answer ∷ [] = c.in_ok-push.ensures.ok ∙ ap (λ (l : List Answer). l ++ c.in_ok-answer.answer ∷ []) c.new-parts.ensures in
    subst (λ (l : List Answer). AllByRecursion (λ part. IsDomain part.domain) l) (sym e) (c.in_ok-answer.ensures.domain, tt)
