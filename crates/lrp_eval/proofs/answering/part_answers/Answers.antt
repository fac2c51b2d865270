-- One answer more.
use Rattle.std.proofs.Common.{◌++◌, ◌∷◌, [], List, sym, subst, ◌∙◌}
use Rattle.std.specs.List.{AllByRecursion, AllZip}
use Rattle.lrp_tables.specs.declared.table.Table.{Table}
use Rattle.lrp_answers.specs.declared.answer.Answer.{Answer}
use Rattle.lrp_eval.specs.Ending.{CanStandUnder, IsAnswerUnder}
use Rattle.lrp_eval.proofs.EndLaws.{zip_push}
use Rattle.lrp_eval.proofs.answering.part_answers.Goals as goal

pub loop-table-init : goal.loop-table-init
loop-table-init c = record {
  left = subst (λ (ts : List Table). AllByRecursion (λ (t : Table). CanStandUnder c.args.plan.now t.store) ts) (sym (c.into_iter-table-iterator.ensures.into_iter_gives.0 ∙ c.into_vec-table-items.ensures)) c.requires;
  under = subst (λ (ps : List Answer). AllZip (λ (t : Table). IsAnswerUnder c.args.plan.now t.store) [] ps) (sym c.new-parts.ensures) tt;
}

pub answer_with-requires : goal.answer_with-requires
answer_with-requires c = (subst (λ (ts : List Table). AllByRecursion (λ (t : Table). CanStandUnder c.args.plan.now t.store) ts) c.in-Some.ensures.steps.0 c.loop-table.invariant.left).0

pub loop-table-preserved : goal.loop-table-preserved
loop-table-preserved c = record {
  left = (subst (λ (ts : List Table). AllByRecursion (λ (t : Table). CanStandUnder c.args.plan.now t.store) ts) c.in-Some.ensures.steps.0 c.loop-table.invariant.left).1;
  under = subst (λ (ps : List Answer). AllZip (λ (t : Table). IsAnswerUnder c.args.plan.now t.store) (c.loop-table.yielded ++ c.in-Some.table ∷ []) ps) (sym c.in_ok-push.ensures.ok)
      (zip_push (λ (t : Table). IsAnswerUnder c.args.plan.now t.store) c.loop-table.yielded c.loop-table.parts c.in-Some.table c.in_ok-answer.answer c.loop-table.invariant.under c.in_ok-answer.ensures);
}
