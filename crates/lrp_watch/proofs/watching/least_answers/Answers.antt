-- What is kept at first can go on, and the lines of the least answers are told.
use Rattle.std.proofs.Common.{refl, sym, subst}
use Rattle.std.proofs.lemmas.Result.{err_from_is_err_and}
use Rattle.lrp_model.specs.Formulas.{question_of}
use Rattle.lrp_keep.specs.Keeps.{CanBeKept, opened, IsPastLimit}
use Rattle.lrp_watch.specs.Edits.{IsPassedAfter}
use Rattle.lrp_watch.specs.Faults.{IsFaultAt}
use Rattle.lrp_watch.specs.Watching.{IsPassed}
use Rattle.lrp_watch.proofs.Openings.{can_be_kept}
use Rattle.lrp_watch.proofs.Passings.{fault_as}
use Rattle.lrp_watch.proofs.Tellings.{few_columns, goes, known, passed_first, passed_later, told}
use Rattle.lrp_watch.proofs.watching.least_answers.Goals as goal

pub opened-requires : goal.opened-requires
opened-requires c =
    subst (CanBeKept (question_of c.args.query.now) c.args.database.now) (sym c.in_ok-domain.ensures)
    (can_be_kept c.texts_in_order.ensures.same c.args.database.now (question_of c.args.query.now) c.args.edits.now c.requires c.relations.ensures.kept.each)

pub spots_of-requires : goal.spots_of-requires
spots_of-requires c =
    goes c.args.query.now c.args.database.now c.args.edits.now c.args.cap c.in_ok-domain.domain c.in_ok-keep.keep c.in_ok-domain.ensures c.in_ok-keep.ensures.view c.texts_in_order.ensures.same c.requires

pub no_answers-requires : goal.no_answers-requires
no_answers-requires c =
    few_columns c.args.query.now c.args.database.now c.args.edits.now c.args.cap c.in_ok-domain.domain c.in_ok-keep.keep c.in_ok-domain.ensures c.in_ok-keep.ensures.view c.requires

pub invariant_of-result : goal.invariant_of-result
invariant_of-result c = record {
  known = known c.args.query.now c.args.database.now c.args.edits.now c.args.cap c.in_ok-domain.domain c.in_ok-keep.keep c.in_ok-domain.ensures c.in_ok-keep.ensures.view
      c.in_ok-answer.answer c.in_ok-answer.ensures _ c.in_ok-spots.spots c.in_ok-spots.ensures.done;
}

pub returns-clause-told : goal.returns-clause-told
returns-clause-told c =
    told c.args.query.now c.args.database.now c.args.edits.now c.args.cap c.in_ok-domain.domain c.in_ok-keep.keep c.in_ok-domain.ensures c.in_ok-keep.ensures.view
    c.in_ok-answer.answer c.in_ok-answer.ensures _ c.in_ok-spots.spots c.in_ok-keep.ensures.limits c.in_ok-spots.ensures.done

pub returns-in_err-keep-clause-fault : goal.returns-in_err-keep-clause-fault
returns-in_err-keep-clause-fault c =
    let query = c.args.query.now in
    let db = c.args.database.now in
    let first = opened query db c.in_ok-domain.domain c.args.cap in
    let p = err_from_is_err_and c.from_residual-in_err-keep.result c.from_residual-in_err-keep.ensures.1 in
    rw (p.1, p.2) (fault_as (IsFaultAt 0 (IsPastLimit first)) (IsPassed db (question_of query) c.args.edits.now c.args.cap)
    (passed_first query db c.args.edits.now c.args.cap c.in_ok-domain.domain first c.in_ok-domain.ensures refl) c.in_err-keep.field-0.0 c.in_err-keep.ensures.fault)

pub returns-in_err-spots-clause-fault : goal.returns-in_err-spots-clause-fault
returns-in_err-spots-clause-fault c =
    let query = c.args.query.now in
    let db = c.args.database.now in
    let p = err_from_is_err_and c.from_residual-in_err-spots.result c.from_residual-in_err-spots.ensures.1 in
    rw (p.1, p.2) (fault_as (IsPassedAfter c.args.edits.now c.in_ok-keep.keep) (IsPassed db (question_of query) c.args.edits.now c.args.cap)
    (passed_later query db c.args.edits.now c.args.cap c.in_ok-domain.domain c.in_ok-keep.keep c.in_ok-domain.ensures c.in_ok-keep.ensures.view c.in_ok-keep.ensures.limits) c.in_err-spots.field-0.0 c.in_err-spots.ensures.fault)
