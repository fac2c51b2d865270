-- What the evaluation tells of the plan, and what is kept of it.
use Rattle.std.proofs.Common.{List, refl, sym, subst}
use Rattle.lrp_eval.specs.Known.{AreKnownOver}
use Rattle.lrp_eval.specs.Planned.{IsEvalCause}
use Rattle.lrp_eval.specs.declared.known.PartTable.{PartTable}
use Rattle.lrp_model.specs.Formulas.{question_of}
use Rattle.lrp_plan_laws.specs.GuardedPlans.{plan_by}
use Rattle.lrp_watch.proofs.KeptParts.{kept_over}
use Rattle.lrp_watch.proofs.Renewals.{small_answer}
use Rattle.lrp_watch.proofs.anew.Renewed.renewal.Goals as goal

pub answer_from-requires : goal.answer_from-requires
answer_from-requires c =
    let q = question_of c.args.self.now.query.now in
    record {
      plan = record { planned = plan_by c.args.self.now.anew.planning c.args.turn.now.database.now q; query = q; is = c.in_ok-plan.ensures.plan };
      known = subst (λ (ts : List PartTable). AreKnownOver c.args.turn.now.database.now c.in_ok-plan.plan c.args.self.now.anew.cap ts) (sym c.as_slice-2.ensures) (c.in_ok-known.ensures c.args.turn.now.database.now c.args.self.now.anew.cap c.requires.kept);
    }

pub returns-in-Ok-clause-room : goal.returns-in-Ok-clause-room
returns-in-Ok-clause-room c =
    let q = question_of c.args.self.now.query.now in
    let db = c.args.turn.now.database.now in
    let steps = plan_by c.args.self.now.anew.planning db q in
    let planned = c.in_ok-plan.ensures.plan in
    c.small_answers_have_room.ensures c.in-Ok.made.answer _ (small_answer steps db q c.args.self.now.anew.cap c.in-Ok.made.answer (c.in-Ok.ensures.answer steps q planned) planned.reach planned.sound)

pub returns-in-Ok-clause-kept : goal.returns-in-Ok-clause-kept
returns-in-Ok-clause-kept c =
    let q = question_of c.args.self.now.query.now in
    let db = c.args.turn.now.database.now in
    kept_over c.args.self.now.anew.cap db c.in_ok-plan.plan c.in_ok-known.known c.in-Ok.made.tables _ _ (record { planned = plan_by c.args.self.now.anew.planning db q; query = q; is = c.in_ok-plan.ensures.plan }) (c.in_ok-known.ensures db c.args.self.now.anew.cap c.requires.kept) c.in-Ok.ensures.tables c.in_ok-kept-in-Ok.ensures

pub returns-in-Err-TooManyCells-clause-fault : goal.returns-in-Err-TooManyCells-clause-fault
returns-in-Err-TooManyCells-clause-fault c =
    let q = question_of c.args.self.now.query.now in
    let db = c.args.turn.now.database.now in
    let steps = plan_by c.args.self.now.anew.planning db q in
    let planned = c.in_ok-plan.ensures.plan in
    let first = (subst (λ fault. IsEvalCause db c.in_ok-plan.plan c.args.self.now.anew.cap fault) c.in-Err-TooManyCells.field-0-is c.in-Err-TooManyCells.ensures.fault) steps q planned in
    (refl, (record { period = planned.period; reach = planned.reach }, (_, first)))
