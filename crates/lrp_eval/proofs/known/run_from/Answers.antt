-- What the last step has, and that what is known stays so.
use Rattle.std.proofs.Common.{rules, ◌≡◌, Some, List, length, slice_get, subst, arith}
use Rattle.lrp_tables.specs.declared.table.Table.{Table}
use Rattle.lrp_eval.specs.Known.{AreKnownThen}
use Rattle.lrp_eval.specs.Running.{StandsAtHead}
use Rattle.lrp_eval.proofs.AnswerLaws.{has_answers}
use Rattle.lrp_eval.proofs.HeadedLaws.{headed_run}
use Rattle.lrp_eval.proofs.LoopLaws.{cause, last_run, next_here}
use Rattle.lrp_eval.proofs.known.run_from.Goals as goal

pub returns-then-is_headed-clause-table : goal.returns-then-is_headed-clause-table
returns-then-is_headed-clause-table c = λ planned q h.
    let db = c.args.resumed.now.database.now in
    let plan = c.args.resumed.now.plan.now in
    let cap = c.args.setting.now.cap in
    let tables = c.loop-number.tables in
    let stands : StandsAtHead plan.head.columns tables c.at.result.now.kind = subst (λ (ts : List Table). StandsAtHead plan.head.columns ts c.at.result.now.kind) c.as_slice.ensures (c.is_headed.ensures c.if-is_headed.true) in
    let place : c.loop-number.number ≡ length tables = omega (arith, c.if-number-len.false, c.len.ensures, c.loop-number.invariant.low) in
    has_answers planned db q plan h cap c.last_of.result
    (headed_run planned db q cap plan tables c.last_of.ensures.last.0 c.last_of.result c.at.result.now.kind c.at.result.now.period h
    (next_here planned db q cap plan tables c.at.result.now h (subst (λ i. slice_get plan.steps i ≡ Some c.at.result.now) place c.at.ensures) (c.loop-number.invariant.run planned q h))
    (subst (λ cs. StandsAtHead cs tables c.at.result.now.kind) h.is.head stands) (c.loop-number.invariant.run planned q h) c.last_of.ensures.last.1)
    c.last_of.ensures.valid

pub returns-in-Err-clause-fault : goal.returns-in-Err-clause-fault
returns-in-Err-clause-fault c = cause c.args.resumed.now.database.now c.args.resumed.now.plan.now c.args.setting.now.cap c.in-Err.fault (λ step e planned q h. c.in-Err.ensures.fault step e planned q h (c.loop-number.invariant.run planned q h))

pub returns-clause-table : goal.returns-clause-table
returns-clause-table c = λ planned q h.
    let db = c.args.resumed.now.database.now in
    let plan = c.args.resumed.now.plan.now in
    let cap = c.args.setting.now.cap in
    has_answers planned db q plan h cap c.last_of-2.result
    (last_run planned db q cap plan c.loop-number.tables c.last_of-2.ensures.last.0 c.last_of-2.result h
    (omega (arith, c.loop-number-test.false, c.loop-number.invariant.low, c.len-number-end.ensures)) c.loop-number.invariant.high
    (c.loop-number.invariant.run planned q h) c.last_of-2.ensures.last.1)
    c.last_of-2.ensures.valid

pub loop-number-preserved : goal.loop-number-preserved
loop-number-preserved c = record {
  low = search rules;
  high = search rules;
  run = search rules;
  known = λ planned q h.
      subst (λ (ts : List Table). AreKnownThen ts c.loop-number.made c.keep_last.new.made) c.as_slice-in-loop-number.ensures c.in-Ok-keep_last.ensures planned c.args.resumed.now.database.now q c.args.setting.now.cap (c.in-Ok.ensures.run planned q h (c.loop-number.invariant.run planned q h)) (c.loop-number.invariant.known planned q h);
}
