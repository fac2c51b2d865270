-- What the last step has.
use Rattle.std.proofs.Common.{◌≡◌, Some, List, length, slice_get, subst, arith}
use Rattle.lrp_tables.specs.declared.table.Table.{Table}
use Rattle.lrp_eval.specs.Running.{StandsAtHead}
use Rattle.lrp_eval.proofs.AnswerLaws.{has_answers}
use Rattle.lrp_eval.proofs.HeadedLaws.{headed_run}
use Rattle.lrp_eval.proofs.LoopLaws.{cause, last_run, next_here}
use Rattle.lrp_eval.proofs.endings.run_ending.Goals as goal

pub returns-then-is_headed-clause-ending : goal.returns-then-is_headed-clause-ending
returns-then-is_headed-clause-ending c = λ planned q h.
    let stands : StandsAtHead c.args.plan.now.head.columns c.loop-number.tables c.at.result.now.kind = subst (λ (ts : List Table). StandsAtHead c.args.plan.now.head.columns ts c.at.result.now.kind) c.as_slice-in-loop-number-2.ensures (c.is_headed.ensures c.if-is_headed.true) in
    let place : c.loop-number.number ≡ length c.loop-number.tables = omega (arith, c.if-number-len.false, c.len.ensures, c.loop-number.invariant.low) in (
      c.last_of.ensures.valid,
      has_answers planned c.args.database.now q c.args.plan.now h c.args.cap c.last_of.result
          (headed_run planned c.args.database.now q c.args.cap c.args.plan.now c.loop-number.tables c.last_of.ensures.last.0 c.last_of.result c.at.result.now.kind c.at.result.now.period h
          (next_here planned c.args.database.now q c.args.cap c.args.plan.now c.loop-number.tables c.at.result.now h (subst (λ i. slice_get c.args.plan.now.steps i ≡ Some c.at.result.now) place c.at.ensures) (c.loop-number.invariant.run planned q h))
          (subst (λ cs. StandsAtHead cs c.loop-number.tables c.at.result.now.kind) h.is.head stands) (c.loop-number.invariant.run planned q h) c.last_of.ensures.last.1)
          c.last_of.ensures.valid,
    )

pub returns-in-Err-clause-fault : goal.returns-in-Err-clause-fault
returns-in-Err-clause-fault c = cause c.args.database.now c.args.plan.now c.args.cap c.in-Err.fault (λ step e planned q h. c.in-Err.ensures.fault step e planned q h (c.loop-number.invariant.run planned q h))

pub returns-clause-ending : goal.returns-clause-ending
returns-clause-ending c = λ planned q h. (
  c.last_of-2.ensures.valid,
  has_answers planned c.args.database.now q c.args.plan.now h c.args.cap c.last_of-2.result
      (last_run planned c.args.database.now q c.args.cap c.args.plan.now c.loop-number.tables c.last_of-2.ensures.last.0 c.last_of-2.result h
      (omega (arith, c.loop-number-test.false, c.loop-number.invariant.low, c.len-number-end.ensures)) c.loop-number.invariant.high
      (c.loop-number.invariant.run planned q h) c.last_of-2.ensures.last.1)
      c.last_of-2.ensures.valid,
)
