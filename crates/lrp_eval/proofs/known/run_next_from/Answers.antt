-- The table of a part that is known stands after tables of none.
use Rattle.std.proofs.Common.{List, sym, subst}
use Rattle.lrp_tables.specs.declared.table.Table.{Table}
use Rattle.lrp_eval.specs.Running.{AreRun}
use Rattle.lrp_eval.proofs.LoopLaws.{together_run}
use Rattle.lrp_eval.proofs.Reading.{some_ok}
use Rattle.lrp_eval.proofs.known.run_next_from.Goals as goal

pub returns-in_ok-with_together-in-Ok-Some-clause-run : goal.returns-in_ok-with_together-in-Ok-Some-clause-run
returns-in_ok-with_together-in-Ok-Some-clause-run c = λ planned q h run.
    let db = c.args.resumed.now.database.now in
    let cap = c.args.setting.now.cap in
    let made = c.in_ok-with_together-in-Ok-Some.ensures in
    let together = some_ok _ _ _ c.in-Ok-Some.field-0-is c.in-Ok-Some.ensures.table planned q h c.args.tables (sym c.len.ensures) in
    subst (λ (ts : List Table). AreRun planned db q cap ts) (sym made.2)
    (together_run planned db q cap c.args.resumed.now.plan.now c.args.resumed.now.readers.now c.args.tables made.0 c.in-Ok-Some.together.table c.in-Ok-Some.together.between made.1 h c.requires.readers run together)
