-- The table of some steps that were run together stands after tables of none.
use Rattle.std.proofs.Common.{List, sym, subst}
use Rattle.lrp_tables.specs.declared.table.Table.{Table}
use Rattle.lrp_eval.specs.Running.{AreRun}
use Rattle.lrp_eval.specs.Together.{AreRunTogether}
use Rattle.lrp_eval.proofs.LoopLaws.{together_run}
use Rattle.lrp_eval.proofs.evaluation.run_next.Goals as goal

pub returns-in_ok-with_together-in-Ok-clause-run : goal.returns-in_ok-with_together-in-Ok-clause-run
returns-in_ok-with_together-in-Ok-clause-run c = λ planned q h run.
    let made = c.in_ok-with_together-in-Ok.ensures in
    let together = c.in-Ok.ensures.table planned q h (subst (λ (ts : List Table). AreRun planned c.args.database.now q c.args.setting.now.cap ts) (sym c.as_slice.ensures) run) in
    subst (λ (ts : List Table). AreRun planned c.args.database.now q c.args.setting.now.cap ts) (sym made.2)
    (together_run planned c.args.database.now q c.args.setting.now.cap c.args.plan.now c.args.readers.now c.args.tables made.0 c.in-Ok.together.table c.in-Ok.together.between made.1 h c.requires.readers run
    (subst (λ (ts : List Table). AreRunTogether planned c.args.database.now q c.args.setting.now.cap c.args.readers.now ts c.in-Ok.together.between c.in-Ok.together.table) c.as_slice.ensures together))
