-- One more table, and those that are done are given up.
use Rattle.std.proofs.Common.{Err, [], ◌∷◌, ◌++◌, suc, length, refl, sym, ap, subst, ◌∙◌}
use Rattle.lrp_model.specs.Caps.{ManyAt, IsFirstMany}
use Rattle.lrp_eval.proofs.FreeingLaws.{left_twice}
use Rattle.lrp_eval.proofs.GrowingLaws.{freed_more}
use Rattle.lrp_eval.proofs.LoopLaws.{first_many, left_run, more_run}
use Rattle.lrp_eval.proofs.evaluation.run_one.Goals as goal

pub returns-in-Err-clause-fault : goal.returns-in-Err-clause-fault
returns-in-Err-clause-fault c = λ step e planned q h run.
    let x = c.fault_after.ensures step e in
    let m : ManyAt planned c.args.database.now q c.args.setting.now.cap (suc (length c.args.tables)) = (c.run_growing.ensures.run planned q h run).many (c.in-Err.is ∙ ap Err x.0) in
    subst (λ k. IsFirstMany planned c.args.database.now q c.args.setting.now.cap k) (sym (x.1 ∙ ap suc c.len-count.ensures)) (first_many planned c.args.database.now q c.args.setting.now.cap c.args.tables run m)

pub returns-clause-run : goal.returns-clause-run
returns-clause-run c = λ planned q h run.
    left_run planned c.args.database.now q c.args.setting.now.cap c.args.plan.now c.args.readers.now (c.args.tables ++ c.in-Ok.table ∷ []) c.give_up.result h c.requires.readers
    (more_run planned c.args.database.now q c.args.setting.now.cap c.args.tables (c.args.tables ++ c.in-Ok.table ∷ []) c.in-Ok.table refl run (c.in-Ok.ensures.run planned q h run).table)
    (left_twice c.args.readers.now (c.args.tables ++ c.in-Ok.table ∷ []) c.push.new.self c.give_up.result (freed_more c.args.readers.now c.args.tables c.run_growing.new.tables c.push.new.self c.in-Ok.table c.run_growing.ensures.left c.in_ok-push-in-Ok.ensures.ok) c.give_up.ensures)
