use Rattle.std.proofs.Common.{◌≤◌, length, take, sym, subst, arith}
use Rattle.std.specs.Str.{bytes_eq}
use Rattle.std.specs.HashMap.{get}
use Rattle.lrp_model.specs.Rows.{relation_named}
use Rattle.lrp_plan.specs.Naming.{IsNamedAs}
use Rattle.lrp_plan.proofs.Names.{take_next, take_whole, all_named}
use Rattle.lrp_plan.proofs.KeptPeriods.{kept_low}
use Rattle.lrp_plan.proofs.naming.facts_by_name.Goals as goal

pub loop-i-preserved : goal.loop-i-preserved
loop-i-preserved c = λ name.
    subst (λ db. IsNamedAs (relation_named db name) (get bytes_eq c.name_one.new.facts name)) (sym (take_next c.args.database.now c.loop-i.i c.at.result.now c.at.ensures.value)) (c.in_ok-name_one.ensures (take c.loop-i.i c.args.database.now) c.loop-i.invariant name)

pub returns-clause-facts : goal.returns-clause-facts
returns-clause-facts c = λ name.
    let le : length c.args.database.now ≤ c.loop-i.i = omega (arith, c.relations-i-end.ensures.len, c.loop-i-test.false) in
    all_named c.args.database.now (get bytes_eq c.loop-i.facts) (λ n. subst (λ db. IsNamedAs (relation_named db n) (get bytes_eq c.loop-i.facts n)) (take_whole c.args.database.now c.loop-i.i le) (c.loop-i.invariant n)) name

pub returns-clause-periods : goal.returns-clause-periods
returns-clause-periods c = kept_low c.args.database.now c.relations-i-end.ensures.kept.each
