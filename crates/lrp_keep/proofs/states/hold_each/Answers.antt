-- The relations are filled one after another.
use Rattle.std.proofs.Common.{◌≡◌, ◌<◌, length, subst, arith}
use Rattle.lrp_keep.specs.States.{AreAllHeld}
use Rattle.lrp_keep.proofs.Filling.{none_held, one_held}
use Rattle.lrp_keep.proofs.states.hold_each.Goals as goal

pub loop-i-init : goal.loop-i-init
loop-i-init c = none_held c.args.of.now c.args.database.now c.args.rows.now c.requires.held c.requires.none

pub hold_all-requires-clause-number : goal.hold_all-requires-clause-number
hold_all-requires-clause-number c = omega (arith, c.loop-i-test.true, c.relations-i-end.ensures.len, c.requires.size, c.loop-i.invariant.count)

pub hold_all-requires-clause-held : goal.hold_all-requires-clause-held
hold_all-requires-clause-held c = c.loop-i.invariant.held

pub hold_all-requires-clause-can : goal.hold_all-requires-clause-can
hold_all-requires-clause-can c = c.requires.can c.loop-i.i c.at.result.now c.at.ensures.value

pub loop-i-preserved : goal.loop-i-preserved
loop-i-preserved c =
    let low : c.loop-i.i < length c.args.rows.now.relations.items = omega (arith, c.loop-i-test.true, c.relations-i-end.ensures.len, c.requires.size) in
    one_held c.args.of.now c.args.database.now c.loop-i.i c.at.result.now c.args.rows.now c.loop-i.rows c.hold_all.new.rows c.at.ensures.value c.requires.none low c.loop-i.invariant c.in_ok-hold_all.ensures

pub returns : goal.returns
returns c =
    let whole : c.loop-i.i ≡ length c.args.database.now = omega (arith, c.loop-i-test.false, c.loop-i.auto.i-end, c.relations-i-end.ensures.len) in
    subst (λ n. AreAllHeld c.args.of.now c.args.database.now n c.args.rows.now c.loop-i.rows) whole c.loop-i.invariant
