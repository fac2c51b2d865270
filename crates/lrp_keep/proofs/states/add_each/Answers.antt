-- The row is put into each disjunct.
use Rattle.std.proofs.Common.{◌≡◌, ◌<◌, length, subst, arith}
use Rattle.std.proofs.lemmas.List.{length-set}
use Rattle.lrp_parts.specs.Derivations.{ground_of}
use Rattle.lrp_parts.proofs.Parted.{set_here, set_there}
use Rattle.lrp_keep.proofs.EachDerived.{AreAddedBelow, all_added, none_added, one_added, stopped}
use Rattle.lrp_keep.proofs.Lists.{read_at}
use Rattle.lrp_keep.proofs.states.add_each.Goals as goal
use Rattle.lrp_store.proofs.Held.{Contains-from_get}

pub loop-number-init : goal.loop-number-init
loop-number-init c = none_added (ground_of c.args.setting.now) c.args.of.now.disjuncts.items c.args.key c.args.derived.now.items c.requires.old

pub add-requires-clause-can : goal.add-requires-clause-can
add-requires-clause-can c = c.requires.can c.loop-number.number c.index.result.now (read_at c.args.of.now.disjuncts.items c.loop-number.number c.index.result.now (omega (arith, c.loop-number-test.true, c.len-number-end.ensures)) c.index.ensures)

pub add-requires-clause-old : goal.add-requires-clause-old
add-requires-clause-old c =
    c.loop-number.invariant.rest c.loop-number.number c.index.result.now c.index_mut.result.now (omega arith)
    (read_at c.args.of.now.disjuncts.items c.loop-number.number c.index.result.now (omega (arith, c.loop-number-test.true, c.len-number-end.ensures)) c.index.ensures)
    (read_at c.loop-number.derived.items c.loop-number.number c.index_mut.result.now (omega (arith, c.loop-number-test.true, c.len-number-end.ensures, c.loop-number.invariant.size)) c.index_mut.ensures.value)

pub add-requires-clause-none : goal.add-requires-clause-none
add-requires-clause-none c =
    c.loop-number.invariant.none c.loop-number.number c.index_mut.result.now (omega arith)
    (read_at c.loop-number.derived.items c.loop-number.number c.index_mut.result.now (omega (arith, c.loop-number-test.true, c.len-number-end.ensures, c.loop-number.invariant.size)) c.index_mut.ensures.value)

pub loop-number-preserved : goal.loop-number-preserved
loop-number-preserved c =
    let low : c.loop-number.number < length c.loop-number.derived.items = omega (arith, c.loop-number-test.true, c.len-number-end.ensures, c.loop-number.invariant.size) in
    let all = c.loop-number.derived.items in
    one_added (ground_of c.args.setting.now) c.args.of.now.disjuncts.items c.args.key c.loop-number.number c.index.result.now all _ c.add.new.self
    (read_at c.args.of.now.disjuncts.items c.loop-number.number c.index.result.now (omega (arith, c.loop-number-test.true, c.len-number-end.ensures)) c.index.ensures)
    (set_here all c.loop-number.number c.add.new.self low) (λ i n. set_there all c.loop-number.number i c.add.new.self n) (length-set all c.loop-number.number c.add.new.self) c.loop-number.invariant c.in-Ok.ensures.derived

pub returns-in-Err-clause-others : goal.returns-in-Err-clause-others
returns-in-Err-clause-others c =
    let low : c.loop-number.number < length c.loop-number.derived.items = omega (arith, c.loop-number-test.true, c.len-number-end.ensures, c.loop-number.invariant.size) in
    let all = c.loop-number.derived.items in
    stopped (ground_of c.args.setting.now) c.args.of.now.disjuncts.items c.args.key c.loop-number.number c.index.result.now all _ c.add.new.self
    (read_at c.args.of.now.disjuncts.items c.loop-number.number c.index.result.now (omega (arith, c.loop-number-test.true, c.len-number-end.ensures)) c.index.ensures)
    (set_here all c.loop-number.number c.add.new.self low) (λ i n. set_there all c.loop-number.number i c.add.new.self n) (length-set all c.loop-number.number c.add.new.self) c.loop-number.invariant c.in-Err.ensures.others

pub returns-in-Err-clause-many : goal.returns-in-Err-clause-many
returns-in-Err-clause-many c = λ e. record {
  disjunct = c.index.result.now;
  listed = Contains-from_get c.args.of.now.disjuncts.items c.loop-number.number c.index.result.now (read_at c.args.of.now.disjuncts.items c.loop-number.number c.index.result.now (omega (arith, c.loop-number-test.true, c.len-number-end.ensures)) c.index.ensures);
  large = c.in-Err.ensures.many e;
}

pub returns-clause-derived : goal.returns-clause-derived
returns-clause-derived c =
    let end : c.loop-number.number ≡ length c.args.of.now.disjuncts.items = omega (arith, c.loop-number-test.false, c.loop-number.auto.number-end, c.len-number-end.ensures) in
    all_added (ground_of c.args.setting.now) c.args.of.now.disjuncts.items c.args.key c.loop-number.derived.items (subst (λ n. AreAddedBelow (ground_of c.args.setting.now) c.args.of.now.disjuncts.items c.args.key n c.loop-number.derived.items) end c.loop-number.invariant)
