use Rattle.std.proofs.Common.{◌≡◌, ◌<◌, ◌≤◌, [], get_or, length, map, Some, None, not, refl, sym, ap, subst, ◌∙◌, arith, rules}
use Rattle.lrp_core.specs.Cores.{core_of, cores_of}
use Rattle.lrp_core.specs.FreeVariables.{variable_of}
use Rattle.lrp_core.proofs.CoreViews.{core_of-And, core_of-Or}
use Rattle.lrp_guarded.specs.Building.{FollowsIn}
use Rattle.lrp_guarded.specs.Standing.{turned_so_often}
use Rattle.lrp_model.specs.Formulas.{conjunction, disjunction, negation}
use Rattle.lrp_plan.proofs.FirstTrees.{tree_there}
use Rattle.lrp_guarded.proofs.Built.{inner_built, closed_built, closed_known, known_of, disjunction_ends, negation_ends}
use Rattle.lrp_guarded.proofs.Stepped.{positive_made, negative_made, member_made}
use Rattle.lrp_guarded.proofs.Turning.{other_past, negation_past, other_taken, negation_taken, other_stands, negation_stands, get_found, more_turns}
use Rattle.lrp_guarded.proofs.Wholly.{all_built, alone_built, none_so_far, one_more_member, members_built}
use Rattle.lrp_guarded.proofs.builder.+building.Goals as goal

pub build-returns-in-And : goal.build-returns-in-And
build-returns-in-And t c =
    inner_built c.build_all.result c.args.inner.now (core_of c.args.core.now) (conjunction (cores_of c.deref.result.now)) (map variable_of c.args.within.block) c.args.within.guard c.args.making.now c.build_all.new.making (ap core_of c.in-And.is ∙ core_of-And c.in-And.of ∙ ap (λ xs. conjunction (cores_of xs)) (sym c.deref.ensures.value)) c.build_all.ensures

pub build-returns-in-Or : goal.build-returns-in-Or
build-returns-in-Or t c =
    inner_built c.build_some.result c.args.inner.now (core_of c.args.core.now) (disjunction (cores_of c.deref-in-Or.result.now)) (map variable_of c.args.within.block) c.args.within.guard c.args.making.now c.build_some.new.making (ap core_of c.in-Or.is ∙ core_of-Or c.in-Or.of ∙ ap (λ xs. disjunction (cores_of xs)) (sym c.deref-in-Or.ensures.value)) c.build_some.ensures

pub build_all-returns : goal.build_all-returns
build_all-returns t c =
    all_built c.drop_block.result c.args.inner.now c.args.of.now c.args.within.block c.into_parts-block.result.0 c.into_end-block.result.1 c.args.within.guard c.into_parts-block.result.1 c.args.making.now c.begin.new.making c.take_each.new.making c.drop_block.new.self
    c.in_ok-left.left c.in_ok-standing.standing c.begin.new.self c.take_each.new.standing c.in_ok-count.count c.into_end-block.result.0
    c.into_parts-block.ensures.block c.into_parts-block.ensures.guard c.in_ok-left.ensures c.in_ok-standing.ensures c.in_ok-begin.ensures c.in_ok-count.ensures c.in_ok-take_each.ensures c.into_end-block.ensures.result c.into_end-block.ensures.block c.drop_block.ensures

pub build_alone-returns : goal.build_alone-returns
build_alone-returns t c =
    alone_built c.build_element.result (core_of c.args.of.now) c.new.result c.args.guard c.args.making.now c.build_element.new.making c.none.result c.in_ok-standing.standing c.build_element.new.standing c.new.ensures
    c.none.ensures.atoms c.none.ensures.sorts c.none.ensures.others c.none.ensures.tests c.none.ensures.negations c.in_ok-standing.ensures (known_of _ _ c.build_element.result c.in_ok-tree.ensures c.build_element.ensures)

pub build_denial-returns : goal.build_denial-returns
build_denial-returns t c =
    closed_built c.drop_block.result (negation (core_of c.args.of.now)) (map variable_of c.args.within.block) (map variable_of c.into_parts-block.result.0) c.args.within.guard c.into_parts-block.result.1 c.args.making.now c.build_alone.new.making c.drop_block.new.self
    (negation_ends (core_of c.args.of.now)) (ap (map variable_of) c.into_parts-block.ensures.block) c.into_parts-block.ensures.guard c.in_ok-build_alone.ensures c.drop_block.ensures

pub build_element-returns-in-Positive : goal.build_element-returns-in-Positive
build_element-returns-in-Positive t c =
    positive_made (core_of c.args.core.now) c.args.tree.now c.args.role c.prepare.new.making c.guard_of.new.making c.build.new.making c.args.making.now c.take_up.new.making c.prepare.new.standing c.args.standing.now c.take_up.new.self c.in_ok-guard.guard c.new-within.result.guard c.as_slice-variables.result.now c.new-within.result.block c.deref.result.now
    c.take_up.result c.is_step.result c.in-Positive.is c.as_slice-variables.ensures c.deref.ensures.value c.in_ok-prepare.ensures c.in_ok-guard.ensures c.new-within.ensures.guard c.new-within.ensures.block c.in_ok-build.ensures c.is_step.ensures c.take_up.ensures

pub build_element-returns-in-Negation : goal.build_element-returns-in-Negation
build_element-returns-in-Negation t c =
    negative_made (core_of c.args.core.now) c.args.tree.now c.args.role c.prepare.new.making c.guard_of.new.making c.build.new.making c.args.making.now c.take_off.new.making c.prepare.new.standing c.args.standing.now c.take_off.new.self c.in_ok-guard.guard c.new-within.result.guard c.as_slice-variables.result.now c.new-within.result.block c.deref.result.now
    c.take_off.result c.in-Negation.is c.as_slice-variables.ensures c.deref.ensures.value c.in_ok-prepare.ensures c.in_ok-guard.ensures c.new-within.ensures.guard c.new-within.ensures.block c.in_ok-build.ensures c.take_off.ensures

pub build_member-returns : goal.build_member-returns
build_member-returns t c =
    member_made c.join_guard.result (core_of c.args.core.now) c.args.tree.now c.args.making.now c.own_guard.new.making c.build.new.making c.join_guard.new.making c.args.guard c.in_ok-own.own c.new-within.result.guard c.as_slice.result.now c.new-within.result.block c.deref.result.now
    c.as_slice.ensures c.deref.ensures.value c.in_ok-own.ensures c.new-within.ensures.guard c.new-within.ensures.block c.in_ok-build.ensures c.join_guard.ensures

pub build_members-loop-index-init : goal.build_members-loop-index-init
build_members-loop-index-init t c = λ known. none_so_far c.args.guard c.args.making.now

pub build_members-loop-index-preserved : goal.build_members-loop-index-preserved
build_members-loop-index-preserved t c = λ known.
    let own = tree_there c.args.inner.now c.args.of.now c.loop-index.index c.index-of-index.result known c.loop-index-test.true c.index-of-index.is in
    one_more_member c.args.of.now c.loop-index.index c.index-of-index.result c.args.guard c.args.making.now c.loop-index.making c.build_member_at.new.making c.unite.new.making c.loop-index.left (omega (arith, c.loop-index-test.true)) c.index-of-index.is (c.loop-index.invariant known)
    (c.in_ok-build_member_at.ensures own.0 own.1 own.2) c.in_ok-unite.ensures

pub build_members-returns : goal.build_members-returns
build_members-returns t c = members_built c.args.inner.now c.args.of.now c.loop-index.index c.args.guard c.loop-index.left c.args.making.now c.loop-index.making c.loop-index-test.false c.loop-index.invariant

pub build_some-returns : goal.build_some-returns
build_some-returns t c =
    closed_known c.drop_block.result c.args.inner.now (disjunction (cores_of c.args.of.now)) (map variable_of c.args.within.block) (map variable_of c.into_parts-block.result.0) c.args.within.guard c.into_parts-block.result.1 c.args.making.now c.build_members.new.making c.drop_block.new.self
    (disjunction_ends (cores_of c.args.of.now)) (ap (map variable_of) c.into_parts-block.ensures.block) c.into_parts-block.ensures.guard c.in_ok-build_members.ensures c.drop_block.ensures

pub take_each-loop-turn-preserved : goal.take_each-loop-turn-preserved
take_each-loop-turn-preserved t c = more_turns c.args.of.now c.loop-turn._turn c.args.making.now c.loop-turn.making c.take_next.new.making c.args.standing.now c.loop-turn.standing c.take_next.new.standing c.loop-turn.invariant c.in_ok-take_next.ensures

pub take_each-returns : goal.take_each-returns
take_each-returns t c =
    let all : c.loop-turn._turn ≡ c.args.count = omega (arith, c.loop-turn-test.false, c.loop-turn.auto._turn-end) in
    subst (λ n. FollowsIn c.args.of.now (λ over at. turned_so_often over n at) c.args.making.now c.loop-turn.making c.args.standing.now c.loop-turn.standing) all c.loop-turn.invariant

pub take_negation-returns-in_ok-build_denied : goal.take_negation-returns-in_ok-build_denied
take_negation-returns-in_ok-build_denied t c =
    let xs = c.args.standing.now.left.negations.items in
    let l : c.len.result ≡ length xs = search rules in
    let there = get_found xs c.args.index c.remove-part.result (let y = c.if-index-len.true in omega (arith, y, l)) c.remove-part.ensures.value in
    negation_taken c.args.of.now c.args.index c.args.making.now c.args.standing.now c.remove-part.result c.index-of-part.result c.build_denied.new.making c.remove-part.new.self c.build_denied.new.standing
    there (get_found c.args.of.now c.remove-part.result.index c.index-of-part.result c.if-part-of.true c.index-of-part.is) c.remove-part.ensures.items c.in_ok-build_denied.ensures

pub take_negation-returns-else-part-of : goal.take_negation-returns-else-part-of
take_negation-returns-else-part-of t c = record {
  follows = λ over K at st.
      let xs = c.args.standing.now.left.negations.items in
      let l : c.len.result ≡ length xs = search rules in
      let there = get_found xs c.args.index c.remove-part.result (let y = c.if-index-len.true in omega (arith, y, l)) c.remove-part.ensures.value in
      let lt : c.remove-part.result.index < length c.args.of.now = negation_stands over K c.args.of.now xs at.negations c.args.index c.remove-part.result st.standing.left.negations there in
      let le = c.if-part-of.false in
      absurd (omega (arith, lt, le));
}

pub take_negation-returns-else-index-len : goal.take_negation-returns-else-index-len
take_negation-returns-else-index-len t c =
    let l : c.len.result ≡ length c.args.standing.now.left.negations.items = search rules in
    negation_past c.args.of.now c.args.index c.args.making.now c.args.standing.now (let y = c.if-index-len.false in omega (arith, y, l))

pub take_part-returns-in_ok-build_element : goal.take_part-returns-in_ok-build_element
take_part-returns-in_ok-build_element t c =
    let xs = c.args.standing.now.left.others.items in
    let l : c.len.result ≡ length xs = search rules in
    let there = get_found xs c.args.index c.remove-part.result (let y = c.if-index-len.true in omega (arith, y, l)) c.remove-part.ensures.value in
    other_taken c.args.of.now c.args.index c.args.making.now c.args.standing.now c.remove-part.result c.index-of-part.result c.build_element.new.making c.remove-part.new.self c.build_element.new.standing
    there (get_found c.args.of.now c.remove-part.result.index c.index-of-part.result c.if-part-of.true c.index-of-part.is) c.remove-part.ensures.items c.in_ok-build_element.ensures

pub take_part-returns-else-part-of : goal.take_part-returns-else-part-of
take_part-returns-else-part-of t c = record {
  follows = λ over K at st.
      let xs = c.args.standing.now.left.others.items in
      let l : c.len.result ≡ length xs = search rules in
      let there = get_found xs c.args.index c.remove-part.result (let y = c.if-index-len.true in omega (arith, y, l)) c.remove-part.ensures.value in
      let lt : c.remove-part.result.index < length c.args.of.now = other_stands over K c.args.of.now xs at.others c.args.index c.remove-part.result st.standing.left.others there in
      let le = c.if-part-of.false in
      absurd (omega (arith, lt, le));
}

pub take_part-returns-else-index-len : goal.take_part-returns-else-index-len
take_part-returns-else-index-len t c =
    let l : c.len.result ≡ length c.args.standing.now.left.others.items = search rules in
    other_past c.args.of.now c.args.index c.args.making.now c.args.standing.now (let y = c.if-index-len.false in omega (arith, y, l))
