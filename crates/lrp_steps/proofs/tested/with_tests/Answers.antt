-- Test after test is asked.
use Rattle.std.proofs.Common.{◌≡◌, ◌<◌, ◌≤◌, ◌+◌, length, take, get_or, subst, sym, ap, ◌∙◌, arith}
use Rattle.std.proofs.lemmas.List.{take_all}
use Rattle.lrp_model.specs.Reach.{test_reach}
use Rattle.lrp_steps.specs.Conditions.{CanBeAsked, IsWithTests, HasNoTests}
use Rattle.lrp_steps.proofs.AllTests.{all_there, front_more, test_within, tests_none, tests_more, tests_no, none_of_front}
use Rattle.lrp_steps.proofs.Conditioned.{matched_none, matched_some}
use Rattle.lrp_steps.proofs.tested.with_tests.Goals as goal

pub loop-test-init : goal.loop-test-init
loop-test-init c = tests_none c.args.domain.now c.args.vars.now.times c.args.vars.now.texts c.new-pattern.result c.new-pattern.ensures

pub with_test-requires : goal.with_test-requires
with_test-requires c =
    let low : c.loop-test.test-index < length c.args.tests.now = subst (λ l. c.loop-test.test-index < length l) c.as_slice-test-items.ensures c.loop-test-test.true in
    let is : c.test-item.result ≡ get_or c.args.tests.now c.loop-test.test-index c.test-item.result = c.test-item.is ∙ ap (λ l. get_or l c.loop-test.test-index c.test-item.result) c.as_slice-test-items.ensures in
    let can = all_there (CanBeAsked c.args.vars.now.times c.args.vars.now.texts) c.args.tests.now c.loop-test.test-index c.test-item.result low is c.requires.tests in
    record {
      few_times = c.requires.few_times;
      few_texts = c.requires.few_texts;
      known = c.loop-test.invariant.size;
      times = can.times_known;
      texts = can.texts_known;
      low = can.low;
      reach = (let h : test_reach c.test-item.result ≤ _ = test_within c.args.tests.now c.loop-test.test-index c.test-item.result low is in let r = c.requires.reach in omega (arith, h, r));
    }

pub loop-test-preserved : goal.loop-test-preserved
loop-test-preserved c =
    let low : c.loop-test.test-index < length c.args.tests.now = subst (λ l. c.loop-test.test-index < length l) c.as_slice-test-items.ensures c.loop-test-test.true in
    let is : c.test-item.result ≡ get_or c.args.tests.now c.loop-test.test-index c.test-item.result = c.test-item.is ∙ ap (λ l. get_or l c.loop-test.test-index c.test-item.result) c.as_slice-test-items.ensures in
    let w = matched_some _ _ _ _ c.in-Some.is c.in_ok-next.ensures in
    subst (λ l. IsWithTests c.args.domain.now c.args.vars.now.times c.args.vars.now.texts l c.in-Some.next) (sym (front_more c.args.tests.now c.loop-test.test-index c.test-item.result low is))
    (tests_more c.args.domain.now c.args.vars.now.times c.args.vars.now.texts (take c.loop-test.test-index c.args.tests.now) c.test-item.result c.loop-test.pattern c.loop-test.invariant c.in-Some.next w)

pub returns : goal.returns
returns c =
    let low : length c.args.tests.now ≤ c.loop-test.test-index = subst (λ l. length l ≤ c.loop-test.test-index) c.as_slice-test-items.ensures c.loop-test-test.false in
    subst (λ l. IsWithTests c.args.domain.now c.args.vars.now.times c.args.vars.now.texts l c.loop-test.pattern) (take_all c.loop-test.test-index c.args.tests.now low) c.loop-test.invariant

pub returns-in-None : goal.returns-in-None
returns-in-None c =
    let low : c.loop-test.test-index < length c.args.tests.now = subst (λ l. c.loop-test.test-index < length l) c.as_slice-test-items.ensures c.loop-test-test.true in
    let is : c.test-item.result ≡ get_or c.args.tests.now c.loop-test.test-index c.test-item.result = c.test-item.is ∙ ap (λ l. get_or l c.loop-test.test-index c.test-item.result) c.as_slice-test-items.ensures in
    let fails = matched_none _ _ _ c.in-None.is c.in_ok-next.ensures in
    none_of_front c.args.domain.now c.args.vars.now.times c.args.vars.now.texts c.args.tests.now (c.loop-test.test-index + 1)
    (subst (HasNoTests c.args.domain.now c.args.vars.now.times c.args.vars.now.texts) (sym (front_more c.args.tests.now c.loop-test.test-index c.test-item.result low is))
    (tests_no c.args.domain.now c.args.vars.now.times c.args.vars.now.texts (take c.loop-test.test-index c.args.tests.now) c.test-item.result c.loop-test.pattern c.loop-test.invariant fails))
