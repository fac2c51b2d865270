-- The store holds what passes the test.
use Rattle.std.proofs.Common.{◌≤◌, ◌^◌, ◌++◌, Err, refl, sym, ap, subst, ◌∙◌, length, [], to_z, of_z}
use Rattle.std.specs.Prelude.{nat_abs, pos, ◌≤ℤ◌, MatchOption, AllPairs, ◌≢◌}
use Rattle.std.specs.Int.{w64}
use Rattle.lrp_model.specs.declared.tuples.Shape.{Shape}
use Rattle.lrp_store.specs.Stores.{StoreView}
use Rattle.lrp_tables.specs.Calls.{test_period}
use Rattle.lrp_tables.specs.Columns.{times_of_test, texts_of_test, test_times, test_names}
use Rattle.lrp_tables.specs.Tables.{AreNamesAmong}
use Rattle.lrp_tables.proofs.Joining.{in_joint_right}
use Rattle.lrp_steps.specs.Conditions.{IsWithTest, HasNoTest}
use Rattle.lrp_steps.specs.declared.pattern.Pattern.{Pattern}
use Rattle.lrp_steps.proofs.Steps.{farther, fresh_by}
use Rattle.lrp_steps.proofs.Leaves.{test_few_times, test_few_texts, test_names_differ, period_high, word_low, word_high, test_word, no_table, no_few, no_reach, leaf_fits, leaf_table, leaf_few, leaf_reach, leaf_shape, leaf_many}
use Rattle.lrp_steps.proofs.test_tables.leaf.Goals as goal

pub store_over-out-requires : goal.store_over-out-requires
store_over-out-requires c =
    record {
      times = subst (λ l. length l ≤ 8) (sym c.in_ok-vars.ensures.times) (test_few_times c.args.test.now);
      texts = subst (λ l. length l ≤ 8) (sym c.in_ok-vars.ensures.texts) (test_few_texts c.args.test.now);
      low = word_low c.period_of.result (subst (λ z. pos 1 ≤ℤ z) (sym c.period_of.ensures) c.requires.low) (subst (λ z. z ≤ℤ pos (2 ^ 62)) (sym c.period_of.ensures) (period_high c.args.test.now c.requires.reach));
      high = word_high c.period_of.result (subst (λ z. pos 1 ≤ℤ z) (sym c.period_of.ensures) c.requires.low) (subst (λ z. z ≤ℤ pos (2 ^ 62)) (sym c.period_of.ensures) (period_high c.args.test.now c.requires.reach));
    }

pub with_test-requires : goal.with_test-requires
with_test-requires c =
    record {
      few_times = subst (λ l. length l ≤ 8) (sym c.in_ok-vars.ensures.times) (test_few_times c.args.test.now);
      few_texts = subst (λ l. length l ≤ 8) (sym c.in_ok-vars.ensures.texts) (test_few_texts c.args.test.now);
      known = ap (λ (p : Pattern). length p.texts) c.new-all.ensures;
      times = subst (λ l. AreNamesAmong (times_of_test c.args.test.now) l) (sym c.in_ok-vars.ensures.times) (in_joint_right [] (times_of_test c.args.test.now));
      texts = subst (λ l. AreNamesAmong (texts_of_test c.args.test.now) l) (sym c.in_ok-vars.ensures.texts) (in_joint_right [] (texts_of_test c.args.test.now));
      low = c.requires.low;
      reach = c.requires.reach;
    }

pub add_pattern-requires : goal.add_pattern-requires
add_pattern-requires c =
    let fresh = fresh_by c.store_over-out.result c.in_ok-vars.vars.times (test_times c.args.test.now) c.in_ok-vars.vars.texts (test_names c.args.test.now) (nat_abs (to_z w64 (of_z w64 c.period_of.result))) (nat_abs (test_period c.args.test.now)) c.store_over-out.ensures.made c.in_ok-vars.ensures.times c.in_ok-vars.ensures.texts (test_word c.args.test.now c.period_of.result c.requires.low c.requires.reach c.period_of.ensures) in
    let w : IsWithTest c.args.setting.now.domain.now (test_times c.args.test.now) (test_names c.args.test.now) c.args.test.now c.new-all.result c.in-Some.pattern = subst (λ l. IsWithTest c.args.setting.now.domain.now l (test_names c.args.test.now) c.args.test.now c.new-all.result c.in-Some.pattern) c.in_ok-vars.ensures.times (subst (λ l. IsWithTest c.args.setting.now.domain.now c.in_ok-vars.vars.times l c.args.test.now c.new-all.result c.in-Some.pattern) c.in_ok-vars.ensures.texts (subst (λ o. MatchOption o (HasNoTest c.args.setting.now.domain.now c.in_ok-vars.vars.times c.in_ok-vars.vars.texts c.args.test.now c.new-all.result) (IsWithTest c.args.setting.now.domain.now c.in_ok-vars.vars.times c.in_ok-vars.vars.texts c.args.test.now c.new-all.result)) c.in-Some.is c.in_ok-pattern.ensures)) in
    record { fits = leaf_fits c.args.setting.now.domain.now c.len-size.ensures.ascending c.args.test.now c.requires.low c.new-all.result c.new-all.ensures c.len-size.result c.len-size.ensures.count c.args.setting.now.cap c.store_over-out.result fresh c.in-Some.pattern w; known = w.size }

pub invariant_of-result : goal.invariant_of-result
invariant_of-result c =
    record {
      times_named = sym (ap (λ (s : StoreView). s.shape.times) c.store_over-out.ensures.made);
      texts_named = sym (ap (λ (s : StoreView). s.shape.texts) c.store_over-out.ensures.made);
      names_differ = subst (λ l. AllPairs ◌≢◌ (l ++ c.in_ok-vars.vars.texts)) (sym c.in_ok-vars.ensures.times) (subst (λ l. AllPairs ◌≢◌ (test_times c.args.test.now ++ l)) (sym c.in_ok-vars.ensures.texts) (test_names_differ c.args.test.now));
    }

pub invariant_of-result-in-Ok : goal.invariant_of-result-in-Ok
invariant_of-result-in-Ok c =
    let fresh = fresh_by c.store_over-out.result c.in_ok-vars.vars.times (test_times c.args.test.now) c.in_ok-vars.vars.texts (test_names c.args.test.now) (nat_abs (to_z w64 (of_z w64 c.period_of.result))) (nat_abs (test_period c.args.test.now)) c.store_over-out.ensures.made c.in_ok-vars.ensures.times c.in_ok-vars.ensures.texts (test_word c.args.test.now c.period_of.result c.requires.low c.requires.reach c.period_of.ensures) in
    let w : IsWithTest c.args.setting.now.domain.now (test_times c.args.test.now) (test_names c.args.test.now) c.args.test.now c.new-all.result c.in-Some.pattern = subst (λ l. IsWithTest c.args.setting.now.domain.now l (test_names c.args.test.now) c.args.test.now c.new-all.result c.in-Some.pattern) c.in_ok-vars.ensures.times (subst (λ l. IsWithTest c.args.setting.now.domain.now c.in_ok-vars.vars.times l c.args.test.now c.new-all.result c.in-Some.pattern) c.in_ok-vars.ensures.texts (subst (λ o. MatchOption o (HasNoTest c.args.setting.now.domain.now c.in_ok-vars.vars.times c.in_ok-vars.vars.texts c.args.test.now c.new-all.result) (IsWithTest c.args.setting.now.domain.now c.in_ok-vars.vars.times c.in_ok-vars.vars.texts c.args.test.now c.new-all.result)) c.in-Some.is c.in_ok-pattern.ensures)) in
    let shape = leaf_shape c.args.setting.now.domain.now c.len-size.ensures.ascending c.args.test.now c.requires.low c.new-all.result c.new-all.ensures c.len-size.result c.len-size.ensures.count c.args.setting.now.cap c.store_over-out.result fresh c.in-Some.pattern w c.add_pattern.new.out c.in-Ok.ensures.ok in
    record {
      times_named = ap length c.in_ok-vars.ensures.times ∙ sym (ap (λ (q : Shape). q.times) shape);
      texts_named = ap length c.in_ok-vars.ensures.texts ∙ sym (ap (λ (q : Shape). q.texts) shape);
      names_differ = subst (λ l. AllPairs ◌≢◌ (l ++ c.in_ok-vars.vars.texts)) (sym c.in_ok-vars.ensures.times) (subst (λ l. AllPairs ◌≢◌ (test_times c.args.test.now ++ l)) (sym c.in_ok-vars.ensures.texts) (test_names_differ c.args.test.now));
    }

pub returns-in-Ok : goal.returns-in-Ok
returns-in-Ok c =
    let fresh = fresh_by c.store_over-out.result c.in_ok-vars.vars.times (test_times c.args.test.now) c.in_ok-vars.vars.texts (test_names c.args.test.now) (nat_abs (to_z w64 (of_z w64 c.period_of.result))) (nat_abs (test_period c.args.test.now)) c.store_over-out.ensures.made c.in_ok-vars.ensures.times c.in_ok-vars.ensures.texts (test_word c.args.test.now c.period_of.result c.requires.low c.requires.reach c.period_of.ensures) in
    let w : IsWithTest c.args.setting.now.domain.now (test_times c.args.test.now) (test_names c.args.test.now) c.args.test.now c.new-all.result c.in-Some.pattern = subst (λ l. IsWithTest c.args.setting.now.domain.now l (test_names c.args.test.now) c.args.test.now c.new-all.result c.in-Some.pattern) c.in_ok-vars.ensures.times (subst (λ l. IsWithTest c.args.setting.now.domain.now c.in_ok-vars.vars.times l c.args.test.now c.new-all.result c.in-Some.pattern) c.in_ok-vars.ensures.texts (subst (λ o. MatchOption o (HasNoTest c.args.setting.now.domain.now c.in_ok-vars.vars.times c.in_ok-vars.vars.texts c.args.test.now c.new-all.result) (IsWithTest c.args.setting.now.domain.now c.in_ok-vars.vars.times c.in_ok-vars.vars.texts c.args.test.now c.new-all.result)) c.in-Some.is c.in_ok-pattern.ensures)) in
    record {
      table = leaf_table c.args.setting.now.domain.now c.len-size.ensures.ascending c.args.test.now c.requires.low c.new-all.result c.new-all.ensures c.len-size.result c.len-size.ensures.count c.args.setting.now.cap c.store_over-out.result fresh c.in-Some.pattern w c.add_pattern.new.out c.in-Ok.ensures.ok _ c.in_ok-vars.ensures.times c.in_ok-vars.ensures.texts refl;
      reach = λ high h. farther _ _ high h (leaf_reach c.args.setting.now.domain.now c.len-size.ensures.ascending c.args.test.now c.requires.low c.new-all.result c.new-all.ensures c.len-size.result c.len-size.ensures.count c.args.setting.now.cap c.store_over-out.result fresh c.in-Some.pattern w c.add_pattern.new.out c.in-Ok.ensures.ok);
      few = leaf_few c.args.setting.now.domain.now c.len-size.ensures.ascending c.args.test.now c.requires.low c.new-all.result c.new-all.ensures c.len-size.result c.len-size.ensures.count c.args.setting.now.cap c.store_over-out.result fresh c.in-Some.pattern w c.add_pattern.new.out c.in-Ok.ensures.ok;
      many = λ e. cc;
    }

pub returns-in-Err-TooManyCells : goal.returns-in-Err-TooManyCells
returns-in-Err-TooManyCells c =
    let fresh = fresh_by c.store_over-out.result c.in_ok-vars.vars.times (test_times c.args.test.now) c.in_ok-vars.vars.texts (test_names c.args.test.now) (nat_abs (to_z w64 (of_z w64 c.period_of.result))) (nat_abs (test_period c.args.test.now)) c.store_over-out.ensures.made c.in_ok-vars.ensures.times c.in_ok-vars.ensures.texts (test_word c.args.test.now c.period_of.result c.requires.low c.requires.reach c.period_of.ensures) in
    let w : IsWithTest c.args.setting.now.domain.now (test_times c.args.test.now) (test_names c.args.test.now) c.args.test.now c.new-all.result c.in-Some.pattern = subst (λ l. IsWithTest c.args.setting.now.domain.now l (test_names c.args.test.now) c.args.test.now c.new-all.result c.in-Some.pattern) c.in_ok-vars.ensures.times (subst (λ l. IsWithTest c.args.setting.now.domain.now c.in_ok-vars.vars.times l c.args.test.now c.new-all.result c.in-Some.pattern) c.in_ok-vars.ensures.texts (subst (λ o. MatchOption o (HasNoTest c.args.setting.now.domain.now c.in_ok-vars.vars.times c.in_ok-vars.vars.texts c.args.test.now c.new-all.result) (IsWithTest c.args.setting.now.domain.now c.in_ok-vars.vars.times c.in_ok-vars.vars.texts c.args.test.now c.new-all.result)) c.in-Some.is c.in_ok-pattern.ensures)) in
    record {
      table = tt;
      reach = tt;
      few = tt;
      many = λ e. leaf_many c.args.setting.now.domain.now c.len-size.ensures.ascending c.args.test.now c.requires.low c.new-all.result c.new-all.ensures c.len-size.result c.len-size.ensures.count c.args.setting.now.cap c.store_over-out.result fresh c.in-Some.pattern w c.add_pattern.new.out (c.add_pattern.ensures.too_many (c.in-Err-TooManyCells.is ∙ ap Err c.in-Err-TooManyCells.field-0-is));
    }

pub returns-in_default : goal.returns-in_default
returns-in_default c =
    let fresh = fresh_by c.store_over-out.result c.in_ok-vars.vars.times (test_times c.args.test.now) c.in_ok-vars.vars.texts (test_names c.args.test.now) (nat_abs (to_z w64 (of_z w64 c.period_of.result))) (nat_abs (test_period c.args.test.now)) c.store_over-out.ensures.made c.in_ok-vars.ensures.times c.in_ok-vars.ensures.texts (test_word c.args.test.now c.period_of.result c.requires.low c.requires.reach c.period_of.ensures) in
    let no : HasNoTest c.args.setting.now.domain.now (test_times c.args.test.now) (test_names c.args.test.now) c.args.test.now c.new-all.result = subst (λ l. HasNoTest c.args.setting.now.domain.now l (test_names c.args.test.now) c.args.test.now c.new-all.result) c.in_ok-vars.ensures.times (subst (λ l. HasNoTest c.args.setting.now.domain.now c.in_ok-vars.vars.times l c.args.test.now c.new-all.result) c.in_ok-vars.ensures.texts (subst (λ o. MatchOption o (HasNoTest c.args.setting.now.domain.now c.in_ok-vars.vars.times c.in_ok-vars.vars.texts c.args.test.now c.new-all.result) (IsWithTest c.args.setting.now.domain.now c.in_ok-vars.vars.times c.in_ok-vars.vars.texts c.args.test.now c.new-all.result)) c.in_default.is c.in_ok-pattern.ensures)) in
    record {
      table = no_table c.args.setting.now.domain.now c.len-size.ensures.ascending c.args.test.now c.requires.low c.new-all.result c.new-all.ensures c.len-size.result c.len-size.ensures.count c.args.setting.now.cap c.store_over-out.result fresh no c.store_over-out.ensures.valid _ c.in_ok-vars.ensures.times c.in_ok-vars.ensures.texts refl;
      reach = λ high h. no_reach c.args.setting.now.domain.now c.len-size.ensures.ascending c.args.test.now c.requires.low c.new-all.result c.new-all.ensures c.len-size.result c.len-size.ensures.count c.args.setting.now.cap c.store_over-out.result fresh no c.store_over-out.ensures.valid high;
      few = no_few c.args.setting.now.domain.now c.len-size.ensures.ascending c.args.test.now c.requires.low c.new-all.result c.new-all.ensures c.len-size.result c.len-size.ensures.count c.args.setting.now.cap c.store_over-out.result fresh no c.store_over-out.ensures.valid;
      many = λ e. cc;
    }
