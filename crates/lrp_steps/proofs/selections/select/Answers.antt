-- The store holds what is found in the table and passes.
use Rattle.std.proofs.Common.{◌+◌, ◌<◌, ◌≤◌, ◌++◌, Err, arith, refl, sym, ap, subst, ◌∙◌, length, to_z, of_z}
use Rattle.std.specs.Prelude.{nat_abs, MatchOption, AllPairs, ◌≢◌}
use Rattle.std.specs.Int.{w64}
use Rattle.lrp_model.specs.declared.tuples.Shape.{Shape}
use Rattle.lrp_store.specs.Stores.{StoreView}
use Rattle.lrp_tables.specs.Columns.{ArePlacesOf, times_of_test, texts_of_test}
use Rattle.lrp_tables.specs.Tables.{AreNamesAmong}
use Rattle.lrp_steps.specs.Conditions.{IsWithTest, HasNoTest}
use Rattle.lrp_steps.specs.declared.pattern.Pattern.{Pattern}
use Rattle.lrp_steps.proofs.Selected.{table_few_times, table_few_texts, none_table, none_few, none_reach, select_stands, select_fits, select_table, select_few, select_many, select_reach, select_shape}
use Rattle.lrp_steps.proofs.Steps.{fresh_by, positive, same_word}
use Rattle.lrp_steps.proofs.selections.select.Goals as goal

pub places_in-requires-clause-times : goal.places_in-requires-clause-times
places_in-requires-clause-times c =
    subst (λ l. AreNamesAmong c.args.table.now.vars.times l) (sym c.in_ok-copy.ensures) (λ name h. h)

pub places_in-requires-clause-texts : goal.places_in-requires-clause-texts
places_in-requires-clause-texts c =
    subst (λ l. AreNamesAmong c.args.table.now.vars.texts l) (sym c.in_ok-copy-2.ensures) (λ name h. h)

pub store_over-out-requires-clause-times : goal.store_over-out-requires-clause-times
store_over-out-requires-clause-times c =
    subst (λ l. length l ≤ 8) (sym c.in_ok-copy.ensures) (table_few_times c.args.table.now c.in_ok-places.ensures.valid)

pub store_over-out-requires-clause-texts : goal.store_over-out-requires-clause-texts
store_over-out-requires-clause-texts c =
    subst (λ l. length l ≤ 8) (sym c.in_ok-copy-2.ensures) (table_few_texts c.args.table.now c.in_ok-places.ensures.valid)

pub with_test-requires : goal.with_test-requires
with_test-requires c =
    record {
      few_times = subst (λ l. length l ≤ 8) (sym c.in_ok-copy.ensures) (table_few_times c.args.table.now c.in_ok-places.ensures.valid);
      few_texts = subst (λ l. length l ≤ 8) (sym c.in_ok-copy-2.ensures) (table_few_texts c.args.table.now c.in_ok-places.ensures.valid);
      known = ap (λ (p : Pattern). length p.texts) c.new-all.ensures;
      times = subst (λ l. AreNamesAmong (times_of_test c.args.test.now) l) (sym c.in_ok-copy.ensures) c.requires.carried.times_known;
      texts = subst (λ l. AreNamesAmong (texts_of_test c.args.test.now) l) (sym c.in_ok-copy-2.ensures) c.requires.carried.texts_known;
      low = c.requires.carried.low;
      reach = (let r = c.requires.test_small in omega (arith, r));
    }

pub add_store-requires : goal.add_store-requires
add_store-requires c =
    let fresh = fresh_by c.store_over-out.result c.in_ok-copy.field-0 c.args.table.now.vars.times c.in_ok-copy-2.field-0 c.args.table.now.vars.texts (nat_abs (to_z w64 (of_z w64 c.args.period))) (nat_abs c.args.period) c.store_over-out.ensures.made c.in_ok-copy.ensures c.in_ok-copy-2.ensures (same_word c.args.period c.requires.low c.requires.high) in
    let low : 0 < nat_abs c.args.period = positive c.args.period c.requires.low in
    let w : IsWithTest c.args.setting.now.domain.now c.args.table.now.vars.times c.args.table.now.vars.texts c.args.test.now c.new-all.result c.in-Some.pattern = subst (λ l. IsWithTest c.args.setting.now.domain.now l c.args.table.now.vars.texts c.args.test.now c.new-all.result c.in-Some.pattern) c.in_ok-copy.ensures (subst (λ l. IsWithTest c.args.setting.now.domain.now c.in_ok-copy.field-0 l c.args.test.now c.new-all.result c.in-Some.pattern) c.in_ok-copy-2.ensures (subst (λ o. MatchOption o (HasNoTest c.args.setting.now.domain.now c.in_ok-copy.field-0 c.in_ok-copy-2.field-0 c.args.test.now c.new-all.result) (IsWithTest c.args.setting.now.domain.now c.in_ok-copy.field-0 c.in_ok-copy-2.field-0 c.args.test.now c.new-all.result)) c.in-Some.is c.in_ok-pattern.ensures)) in
    let t : ArePlacesOf c.args.table.now.vars.times c.args.table.now.vars.times c.in_ok-places.places.times = subst (λ l. ArePlacesOf c.args.table.now.vars.times l c.in_ok-places.places.times) c.in_ok-copy.ensures c.in_ok-places.ensures.times in
    let x : ArePlacesOf c.args.table.now.vars.texts c.args.table.now.vars.texts c.in_ok-places.places.texts = subst (λ l. ArePlacesOf c.args.table.now.vars.texts l c.in_ok-places.places.texts) c.in_ok-copy-2.ensures c.in_ok-places.ensures.texts in
    record { stands = select_stands c.args.setting.now.domain.now c.len-size.ensures.ascending c.args.table.now c.in_ok-places.ensures.valid c.args.test.now c.args.period c.requires.low c.requires.carried c.requires.test_small c.new-all.result c.new-all.ensures c.len-size.result c.len-size.ensures.count low c.args.setting.now.cap c.store_over-out.result fresh c.in-Some.pattern w c.in_ok-places.places t x c.requires.divides c.requires.reach; adds = record { valid = c.store_over-out.ensures.valid; fits = record { fits = select_fits c.args.setting.now.domain.now c.len-size.ensures.ascending c.args.table.now c.in_ok-places.ensures.valid c.args.test.now c.args.period c.requires.low c.requires.carried c.requires.test_small c.new-all.result c.new-all.ensures c.len-size.result c.len-size.ensures.count low c.args.setting.now.cap c.store_over-out.result fresh c.in-Some.pattern w c.in_ok-places.places t x c.requires.divides c.requires.reach; known = w.size } } }

pub invariant_of-result : goal.invariant_of-result
invariant_of-result c =
    record {
      times_named = sym (ap (λ (s : StoreView). s.shape.times) c.store_over-out.ensures.made);
      texts_named = sym (ap (λ (s : StoreView). s.shape.texts) c.store_over-out.ensures.made);
      names_differ = subst (λ l. AllPairs ◌≢◌ (l ++ c.in_ok-copy-2.field-0)) (sym c.in_ok-copy.ensures) (subst (λ l. AllPairs ◌≢◌ (c.args.table.now.vars.times ++ l)) (sym c.in_ok-copy-2.ensures) c.args.table.now.names_differ);
    }

pub invariant_of-result-in-Ok : goal.invariant_of-result-in-Ok
invariant_of-result-in-Ok c =
    let fresh = fresh_by c.store_over-out.result c.in_ok-copy.field-0 c.args.table.now.vars.times c.in_ok-copy-2.field-0 c.args.table.now.vars.texts (nat_abs (to_z w64 (of_z w64 c.args.period))) (nat_abs c.args.period) c.store_over-out.ensures.made c.in_ok-copy.ensures c.in_ok-copy-2.ensures (same_word c.args.period c.requires.low c.requires.high) in
    let low : 0 < nat_abs c.args.period = positive c.args.period c.requires.low in
    let w : IsWithTest c.args.setting.now.domain.now c.args.table.now.vars.times c.args.table.now.vars.texts c.args.test.now c.new-all.result c.in-Some.pattern = subst (λ l. IsWithTest c.args.setting.now.domain.now l c.args.table.now.vars.texts c.args.test.now c.new-all.result c.in-Some.pattern) c.in_ok-copy.ensures (subst (λ l. IsWithTest c.args.setting.now.domain.now c.in_ok-copy.field-0 l c.args.test.now c.new-all.result c.in-Some.pattern) c.in_ok-copy-2.ensures (subst (λ o. MatchOption o (HasNoTest c.args.setting.now.domain.now c.in_ok-copy.field-0 c.in_ok-copy-2.field-0 c.args.test.now c.new-all.result) (IsWithTest c.args.setting.now.domain.now c.in_ok-copy.field-0 c.in_ok-copy-2.field-0 c.args.test.now c.new-all.result)) c.in-Some.is c.in_ok-pattern.ensures)) in
    let t : ArePlacesOf c.args.table.now.vars.times c.args.table.now.vars.times c.in_ok-places.places.times = subst (λ l. ArePlacesOf c.args.table.now.vars.times l c.in_ok-places.places.times) c.in_ok-copy.ensures c.in_ok-places.ensures.times in
    let x : ArePlacesOf c.args.table.now.vars.texts c.args.table.now.vars.texts c.in_ok-places.places.texts = subst (λ l. ArePlacesOf c.args.table.now.vars.texts l c.in_ok-places.places.texts) c.in_ok-copy-2.ensures c.in_ok-places.ensures.texts in
    let shape = select_shape c.args.setting.now.domain.now c.len-size.ensures.ascending c.args.table.now c.in_ok-places.ensures.valid c.args.test.now c.args.period c.requires.low c.requires.carried c.requires.test_small c.new-all.result c.new-all.ensures c.len-size.result c.len-size.ensures.count low c.args.setting.now.cap c.store_over-out.result fresh c.in-Some.pattern w c.in_ok-places.places t x c.requires.divides c.requires.reach c.add_store.new.out c.in-Ok.ensures.ok in
    record {
      times_named = ap length c.in_ok-copy.ensures ∙ sym (ap (λ (q : Shape). q.times) shape);
      texts_named = ap length c.in_ok-copy-2.ensures ∙ sym (ap (λ (q : Shape). q.texts) shape);
      names_differ = subst (λ l. AllPairs ◌≢◌ (l ++ c.in_ok-copy-2.field-0)) (sym c.in_ok-copy.ensures) (subst (λ l. AllPairs ◌≢◌ (c.args.table.now.vars.times ++ l)) (sym c.in_ok-copy-2.ensures) c.args.table.now.names_differ);
    }

pub returns-in-Ok : goal.returns-in-Ok
returns-in-Ok c =
    let fresh = fresh_by c.store_over-out.result c.in_ok-copy.field-0 c.args.table.now.vars.times c.in_ok-copy-2.field-0 c.args.table.now.vars.texts (nat_abs (to_z w64 (of_z w64 c.args.period))) (nat_abs c.args.period) c.store_over-out.ensures.made c.in_ok-copy.ensures c.in_ok-copy-2.ensures (same_word c.args.period c.requires.low c.requires.high) in
    let low : 0 < nat_abs c.args.period = positive c.args.period c.requires.low in
    let w : IsWithTest c.args.setting.now.domain.now c.args.table.now.vars.times c.args.table.now.vars.texts c.args.test.now c.new-all.result c.in-Some.pattern = subst (λ l. IsWithTest c.args.setting.now.domain.now l c.args.table.now.vars.texts c.args.test.now c.new-all.result c.in-Some.pattern) c.in_ok-copy.ensures (subst (λ l. IsWithTest c.args.setting.now.domain.now c.in_ok-copy.field-0 l c.args.test.now c.new-all.result c.in-Some.pattern) c.in_ok-copy-2.ensures (subst (λ o. MatchOption o (HasNoTest c.args.setting.now.domain.now c.in_ok-copy.field-0 c.in_ok-copy-2.field-0 c.args.test.now c.new-all.result) (IsWithTest c.args.setting.now.domain.now c.in_ok-copy.field-0 c.in_ok-copy-2.field-0 c.args.test.now c.new-all.result)) c.in-Some.is c.in_ok-pattern.ensures)) in
    let t : ArePlacesOf c.args.table.now.vars.times c.args.table.now.vars.times c.in_ok-places.places.times = subst (λ l. ArePlacesOf c.args.table.now.vars.times l c.in_ok-places.places.times) c.in_ok-copy.ensures c.in_ok-places.ensures.times in
    let x : ArePlacesOf c.args.table.now.vars.texts c.args.table.now.vars.texts c.in_ok-places.places.texts = subst (λ l. ArePlacesOf c.args.table.now.vars.texts l c.in_ok-places.places.texts) c.in_ok-copy-2.ensures c.in_ok-places.ensures.texts in
    record {
      table = select_table c.args.setting.now.domain.now c.len-size.ensures.ascending c.args.table.now c.in_ok-places.ensures.valid c.args.test.now c.args.period c.requires.low c.requires.carried c.requires.test_small c.new-all.result c.new-all.ensures c.len-size.result c.len-size.ensures.count low c.args.setting.now.cap c.store_over-out.result fresh c.in-Some.pattern w c.in_ok-places.places t x c.requires.divides c.requires.reach c.add_store.new.out c.in-Ok.ensures.ok _ c.in_ok-copy.ensures c.in_ok-copy-2.ensures refl;
      reach = λ high h. select_reach c.args.setting.now.domain.now c.len-size.ensures.ascending c.args.table.now c.in_ok-places.ensures.valid c.args.test.now c.args.period c.requires.low c.requires.carried c.requires.test_small c.new-all.result c.new-all.ensures c.len-size.result c.len-size.ensures.count low c.args.setting.now.cap c.store_over-out.result fresh c.in-Some.pattern w c.in_ok-places.places t x c.requires.divides c.requires.reach c.add_store.new.out c.in-Ok.ensures.ok high h.0 h.1;
      few = select_few c.args.setting.now.domain.now c.len-size.ensures.ascending c.args.table.now c.in_ok-places.ensures.valid c.args.test.now c.args.period c.requires.low c.requires.carried c.requires.test_small c.new-all.result c.new-all.ensures c.len-size.result c.len-size.ensures.count low c.args.setting.now.cap c.store_over-out.result fresh c.in-Some.pattern w c.in_ok-places.places t x c.requires.divides c.requires.reach c.add_store.new.out c.in-Ok.ensures.ok;
      many = λ e. cc;
    }

pub returns-in-Err-TooManyCells : goal.returns-in-Err-TooManyCells
returns-in-Err-TooManyCells c =
    let fresh = fresh_by c.store_over-out.result c.in_ok-copy.field-0 c.args.table.now.vars.times c.in_ok-copy-2.field-0 c.args.table.now.vars.texts (nat_abs (to_z w64 (of_z w64 c.args.period))) (nat_abs c.args.period) c.store_over-out.ensures.made c.in_ok-copy.ensures c.in_ok-copy-2.ensures (same_word c.args.period c.requires.low c.requires.high) in
    let low : 0 < nat_abs c.args.period = positive c.args.period c.requires.low in
    let w : IsWithTest c.args.setting.now.domain.now c.args.table.now.vars.times c.args.table.now.vars.texts c.args.test.now c.new-all.result c.in-Some.pattern = subst (λ l. IsWithTest c.args.setting.now.domain.now l c.args.table.now.vars.texts c.args.test.now c.new-all.result c.in-Some.pattern) c.in_ok-copy.ensures (subst (λ l. IsWithTest c.args.setting.now.domain.now c.in_ok-copy.field-0 l c.args.test.now c.new-all.result c.in-Some.pattern) c.in_ok-copy-2.ensures (subst (λ o. MatchOption o (HasNoTest c.args.setting.now.domain.now c.in_ok-copy.field-0 c.in_ok-copy-2.field-0 c.args.test.now c.new-all.result) (IsWithTest c.args.setting.now.domain.now c.in_ok-copy.field-0 c.in_ok-copy-2.field-0 c.args.test.now c.new-all.result)) c.in-Some.is c.in_ok-pattern.ensures)) in
    let t : ArePlacesOf c.args.table.now.vars.times c.args.table.now.vars.times c.in_ok-places.places.times = subst (λ l. ArePlacesOf c.args.table.now.vars.times l c.in_ok-places.places.times) c.in_ok-copy.ensures c.in_ok-places.ensures.times in
    let x : ArePlacesOf c.args.table.now.vars.texts c.args.table.now.vars.texts c.in_ok-places.places.texts = subst (λ l. ArePlacesOf c.args.table.now.vars.texts l c.in_ok-places.places.texts) c.in_ok-copy-2.ensures c.in_ok-places.ensures.texts in
    record {
      table = tt;
      reach = tt;
      few = tt;
      many = λ e. select_many c.args.setting.now.domain.now c.len-size.ensures.ascending c.args.table.now c.in_ok-places.ensures.valid c.args.test.now c.args.period c.requires.low c.requires.carried c.requires.test_small c.new-all.result c.new-all.ensures c.len-size.result c.len-size.ensures.count low c.args.setting.now.cap c.store_over-out.result fresh c.in-Some.pattern w c.in_ok-places.places t x c.requires.divides c.requires.reach c.add_store.new.out (c.add_store.ensures.too_many (c.in-Err-TooManyCells.is ∙ ap Err c.in-Err-TooManyCells.field-0-is));
    }

pub returns-in_default : goal.returns-in_default
returns-in_default c =
    let fresh = fresh_by c.store_over-out.result c.in_ok-copy.field-0 c.args.table.now.vars.times c.in_ok-copy-2.field-0 c.args.table.now.vars.texts (nat_abs (to_z w64 (of_z w64 c.args.period))) (nat_abs c.args.period) c.store_over-out.ensures.made c.in_ok-copy.ensures c.in_ok-copy-2.ensures (same_word c.args.period c.requires.low c.requires.high) in
    let low : 0 < nat_abs c.args.period = positive c.args.period c.requires.low in
    let no : HasNoTest c.args.setting.now.domain.now c.args.table.now.vars.times c.args.table.now.vars.texts c.args.test.now c.new-all.result = subst (λ l. HasNoTest c.args.setting.now.domain.now l c.args.table.now.vars.texts c.args.test.now c.new-all.result) c.in_ok-copy.ensures (subst (λ l. HasNoTest c.args.setting.now.domain.now c.in_ok-copy.field-0 l c.args.test.now c.new-all.result) c.in_ok-copy-2.ensures (subst (λ o. MatchOption o (HasNoTest c.args.setting.now.domain.now c.in_ok-copy.field-0 c.in_ok-copy-2.field-0 c.args.test.now c.new-all.result) (IsWithTest c.args.setting.now.domain.now c.in_ok-copy.field-0 c.in_ok-copy-2.field-0 c.args.test.now c.new-all.result)) c.in_default.is c.in_ok-pattern.ensures)) in
    record {
      table = none_table c.args.setting.now.domain.now c.len-size.ensures.ascending c.args.table.now c.in_ok-places.ensures.valid c.args.test.now c.args.period c.requires.low c.requires.carried c.requires.test_small c.new-all.result c.new-all.ensures c.len-size.result c.len-size.ensures.count low c.args.setting.now.cap c.store_over-out.result fresh no c.store_over-out.ensures.valid _ c.in_ok-copy.ensures c.in_ok-copy-2.ensures refl;
      reach = λ high h. none_reach c.args.setting.now.domain.now c.len-size.ensures.ascending c.args.table.now c.in_ok-places.ensures.valid c.args.test.now c.args.period c.requires.low c.requires.carried c.requires.test_small c.new-all.result c.new-all.ensures c.len-size.result c.len-size.ensures.count low c.args.setting.now.cap c.store_over-out.result fresh no c.store_over-out.ensures.valid (high + nat_abs c.args.period);
      few = none_few c.args.setting.now.domain.now c.len-size.ensures.ascending c.args.table.now c.in_ok-places.ensures.valid c.args.test.now c.args.period c.requires.low c.requires.carried c.requires.test_small c.new-all.result c.new-all.ensures c.len-size.result c.len-size.ensures.count low c.args.setting.now.cap c.store_over-out.result fresh no c.store_over-out.ensures.valid;
      many = λ e. cc;
    }
