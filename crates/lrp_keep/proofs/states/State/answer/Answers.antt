-- The answers of the disjuncts are taken one after another.
use Rattle.std.proofs.Common.{◌≡◌, ◌<◌, ◌≤◌, ◌∙◌, Some, length, get_or, refl, sym, ap, subst, arith}
use Rattle.std.specs.Prelude.{pos, slice_get}
use Rattle.std.specs.FinMap as finite
use Rattle.std.proofs.lemmas.Option.{slice_get_read}
use Rattle.lrp_model.specs.Formulas.{Question}
use Rattle.lrp_model.specs.Sorts.{time_count}
use Rattle.lrp_model.specs.declared.formulas.Head.{Head}
use Rattle.lrp_model.specs.declared.tuples.Shape.{Shape}
use Rattle.lrp_store.specs.Stores.{StoreView}
use Rattle.lrp_store.specs.Tables.{AreNumbered}
use Rattle.lrp_tables.proofs.HeadCounts.{columns_counted, times_counted}
use Rattle.lrp_tables.specs.Columns.{head_texts, head_times}
use Rattle.lrp_kept.proofs.SortedDisjuncts.{few_head_texts, few_head_times}
use Rattle.lrp_parts.specs.declared.derivation.Derived.{Derived}
use Rattle.lrp_keep.specs.States.{levels_of}
use Rattle.lrp_keep.specs.Taken.{HasTakenSome}
use Rattle.lrp_keep.proofs.Answering.{all_hold, all_reach, alike, none_yet, passed_period, word_period}
use Rattle.lrp_keep.proofs.Numbered.{all_numbered}
use Rattle.lrp_keep.specs.Unions.{HoldsAmong}
use Rattle.lrp_keep.proofs.Taken.{one_among}
use Rattle.lrp_keep.proofs.states.State.answer.Goals as goal
use Rattle.lrp_model.proofs.Everywhere.{map_count}
use Rattle.lrp_steps.proofs.Steps.{mapped_get}

pub store_over-store-requires-clause-times : goal.store_over-store-requires-clause-times
store_over-store-requires-clause-times c =
    subst (λ ns. length ns ≤ 8) (sym c.in_ok-vars.ensures.times) (subst (λ (p : Question). length (head_times p.head) ≤ 8) (sym c.requires.query.query.is) (few_head_times c.requires.query.db c.requires.query.query.raw c.requires.query.query.sorted))

pub store_over-store-requires-clause-texts : goal.store_over-store-requires-clause-texts
store_over-store-requires-clause-texts c =
    subst (λ ns. length ns ≤ 8) (sym c.in_ok-vars.ensures.texts) (subst (λ (p : Question). length (head_texts p.head) ≤ 8) (sym c.requires.query.query.is) (few_head_texts c.requires.query.db c.requires.query.query.raw c.requires.query.query.sorted))

pub loop-derived-init : goal.loop-derived-init
loop-derived-init c =
    let times : c.store_over-store.result.shape.times ≡ length (head_times c.args.of.now.query.now.head.columns) = ap (λ (v : StoreView). v.shape.times) c.store_over-store.ensures.made ∙ ap length c.in_ok-vars.ensures.times in
    let texts : c.store_over-store.result.shape.texts ≡ length (head_texts c.args.of.now.query.now.head.columns) = ap (λ (v : StoreView). v.shape.texts) c.store_over-store.ensures.made ∙ ap length c.in_ok-vars.ensures.texts in
    let empty : c.store_over-store.result.tables ≡ finite.empty = ap (λ (v : StoreView). v.tables) c.store_over-store.ensures.made in
    let period : c.store_over-store.result.period ≡ c.args.self.now.period.number = ap (λ (v : StoreView). v.period) c.store_over-store.ensures.made ∙ word_period c.args.self.now.period in
    none_yet c.args.of.now c.args.self.now c.requires c.store_over-store.result c.store_over-store.ensures.valid empty times texts period

pub add_derived-requires : goal.add_derived-requires
add_derived-requires c =
    let times : c.store_over-store.result.shape.times ≡ length (head_times c.args.of.now.query.now.head.columns) = ap (λ (v : StoreView). v.shape.times) c.store_over-store.ensures.made ∙ ap length c.in_ok-vars.ensures.times in
    let texts : c.store_over-store.result.shape.texts ≡ length (head_texts c.args.of.now.query.now.head.columns) = ap (λ (v : StoreView). v.shape.texts) c.store_over-store.ensures.made ∙ ap length c.in_ok-vars.ensures.texts in
    let empty : c.store_over-store.result.tables ≡ finite.empty = ap (λ (v : StoreView). v.tables) c.store_over-store.ensures.made in
    let period : c.store_over-store.result.period ≡ c.args.self.now.period.number = ap (λ (v : StoreView). v.period) c.store_over-store.ensures.made ∙ word_period c.args.self.now.period in
    let low : c.loop-derived.derived-index < length c.args.self.now.derived.items = subst (λ xs. c.loop-derived.derived-index < length xs) c.deref-derived-items.ensures.value c.loop-derived-test.true in
    let is : c.derived-item.result ≡ get_or c.args.self.now.derived.items c.loop-derived.derived-index c.derived-item.result = subst (λ xs. c.derived-item.result ≡ get_or xs c.loop-derived.derived-index c.derived-item.result) c.deref-derived-items.ensures.value c.derived-item.is in
    let there : slice_get (levels_of c.args.self.now) c.loop-derived.derived-index ≡ Some c.derived-item.result.levels.items = mapped_get (λ (d : Derived). d.levels.items) c.args.self.now.derived.items c.loop-derived.derived-index c.derived-item.result (slice_get_read c.args.self.now.derived.items (length c.args.self.now.derived.items) c.loop-derived.derived-index c.derived-item.result refl low is) in
    alike c.args.of.now c.args.self.now c.requires c.store_over-store.result c.store_over-store.ensures.valid empty times texts period c.loop-derived.store c.loop-derived.invariant.valid c.loop-derived.invariant.shape c.loop-derived.invariant.period c.loop-derived.derived-index c.derived-item.result.levels.items there

pub loop-derived-preserved : goal.loop-derived-preserved
loop-derived-preserved c =
    let low : c.loop-derived.derived-index < length c.args.self.now.derived.items = subst (λ xs. c.loop-derived.derived-index < length xs) c.deref-derived-items.ensures.value c.loop-derived-test.true in
    let is : c.derived-item.result ≡ get_or c.args.self.now.derived.items c.loop-derived.derived-index c.derived-item.result = subst (λ xs. c.derived-item.result ≡ get_or xs c.loop-derived.derived-index c.derived-item.result) c.deref-derived-items.ensures.value c.derived-item.is in
    let there : slice_get (levels_of c.args.self.now) c.loop-derived.derived-index ≡ Some c.derived-item.result.levels.items = mapped_get (λ (d : Derived). d.levels.items) c.args.self.now.derived.items c.loop-derived.derived-index c.derived-item.result (slice_get_read c.args.self.now.derived.items (length c.args.self.now.derived.items) c.loop-derived.derived-index c.derived-item.result refl low is) in
    one_among (levels_of c.args.self.now) c.loop-derived.derived-index c.derived-item.result.levels.items c.store_over-store.result c.loop-derived.store c.add_derived.new.out there c.loop-derived.invariant c.in_ok-add_derived.ensures

pub invariant_of-result : goal.invariant_of-result
invariant_of-result c =
    let times : c.store_over-store.result.shape.times ≡ length (head_times c.args.of.now.query.now.head.columns) = ap (λ (v : StoreView). v.shape.times) c.store_over-store.ensures.made ∙ ap length c.in_ok-vars.ensures.times in
    let texts : c.store_over-store.result.shape.texts ≡ length (head_texts c.args.of.now.query.now.head.columns) = ap (λ (v : StoreView). v.shape.texts) c.store_over-store.ensures.made ∙ ap length c.in_ok-vars.ensures.texts in
    let empty : c.store_over-store.result.tables ≡ finite.empty = ap (λ (v : StoreView). v.tables) c.store_over-store.ensures.made in
    let period : c.store_over-store.result.period ≡ c.args.self.now.period.number = ap (λ (v : StoreView). v.period) c.store_over-store.ensures.made ∙ word_period c.args.self.now.period in
    let own : length c.deref-derived-items.result.now ≡ length c.args.self.now.derived.items = ap length c.deref-derived-items.ensures.value in
    let all : length (levels_of c.args.self.now) ≡ length c.args.self.now.derived.items = map_count (λ (d : Derived). d.levels.items) c.args.self.now.derived.items in
    let end : c.loop-derived.derived-index ≡ length (levels_of c.args.self.now) = omega (arith, own, all, c.loop-derived-test.false, c.loop-derived.auto.derived-index-end) in
    let taken : HasTakenSome (HoldsAmong (levels_of c.args.self.now) (length (levels_of c.args.self.now))) c.store_over-store.result c.loop-derived.store = subst (λ n. HasTakenSome (HoldsAmong (levels_of c.args.self.now) n) c.store_over-store.result c.loop-derived.store) end c.loop-derived.invariant in
    let heads : c.in_ok-copy.field-0.columns ≡ c.args.of.now.query.now.head.columns = ap (λ (h : Head). h.columns) c.in_ok-copy.ensures in
    let counted : c.loop-derived.store.shape.times ≡ length (head_times c.args.of.now.query.now.head.columns) = ap (λ (h : Shape). h.times) c.loop-derived.invariant.shape ∙ times in
    let lettered : c.loop-derived.store.shape.texts ≡ length (head_texts c.args.of.now.query.now.head.columns) = ap (λ (h : Shape). h.texts) c.loop-derived.invariant.shape ∙ texts in
    record { times_are = ap time_count heads ∙ times_counted c.args.of.now.query.now.head.columns ∙ sym counted; columns_are = ap length heads ∙ (let n = columns_counted c.args.of.now.query.now.head.columns in omega (arith, n, counted, lettered)); period_is = passed_period c.args.self.now.period ∙ ap pos (sym (c.loop-derived.invariant.period ∙ period)); numbered = subst (λ d. AreNumbered d c.loop-derived.store) (sym c.in_ok-copy-2.ensures) (all_numbered c.args.of.now c.args.self.now c.requires c.store_over-store.result c.store_over-store.ensures.valid empty times texts period c.loop-derived.store taken) }

pub returns : goal.returns
returns c =
    let times : c.store_over-store.result.shape.times ≡ length (head_times c.args.of.now.query.now.head.columns) = ap (λ (v : StoreView). v.shape.times) c.store_over-store.ensures.made ∙ ap length c.in_ok-vars.ensures.times in
    let texts : c.store_over-store.result.shape.texts ≡ length (head_texts c.args.of.now.query.now.head.columns) = ap (λ (v : StoreView). v.shape.texts) c.store_over-store.ensures.made ∙ ap length c.in_ok-vars.ensures.texts in
    let empty : c.store_over-store.result.tables ≡ finite.empty = ap (λ (v : StoreView). v.tables) c.store_over-store.ensures.made in
    let period : c.store_over-store.result.period ≡ c.args.self.now.period.number = ap (λ (v : StoreView). v.period) c.store_over-store.ensures.made ∙ word_period c.args.self.now.period in
    let own : length c.deref-derived-items.result.now ≡ length c.args.self.now.derived.items = ap length c.deref-derived-items.ensures.value in
    let all : length (levels_of c.args.self.now) ≡ length c.args.self.now.derived.items = map_count (λ (d : Derived). d.levels.items) c.args.self.now.derived.items in
    let end : c.loop-derived.derived-index ≡ length (levels_of c.args.self.now) = omega (arith, own, all, c.loop-derived-test.false, c.loop-derived.auto.derived-index-end) in
    let taken : HasTakenSome (HoldsAmong (levels_of c.args.self.now) (length (levels_of c.args.self.now))) c.store_over-store.result c.loop-derived.store = subst (λ n. HasTakenSome (HoldsAmong (levels_of c.args.self.now) n) c.store_over-store.result c.loop-derived.store) end c.loop-derived.invariant in
    record { head = ap (λ (h : Head). h.columns) c.in_ok-copy.ensures; domain = c.in_ok-copy-2.ensures; period = passed_period c.args.self.now.period; valid = c.loop-derived.invariant.valid; times = ap (λ (h : Shape). h.times) c.loop-derived.invariant.shape ∙ times; texts = ap (λ (h : Shape). h.texts) c.loop-derived.invariant.shape ∙ texts; holds = all_hold c.args.of.now c.args.self.now c.requires c.store_over-store.result c.store_over-store.ensures.valid empty times texts period c.loop-derived.store taken; reach = all_reach c.args.of.now c.args.self.now c.requires c.store_over-store.result c.store_over-store.ensures.valid empty times texts period c.loop-derived.store taken }
