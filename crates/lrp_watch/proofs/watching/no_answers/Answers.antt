-- The store has a column for each one of the head, and no cell.
use Rattle.std.proofs.Common.{◌≡◌, ◌≤◌, length, sym, ap, subst, ◌∙◌, arith}
use Rattle.std.specs.Prelude.{pos}
use Rattle.lrp_model.specs.Sorts.{time_count}
use Rattle.lrp_model.specs.declared.formulas.Head.{Head}
use Rattle.lrp_store.specs.Stores.{StoreView}
use Rattle.lrp_tables.proofs.HeadCounts.{columns_counted, times_counted}
use Rattle.lrp_tables.specs.Columns.{head_texts, head_times}
use Rattle.lrp_watch.proofs.NoAnswers.{none_numbered}
use Rattle.lrp_watch.proofs.watching.no_answers.Goals as goal

pub store_over-store-requires-clause-times : goal.store_over-store-requires-clause-times
store_over-store-requires-clause-times c = subst (λ ns. length ns ≤ 8) (sym c.in_ok-vars.ensures.times) c.requires.times

pub store_over-store-requires-clause-texts : goal.store_over-store-requires-clause-texts
store_over-store-requires-clause-texts c = subst (λ ns. length ns ≤ 8) (sym c.in_ok-vars.ensures.texts) c.requires.texts

pub invariant_of-result : goal.invariant_of-result
invariant_of-result c =
    let columns = c.args.query.now.head.columns in
    let heads : c.in_ok-copy.field-0.columns ≡ c.args.query.now.head.columns = ap (λ (h : Head). h.columns) c.in_ok-copy.ensures in
    let times : c.store_over-store.result.shape.times ≡ length (head_times c.args.query.now.head.columns) = ap (λ (v : StoreView). v.shape.times) c.store_over-store.ensures.made ∙ ap length c.in_ok-vars.ensures.times in
    let texts : c.store_over-store.result.shape.texts ≡ length (head_texts c.args.query.now.head.columns) = ap (λ (v : StoreView). v.shape.texts) c.store_over-store.ensures.made ∙ ap length c.in_ok-vars.ensures.texts in
    record {
      times_are = ap time_count heads ∙ times_counted columns ∙ sym times;
      columns_are = ap length heads ∙ (let n = columns_counted columns in omega (arith, n, times, texts));
      period_is = ap pos (sym (ap (λ (v : StoreView). v.period) c.store_over-store.ensures.made));
      numbered = none_numbered c.args.domain c.store_over-store.result (ap (λ (v : StoreView). v.tables) c.store_over-store.ensures.made);
    }
