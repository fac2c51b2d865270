use Rattle.std.proofs.Common.{refl, rules}
use Rattle.std.proofs.lemmas.List.Sorted.{IsNonDecreasingBy-from_sort_by_key, answers_always}
use Rattle.lrp_plan.specs.declared.elements.Element.{Element}
use Rattle.lrp_plan.proofs.FirstTrees.{tree_there}
use Rattle.lrp_plan.proofs.Sorting.{sorted_more}
use Rattle.lrp_plan.proofs.Sorted.{split_of}
use Rattle.lrp_plan.proofs.splits.split.Goals as goal

pub loop-index-init : goal.loop-index-init
loop-index-init c = λ known M s. search rules

pub loop-index-preserved : goal.loop-index-preserved
loop-index-preserved c = λ known M s.
    let own = tree_there c.args.inner.now c.args.of.now c.loop-index.index c.index-of-index.result known c.loop-index-test.true c.index-of-index.is in
    sorted_more M c.args.of.now c.loop-index.index c.index-of-index.result own.0 c.loop-index.parts c.sort_out_at.new.parts c.loop-index-test.true c.index-of-index.is own.2 (c.loop-index.invariant known M s) (c.in_ok-sort_out_at.ensures M own.0 s own.1)

pub returns : goal.returns
returns c = λ M s known.
    split_of M c.args.of.now c.loop-index.index c.loop-index.parts _ c.sort_by_key.new.self.items c.loop-index-test.false (c.loop-index.invariant known M s) c.from_vec.ensures.items refl refl
    (IsNonDecreasingBy-from_sort_by_key (λ (e : Element). e.rank) c.sort_by_key.new.self.items c.in_ok-sort_by_key.ensures.sorted (λ a r q k. search rules))
    (c.sort_by_key.ensures.stable (λ e. e.rank) (answers_always _ _ _ (λ f a r g h. search rules)))
