use Rattle.std.proofs.Common.{refl, rules, sym, subst}
use Rattle.std.specs.List.{AllZip}
use Rattle.std.proofs.lemmas.List.Sorted.{IsNonDecreasingBy-from_sort_by_key, answers_always}
use Rattle.lrp_core.specs.Cores.{cores_of}
use Rattle.lrp_plan.proofs.FirstTrees.{tree_there}
use Rattle.lrp_guarded.specs.Standing.{IsAtom, IsSortElement, IsGuardedPart as IsPart, IsDeniedPart as IsDenied, elements_in, rows_at, entries_at as texts_at}
use Rattle.lrp_guarded.specs.Sorting.{IsRankedAtom, IsRankedSort, AreSoFar}
use Rattle.lrp_guarded.specs.declared.elements.RankedAtom.{RankedAtom}
use Rattle.lrp_guarded.specs.declared.elements.RankedSort.{RankedSort}
use Rattle.lrp_guarded.proofs.Ranks.{sorted_ranks}
use Rattle.lrp_guarded.proofs.SortedOut.{sorted_more, sorted_all, tests_are_tests}
use Rattle.lrp_guarded.proofs.elements.Elements.of.Goals as goal

pub loop-index-init : goal.loop-index-init
loop-index-init c = λ over K s known can. search rules

pub loop-index-preserved : goal.loop-index-preserved
loop-index-preserved c = λ over K s known can.
    let own = tree_there c.args.inner.now c.args.of.now c.loop-index.index c.index-of-index.result known c.loop-index-test.true c.index-of-index.is in
    sorted_more over K c.args.of.now c.loop-index.index c.index-of-index.result own.0 c.loop-index.all c.add_at.new.self c.loop-index-test.true c.index-of-index.is own.2 can (c.loop-index.invariant over K s known can) (c.in_ok-add_at.ensures over K own.0 s own.1)

pub returns : goal.returns
returns c = λ over K s known can.
    let a : AreSoFar over K c.args.of.now (cores_of c.args.of.now) c.loop-index.all = sorted_all over K c.args.of.now c.loop-index.index c.loop-index.all c.loop-index-test.false (c.loop-index.invariant over K s known can) in
    record {
      atoms = sorted_ranks (λ (e : RankedAtom). e.rows) (rows_at over) (IsRankedAtom over K) (IsAtom over K) (λ e x h. h.rows) (λ e x h. h.is) c.loop-index.all.atoms.items c.sort_by_key.new.self.items (elements_in (cores_of c.args.of.now)).atoms a.atoms
          (IsNonDecreasingBy-from_sort_by_key (λ (e : RankedAtom). e.rows) c.sort_by_key.new.self.items c.in_ok-sort_by_key.ensures.sorted (λ a r q k. search rules))
          (c.sort_by_key.ensures.stable (λ e. e.rows) (answers_always _ _ _ (λ f a r g h. search rules)));
      sorts = sorted_ranks (λ (e : RankedSort). e.texts) (texts_at over) (IsRankedSort over) IsSortElement (λ e x h. h.texts) (λ e x h. h.is) c.loop-index.all.sorts.items c.sort_by_key-2.new.self.items (elements_in (cores_of c.args.of.now)).sorts a.sorts
          (IsNonDecreasingBy-from_sort_by_key (λ (e : RankedSort). e.texts) c.sort_by_key-2.new.self.items c.in_ok-sort_by_key-2.ensures.sorted (λ a r q k. search rules))
          (c.sort_by_key-2.ensures.stable (λ e. e.texts) (answers_always _ _ _ (λ f a r g h. search rules)));
      others = a.others;
      tests = a.tests;
      are_tests = tests_are_tests (cores_of c.args.of.now);
      negations = a.negations;
    }
