-- One cell more has small bounds.
use Rattle.std.proofs.Common.{◌≡◌, ◌∙◌, Some, ap, refl, subst, sym}
use Rattle.std.specs.Prelude.{All}
use Rattle.std.specs.FinMap as finite
use Rattle.lrp_store.specs.Stores.{StoreView}
use Rattle.lrp_store.proofs.Reaches.{IsListWithin, all_within, seen_all, seen_more, seen_none}
use Rattle.lrp_store.proofs.store.Store.has_reach.Goals as goal

pub loop-cell-init : goal.loop-cell-init
loop-cell-init c = seen_none (IsListWithin c.args.reach) c.into_iter-cell-iterator.result c.into_iter-cell-iterator.result refl

pub loop-cell-preserved : goal.loop-cell-preserved
loop-cell-preserved c = seen_more (IsListWithin c.args.reach) c.into_iter-cell-iterator.result c.loop-cell._cell-iterator c.next.new.self (c.in-Some._cell, c.in-Some.tables) c.in-Some.ensures.steps c.loop-cell.invariant (c.are_within.ensures c.if-not-are_within.false)

pub returns : goal.returns
returns c = λ e.
    all_within c.args.self.now c.args.reach c.into_iter-cell-iterator.result
    (c.into_iter-cell-iterator.ensures.into_iter_gives ∙ c.lists-cell-items.ensures.entries ∙ ap (λ (s : StoreView). finite.entries s.tables) c.self.view_is)
    (subst (λ lists. All (λ e. finite.get c.args.self.now.tables e.0 ≡ Some e.1) lists) (sym c.into_iter-cell-iterator.ensures.into_iter_gives)
    (subst (λ (s : StoreView). All (λ e. finite.get s.tables e.0 ≡ Some e.1) c.lists-cell-items.result) c.self.view_is c.lists-cell-items.ensures.found))
    (seen_all (IsListWithin c.args.reach) c.into_iter-cell-iterator.result c.loop-cell._cell-iterator c.in-None.ensures.steps.0 c.loop-cell.invariant)
