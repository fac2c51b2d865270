-- The windows in their order give the zones in that order.
use Rattle.std.proofs.Common.{subst}
use Rattle.std.specs.Prelude.{Contains}
use Rattle.lrp_cutting.specs.Turns.{IsReordered, StandApart}
use Rattle.lrp_cutting.proofs.ApartLaws.{order_of, places_in}
use Rattle.lrp_cutting.proofs.turns.are_apart.Goals as goal

pub ordered-requires : goal.ordered-requires
ordered-requires c = places_in c.args.zones.now c.in_ok-windows.windows.items c.sort_unstable.new.self.items c.deref.result.now c.sort_unstable.ensures.permutation c.deref.ensures.value c.in_ok-windows.ensures

pub stand_apart-requires-clause-columns : goal.stand_apart-requires-clause-columns
stand_apart-requires-clause-columns c = λ z h.
    let order : IsReordered c.args.zones.now c.in_ok-ordered.ordered.items = order_of c.args.zones.now c.in_ok-ordered.ordered.items c.in_ok-windows.windows.items c.sort_unstable.new.self.items c.deref.result.now c.sort_unstable.ensures.permutation c.deref.ensures.value c.in_ok-windows.ensures c.in_ok-ordered.ensures in
    c.requires.columns z (order.listed z (subst (λ l. Contains l z) c.deref-2.ensures.value h))

pub stand_apart-requires-clause-cell : goal.stand_apart-requires-clause-cell
stand_apart-requires-clause-cell c = λ v w h k.
    let order : IsReordered c.args.zones.now c.in_ok-ordered.ordered.items = order_of c.args.zones.now c.in_ok-ordered.ordered.items c.in_ok-windows.windows.items c.sort_unstable.new.self.items c.deref.result.now c.sort_unstable.ensures.permutation c.deref.ensures.value c.in_ok-windows.ensures c.in_ok-ordered.ensures in
    c.requires.cell v w (order.listed v (subst (λ l. Contains l v) c.deref-2.ensures.value h)) (order.listed w (subst (λ l. Contains l w) c.deref-2.ensures.value k))

pub returns : goal.returns
returns c = λ t. record {
  order = c.in_ok-ordered.ordered.items;
  reordered = order_of c.args.zones.now c.in_ok-ordered.ordered.items c.in_ok-windows.windows.items c.sort_unstable.new.self.items c.deref.result.now c.sort_unstable.ensures.permutation c.deref.ensures.value c.in_ok-windows.ensures c.in_ok-ordered.ensures;
  apart = subst StandApart c.deref-2.ensures.value (c.stand_apart.ensures t);
}
