-- What is left of one zone more is added.
use Rattle.std.proofs.Common.{◌≡◌, ◌≤◌, ◌+◌, ◌*◌, Some, length, sym, subst, ◌∙◌, arith}
use Rattle.std.specs.Prelude.{slice_get}
use Rattle.std.proofs.lemmas.List.{length-map}
use Rattle.lrp_store.specs.Stores.{tables_at, zone_of, zones_at}
use Rattle.lrp_cutting.proofs.Lists.{read_begins, read_next, read_goes, read_ends}
use Rattle.lrp_minus.proofs.SparedLaws.{spared_all, spared_none, of_cell, left_small, like_place, spared_more, spared_refused}
use Rattle.lrp_store.specs.Growing.{GrowsByAtMost}
use Rattle.lrp_cutting.specs.Thresholds.{most_pieces}
use Rattle.lrp_minus.specs.Counts.{most_by}
use Rattle.lrp_minus.proofs.CutterLaws.{read_columns}
use Rattle.lrp_minus.proofs.Fewness.{few_by, more_zones}
use Rattle.lrp_minus.proofs.Growth.{grows_by_none, grows_more, grows_within}
use Rattle.lrp_minus.proofs.differences.add_same_cell.Goals as goal

pub loop-zone-init : goal.loop-zone-init
loop-zone-init c =
    read_begins _ (zones_at c.args.difference.now.left.now c.args.cell.now) c.into_iter-zone-iterator.result (c.into_iter-zone-iterator.ensures.into_iter_gives ∙ c.zones_of-zone-items.ensures) (
      λ high r. spared_none c.args.difference.now.places.now c.args.difference.now.left.now c.args.cell.now c.args.difference.now.right.now c.args.difference.now.cap (high + 2 * c.args.difference.now.left.now.period) c.args.out.now c.requires.take.valid,
      λ n at. grows_within 0 _ c.args.cell.now c.args.out.now c.args.out.now (omega arith) (grows_by_none c.args.cell.now c.args.out.now),
    )

pub add_left-requires-clause-store : goal.add_left-requires-clause-store
add_left-requires-clause-store c = (c.loop-zone.invariant.holds.0 _ c.requires.take.take.reach).grown.valid

pub add_left-requires-clause-place : goal.add_left-requires-clause-place
add_left-requires-clause-place c =
    let read : slice_get (zones_at c.args.difference.now.left.now c.args.cell.now) c.loop-zone.invariant.place ≡ Some c.in-Some.zone = read_next _ (zones_at c.args.difference.now.left.now c.args.cell.now) c.loop-zone.zone-iterator c.loop-zone.invariant c.in-Some.zone c.next.new.self c.in-Some.ensures.steps in
    let g = (c.loop-zone.invariant.holds.0 _ c.requires.take.take.reach).grown in
    like_place c.args.difference.now.places.now c.args.difference.now.left.now c.requires.take.store c.args.cell.now c.requires.cell c.args.difference.now.right.now c.in_ok-cutters.cutters c.in_ok-cutters.ensures c.loop-zone.invariant.place c.in-Some.zone read c.loop-zone.out
    (record { shape = g.shape ∙ c.requires.take.like.shape; period = g.period ∙ c.requires.take.like.period })

pub add_left-requires-clause-cutters : goal.add_left-requires-clause-cutters
add_left-requires-clause-cutters c =
    let read : slice_get (zones_at c.args.difference.now.left.now c.args.cell.now) c.loop-zone.invariant.place ≡ Some c.in-Some.zone = read_next _ (zones_at c.args.difference.now.left.now c.args.cell.now) c.loop-zone.zone-iterator c.loop-zone.invariant c.in-Some.zone c.next.new.self c.in-Some.ensures.steps in
    of_cell c.args.difference.now.places.now c.args.difference.now.left.now c.requires.take.store c.args.cell.now c.requires.cell c.args.difference.now.right.now c.in_ok-cutters.cutters c.in_ok-cutters.ensures c.loop-zone.invariant.place c.in-Some.zone read

pub add_left-requires-clause-reach : goal.add_left-requires-clause-reach
add_left-requires-clause-reach c =
    let read : slice_get (zones_at c.args.difference.now.left.now c.args.cell.now) c.loop-zone.invariant.place ≡ Some c.in-Some.zone = read_next _ (zones_at c.args.difference.now.left.now c.args.cell.now) c.loop-zone.zone-iterator c.loop-zone.invariant c.in-Some.zone c.next.new.self c.in-Some.ensures.steps in
    left_small c.args.difference.now.places.now c.args.difference.now.left.now c.requires.take.store c.args.cell.now c.requires.cell c.args.difference.now.right.now c.in_ok-cutters.cutters c.in_ok-cutters.ensures c.loop-zone.invariant.place c.in-Some.zone read c.requires.take.take

pub returns-in-Err-clause-refused : goal.returns-in-Err-clause-refused
returns-in-Err-clause-refused c = λ e high r.
    let read : slice_get (zones_at c.args.difference.now.left.now c.args.cell.now) c.loop-zone.invariant.place ≡ Some c.in-Some.zone = read_next _ (zones_at c.args.difference.now.left.now c.args.cell.now) c.loop-zone.zone-iterator c.loop-zone.invariant c.in-Some.zone c.next.new.self c.in-Some.ensures.steps in
    let g = (c.loop-zone.invariant.holds.0 _ c.requires.take.take.reach).grown in
    spared_refused c.args.difference.now.places.now c.args.difference.now.left.now c.requires.take.store c.args.cell.now c.requires.cell c.args.difference.now.right.now c.in_ok-cutters.cutters c.in_ok-cutters.ensures c.loop-zone.invariant.place c.in-Some.zone read
    c.args.difference.now.cap high r c.args.out.now c.loop-zone.out c.add_left.new.store (g.shape ∙ c.requires.take.like.shape) (c.loop-zone.invariant.holds.0 high r) (c.in-Err.ensures.refused e)

pub loop-zone-preserved : goal.loop-zone-preserved
loop-zone-preserved c = read_goes _ _ (zones_at c.args.difference.now.left.now c.args.cell.now) c.loop-zone.zone-iterator c.loop-zone.invariant c.in-Some.zone c.next.new.self c.in-Some.ensures.steps (
  (λ high r.
      let read : slice_get (zones_at c.args.difference.now.left.now c.args.cell.now) c.loop-zone.invariant.place ≡ Some c.in-Some.zone = read_next _ (zones_at c.args.difference.now.left.now c.args.cell.now) c.loop-zone.zone-iterator c.loop-zone.invariant c.in-Some.zone c.next.new.self c.in-Some.ensures.steps in
      let g = (c.loop-zone.invariant.holds.0 _ c.requires.take.take.reach).grown in
      spared_more c.args.difference.now.places.now c.args.difference.now.left.now c.requires.take.store c.args.cell.now c.requires.cell c.args.difference.now.right.now c.in_ok-cutters.cutters c.in_ok-cutters.ensures c.loop-zone.invariant.place c.in-Some.zone read
      c.args.difference.now.cap high r c.args.out.now c.loop-zone.out c.add_left.new.store (g.shape ∙ c.requires.take.like.shape) (c.loop-zone.invariant.holds.0 high r) c.in-Ok.ensures.ok),
  λ n at.
      let read : slice_get (zones_at c.args.difference.now.left.now c.args.cell.now) c.loop-zone.invariant.place ≡ Some c.in-Some.zone = read_next _ (zones_at c.args.difference.now.left.now c.args.cell.now) c.loop-zone.zone-iterator c.loop-zone.invariant c.in-Some.zone c.next.new.self c.in-Some.ensures.steps in
      let few : length c.in_ok-cutters.cutters ≤ n = c.in_ok-cutters.ensures.few n at in
      let by : most_pieces c.in-Some.zone c.in_ok-cutters.cutters ≤ most_by c.args.difference.now.left.now.shape.times n = few_by c.in-Some.zone c.in_ok-cutters.cutters c.args.difference.now.left.now.shape.times n (read_columns c.args.difference.now.left.now c.requires.take.store c.args.cell.now c.loop-zone.invariant.place c.in-Some.zone read) few in
      subst (λ k. GrowsByAtMost k c.args.cell.now c.args.out.now c.add_left.new.store) (sym (more_zones c.loop-zone.invariant.place (most_by c.args.difference.now.left.now.shape.times n)))
      (grows_more (c.loop-zone.invariant.place * most_by c.args.difference.now.left.now.shape.times n) (most_by c.args.difference.now.left.now.shape.times n) c.args.cell.now c.args.out.now c.loop-zone.out c.add_left.new.store (c.loop-zone.invariant.holds.1 n at) (grows_within (most_pieces c.in-Some.zone c.in_ok-cutters.cutters) (most_by c.args.difference.now.left.now.shape.times n) c.args.cell.now c.loop-zone.out c.add_left.new.store by c.in-Ok.ensures.few)),
)

pub returns-clause-ok : goal.returns-clause-ok
returns-clause-ok c = λ high r.
    let all = read_ends _ (zones_at c.args.difference.now.left.now c.args.cell.now) c.loop-zone.zone-iterator c.loop-zone.invariant c.in-None.ensures.steps.0 in
    let e = length-map (tables_at c.args.difference.now.left.now c.args.cell.now) (zone_of c.args.difference.now.left.now c.args.cell.now) in
    spared_all c.args.difference.now.places.now c.args.difference.now.left.now c.args.cell.now c.args.difference.now.right.now c.args.difference.now.cap (high + 2 * c.args.difference.now.left.now.period) c.args.out.now c.loop-zone.out c.loop-zone.invariant.place (omega (arith, all, e)) (c.loop-zone.invariant.holds.0 high r)

pub returns-clause-few : goal.returns-clause-few
returns-clause-few c = λ n at.
    let all = read_ends _ (zones_at c.args.difference.now.left.now c.args.cell.now) c.loop-zone.zone-iterator c.loop-zone.invariant c.in-None.ensures.steps.0 in
    let e = length-map (tables_at c.args.difference.now.left.now c.args.cell.now) (zone_of c.args.difference.now.left.now c.args.cell.now) in
    subst (λ k. GrowsByAtMost (k * most_by c.args.difference.now.left.now.shape.times n) c.args.cell.now c.args.out.now c.loop-zone.out) (all ∙ e) (c.loop-zone.invariant.holds.1 n at)
