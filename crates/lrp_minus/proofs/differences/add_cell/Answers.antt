-- Where the periods are the same, the cell stays one; else what is left of one zone more is added.
use Rattle.std.proofs.Common.{◌≡◌, ℕ, subst, refl, ◌+◌, ◌*◌, ◌-◌, ◌^◌, Some, ◌∙◌, arith, sym}
use Rattle.std.specs.Prelude.{pos, slice_get}
use Rattle.std.proofs.lemmas.List.{length-map}
use Rattle.lrp_store.specs.Stores.{tables_at, zone_of, zones_at}
use Rattle.lrp_cutting.proofs.Lists.{on_ok, read_begins, read_next, read_goes, read_ends}
use Rattle.lrp_minus.proofs.DifferenceLaws.{both_reach, can_take, is_like, same_added, same_refused, same_word}
use Rattle.lrp_minus.proofs.CutterLaws.{read_reach}
use Rattle.lrp_minus.proofs.SparedLaws.{spared_all, spared_none}
use Rattle.lrp_theory.specs.Divides.{Divides}
use Rattle.lrp_minus.specs.Counts.{GrowsIn, LiesInWideCell, most_by, most_spared}
use Rattle.lrp_minus.proofs.Growth.{grows_at, grows_not}
use Rattle.lrp_minus.proofs.WithinCells.{lies_within_own, zone_few}
use Rattle.lrp_minus.proofs.TakenLaws.{taken_cut, taken_more, taken_reach, taken_refused, taken_split, taken_texts}
use Rattle.lrp_minus.proofs.differences.add_cell.Goals as goal

pub add_same_cell-requires-clause-take : goal.add_same_cell-requires-clause-take
add_same_cell-requires-clause-take c =
    let same : c.args.difference.now.left.now.period ≡ c.args.out.now.period = same_word c.period.result c.period-2.result c.args.difference.now.left.now.period c.args.out.now.period c.period.ensures c.period-2.ensures c.requires.subtract.subtract.left_store.period_high c.requires.subtract.valid.period_high c.if-period.true in
    record {
      store = c.requires.subtract.subtract.left_store;
      valid = c.requires.subtract.valid;
      like = is_like c.args.difference.now.places.now c.args.difference.now.left.now c.args.difference.now.right.now c.args.out.now.period c.requires.subtract.subtract same c.args.out.now c.requires.subtract.shape refl;
      take = can_take c.args.difference.now.places.now c.args.difference.now.left.now c.args.difference.now.right.now c.args.out.now.period c.requires.subtract.subtract same;
    }

pub returns-then-period-clause-ok : goal.returns-then-period-clause-ok
returns-then-period-clause-ok c =
    let same : c.args.difference.now.left.now.period ≡ c.args.out.now.period = same_word c.period.result c.period-2.result c.args.difference.now.left.now.period c.args.out.now.period c.period.ensures c.period-2.ensures c.requires.subtract.subtract.left_store.period_high c.requires.subtract.valid.period_high c.if-period.true in
    on_ok _ _ c.add_same_cell.result
    (λ f high l r. same_added c.args.difference.now.places.now c.args.difference.now.left.now c.args.difference.now.right.now c.args.out.now.period c.requires.subtract.subtract same _ c.args.difference.now.cap high c.args.out.now c.add_same_cell.new.out (f high (both_reach c.args.difference.now.places.now c.args.difference.now.left.now c.args.difference.now.right.now c.args.out.now.period c.requires.subtract.subtract same high l r)))
    c.add_same_cell.ensures.ok

pub returns-then-period-clause-refused : goal.returns-then-period-clause-refused
returns-then-period-clause-refused c = λ e high l r.
    let same : c.args.difference.now.left.now.period ≡ c.args.out.now.period = same_word c.period.result c.period-2.result c.args.difference.now.left.now.period c.args.out.now.period c.period.ensures c.period-2.ensures c.requires.subtract.subtract.left_store.period_high c.requires.subtract.valid.period_high c.if-period.true in
    same_refused c.args.difference.now.places.now c.args.difference.now.left.now c.args.difference.now.right.now c.args.out.now.period c.requires.subtract.subtract same _ c.args.difference.now.cap high c.args.out.now c.add_same_cell.new.out (c.add_same_cell.ensures.refused e high (both_reach c.args.difference.now.places.now c.args.difference.now.left.now c.args.difference.now.right.now c.args.out.now.period c.requires.subtract.subtract same high l r))

pub loop-zone-init : goal.loop-zone-init
loop-zone-init c =
    read_begins _ (zones_at c.args.difference.now.left.now c.args.cell.now) c.into_iter-zone-iterator.result (c.into_iter-zone-iterator.ensures.into_iter_gives ∙ c.zones_of-zone-items.ensures)
    (refl, refl, λ high l r. spared_none c.args.difference.now.places.now c.args.difference.now.left.now c.args.cell.now c.args.difference.now.right.now c.args.difference.now.cap (high + 2 * c.args.out.now.period) c.args.out.now c.requires.subtract.valid, λ n at. grows_not (LiesInWideCell c.args.difference.now.left.now.period c.args.cell.now) (λ within. 0 * most_by c.args.difference.now.left.now.shape.times n) c.args.out.now)

pub add_taken-requires-clause-store : goal.add_taken-requires-clause-store
add_taken-requires-clause-store c =
    let can = c.requires.subtract.subtract in
    (c.loop-zone.invariant.holds.2 _ can.left_reach can.right_reach).grown.valid

pub add_taken-requires-clause-split : goal.add_taken-requires-clause-split
add_taken-requires-clause-split c =
    let read : slice_get (zones_at c.args.difference.now.left.now c.args.cell.now) c.loop-zone.invariant.place ≡ Some c.in-Some.zone = read_next _ (zones_at c.args.difference.now.left.now c.args.cell.now) c.loop-zone.zone-iterator c.loop-zone.invariant c.in-Some.zone c.next.new.self c.in-Some.ensures.steps in
    let kept = c.loop-zone.invariant.holds in
    taken_split c.args.difference.now.places.now c.args.difference.now.left.now c.requires.subtract.subtract.left_store c.args.cell.now c.requires.cell c.args.difference.now.right.now c.args.out.now.period c.requires.subtract.subtract c.loop-zone.invariant.place c.in-Some.zone read c.loop-zone.out (kept.0 ∙ c.requires.subtract.shape) kept.1

pub add_taken-requires-clause-texts : goal.add_taken-requires-clause-texts
add_taken-requires-clause-texts c =
    let read : slice_get (zones_at c.args.difference.now.left.now c.args.cell.now) c.loop-zone.invariant.place ≡ Some c.in-Some.zone = read_next _ (zones_at c.args.difference.now.left.now c.args.cell.now) c.loop-zone.zone-iterator c.loop-zone.invariant c.in-Some.zone c.next.new.self c.in-Some.ensures.steps in
    let kept = c.loop-zone.invariant.holds in
    taken_texts c.args.difference.now.places.now c.args.difference.now.left.now c.requires.subtract.subtract.left_store c.args.cell.now c.requires.cell c.args.difference.now.right.now c.args.out.now.period c.requires.subtract.subtract c.loop-zone.invariant.place c.in-Some.zone read c.loop-zone.out (kept.0 ∙ c.requires.subtract.shape) kept.1

pub add_taken-requires-clause-cut : goal.add_taken-requires-clause-cut
add_taken-requires-clause-cut c =
    let read : slice_get (zones_at c.args.difference.now.left.now c.args.cell.now) c.loop-zone.invariant.place ≡ Some c.in-Some.zone = read_next _ (zones_at c.args.difference.now.left.now c.args.cell.now) c.loop-zone.zone-iterator c.loop-zone.invariant c.in-Some.zone c.next.new.self c.in-Some.ensures.steps in
    let kept = c.loop-zone.invariant.holds in
    taken_cut c.args.difference.now.places.now c.args.difference.now.left.now c.requires.subtract.subtract.left_store c.args.cell.now c.requires.cell c.args.difference.now.right.now c.args.out.now.period c.requires.subtract.subtract c.loop-zone.invariant.place c.in-Some.zone read c.loop-zone.out (kept.0 ∙ c.requires.subtract.shape) kept.1

pub returns-in-Err-clause-refused : goal.returns-in-Err-clause-refused
returns-in-Err-clause-refused c = λ e high l r.
    let read : slice_get (zones_at c.args.difference.now.left.now c.args.cell.now) c.loop-zone.invariant.place ≡ Some c.in-Some.zone = read_next _ (zones_at c.args.difference.now.left.now c.args.cell.now) c.loop-zone.zone-iterator c.loop-zone.invariant c.in-Some.zone c.next.new.self c.in-Some.ensures.steps in
    let kept = c.loop-zone.invariant.holds in
    taken_refused c.args.difference.now.places.now c.args.difference.now.left.now c.requires.subtract.subtract.left_store c.args.cell.now c.requires.cell c.args.difference.now.right.now c.args.out.now.period c.requires.subtract.subtract c.loop-zone.invariant.place c.in-Some.zone read c.loop-zone.out (kept.0 ∙ c.requires.subtract.shape) kept.1 c.args.difference.now.cap high c.args.out.now c.add_taken.new.out (kept.2 high l r)
    (c.in-Err.ensures.refused e high (read_reach c.args.difference.now.left.now c.requires.subtract.subtract.left_store c.args.cell.now c.loop-zone.invariant.place c.in-Some.zone read high l) r)

pub loop-zone-preserved : goal.loop-zone-preserved
loop-zone-preserved c = read_goes _ _ (zones_at c.args.difference.now.left.now c.args.cell.now) c.loop-zone.zone-iterator c.loop-zone.invariant c.in-Some.zone c.next.new.self c.in-Some.ensures.steps (
    let read : slice_get (zones_at c.args.difference.now.left.now c.args.cell.now) c.loop-zone.invariant.place ≡ Some c.in-Some.zone = read_next _ (zones_at c.args.difference.now.left.now c.args.cell.now) c.loop-zone.zone-iterator c.loop-zone.invariant c.in-Some.zone c.next.new.self c.in-Some.ensures.steps in
    let kept = c.loop-zone.invariant.holds in
    let g = (c.in-Ok.ensures.ok (2 ^ 62 - 2 * c.loop-zone.out.period) (taken_reach c.args.difference.now.places.now c.args.difference.now.left.now c.requires.subtract.subtract.left_store c.args.cell.now c.requires.cell c.args.difference.now.right.now c.args.out.now.period c.requires.subtract.subtract c.loop-zone.invariant.place c.in-Some.zone read c.loop-zone.out.period kept.1) (taken_cut c.args.difference.now.places.now c.args.difference.now.left.now c.requires.subtract.subtract.left_store c.args.cell.now c.requires.cell c.args.difference.now.right.now c.args.out.now.period c.requires.subtract.subtract c.loop-zone.invariant.place c.in-Some.zone read c.loop-zone.out (kept.0 ∙ c.requires.subtract.shape) kept.1).reach).grown in (
      g.shape ∙ kept.0,
      g.period ∙ kept.1,
      λ high l r. taken_more c.args.difference.now.places.now c.args.difference.now.left.now c.requires.subtract.subtract.left_store c.args.cell.now c.requires.cell c.args.difference.now.right.now c.args.out.now.period c.requires.subtract.subtract c.loop-zone.invariant.place c.in-Some.zone read c.loop-zone.out (kept.0 ∙ c.requires.subtract.shape) kept.1 c.args.difference.now.cap high c.args.out.now c.add_taken.new.out (kept.2 high l r)
          (c.in-Ok.ensures.ok high (read_reach c.args.difference.now.left.now c.requires.subtract.subtract.left_store c.args.cell.now c.loop-zone.invariant.place c.in-Some.zone read high l) r),
      λ n at. zone_few c.args.difference.now.left.now c.requires.subtract.subtract.left_store c.args.cell.now c.requires.cell c.loop-zone.invariant.place c.in-Some.zone read c.args.out.now c.loop-zone.out c.add_taken.new.out (kept.0 ∙ c.requires.subtract.shape)
          (subst (λ (m : ℕ). Divides (pos c.args.difference.now.left.now.period) (pos m)) (sym kept.1) c.requires.subtract.subtract.left_multiple) n (kept.3 n at) (c.in-Ok.ensures.few n at),
    ))

pub returns-clause-ok : goal.returns-clause-ok
returns-clause-ok c = λ high l r.
    let all = read_ends _ (zones_at c.args.difference.now.left.now c.args.cell.now) c.loop-zone.zone-iterator c.loop-zone.invariant c.in-None.ensures.steps.0 in
    let e = length-map (tables_at c.args.difference.now.left.now c.args.cell.now) (zone_of c.args.difference.now.left.now c.args.cell.now) in
    spared_all c.args.difference.now.places.now c.args.difference.now.left.now c.args.cell.now c.args.difference.now.right.now c.args.difference.now.cap (high + 2 * c.args.out.now.period) c.args.out.now c.loop-zone.out c.loop-zone.invariant.place (omega (arith, all, e)) (c.loop-zone.invariant.holds.2 high l r)

pub returns-then-period-clause-few : goal.returns-then-period-clause-few
returns-then-period-clause-few c =
    let own = lies_within_own c.args.difference.now.left.now.period c.requires.subtract.subtract.left_store.period_low c.args.difference.now.left.now.shape c.args.cell.now c.requires.cell in
    on_ok _ _ c.add_same_cell.result (λ few n at. grows_at (LiesInWideCell c.args.difference.now.left.now.period c.args.cell.now) (λ within. most_spared c.args.difference.now.left.now n c.args.cell.now) c.args.cell.now c.args.out.now c.add_same_cell.new.out own (few n at)) c.add_same_cell.ensures.few

pub returns-clause-few : goal.returns-clause-few
returns-clause-few c = λ n at.
    let all = read_ends _ (zones_at c.args.difference.now.left.now c.args.cell.now) c.loop-zone.zone-iterator c.loop-zone.invariant c.in-None.ensures.steps.0 in
    let e = length-map (tables_at c.args.difference.now.left.now c.args.cell.now) (zone_of c.args.difference.now.left.now c.args.cell.now) in
    subst (λ k. GrowsIn (LiesInWideCell c.args.difference.now.left.now.period c.args.cell.now) (λ within. k * most_by c.args.difference.now.left.now.shape.times n) c.args.out.now c.loop-zone.out) (all ∙ e) (c.loop-zone.invariant.holds.3 n at)
