-- The next interval lies apart, or joins the last.
use Rattle.std.proofs.Common.{◌≡◌, ◌<◌, ◌≤◌, ◌^◌, ◌∷◌, None, get_or, length, take, sym, subst, arith, to_z, of_z, w64}
use Rattle.std.specs.Prelude.{pos, Contains}
use Rattle.std.proofs.lemmas.Int.{ints}
use Rattle.lrp_cutting.specs.declared.intervals.Interval.{Interval}
use Rattle.lrp_cutting.specs.Intervals.{BeginsBy, IsInterval, AreMerged}
use Rattle.lrp_cutting.proofs.MergeLaws.{AreMerging, merging_start, merging_apart, merging_joined, merging_end, last_begins, before_next, more_taken, all_taken, next_is, first_is}
use Rattle.lrp_cutting.proofs.SpanLaws.{interval_stored}
use Rattle.lrp_cutting.proofs.intervals.merged.Goals.{then-is_apart+in_ok-zone_of+in_ok-push, else-is_apart}
use Rattle.lrp_cutting.proofs.intervals.merged.Goals as goal

pub loop-next-init : goal.loop-next-init
loop-next-init c = rw c.new-made.ensures (merging_start c.args.cell.now c.args.first (first_is c.args.cell.now c.args.first c.args.rest.now c.requires.intervals))

pub zone_of-requires-clause-interval : goal.zone_of-requires-clause-interval
zone_of-requires-clause-interval c = interval_stored c.args.cell.now c.loop-next.last c.loop-next.invariant.interval

pub zone_of-requires-2-clause-interval : goal.zone_of-requires-2-clause-interval
zone_of-requires-2-clause-interval c = interval_stored c.args.cell.now c.loop-next.last c.loop-next.invariant.interval

pub loop-next-preserved : goal.loop-next-preserved
loop-next-preserved c =
    let d : Interval = record { least = None; most = None } in
    let next : Interval = get_or c.args.rest.now c.loop-next.next-index d in
    let begins : (u : Interval) → Contains (c.args.first ∷ take c.loop-next.next-index c.args.rest.now) u → BeginsBy u next = before_next c.args.first c.args.rest.now c.loop-next.next-index d c.requires.order c.loop-next-test.true in
    let is : IsInterval c.args.cell.now next = next_is c.args.cell.now c.args.first c.args.rest.now c.loop-next.next-index d c.requires.intervals c.loop-next-test.true in
    let high : c.args.cell.now.period ≤ 2 ^ 62 = c.requires.zone.shape.period_high in
    let low : 0 < c.args.cell.now.period = c.requires.zone.shape.period_low in
    let k : to_z w64 (of_z w64 c.period.result) ≡ pos c.args.cell.now.period = omega (arith, ints, c.period.ensures) in
    subst (λ l. AreMerging c.args.cell.now l c.if-is_apart.made c.if-is_apart.last) (sym (more_taken c.args.first c.args.rest.now c.loop-next.next-index d c.loop-next-test.true)) (elim c.if-is_apart.branch [
      | then-is_apart+in_ok-zone_of+in_ok-push w ↦ rw (w.made-is, w.last-is, w.in_ok-push.ensures.ok)
          (merging_apart c.args.cell.now _ c.loop-next.made c.loop-next.last next c.loop-next.invariant w.in_ok-zone_of.field-0 w.in_ok-zone_of.ensures ((c.is_apart.ensures c.args.cell.now.period k).0 w.if-is_apart.true) begins is)
      | else-is_apart w ↦ rw (w.made-is, w.last-is)
          (merging_joined c.args.cell.now _ c.loop-next.made c.loop-next.last next c.loop-next.invariant w.joined-last.result
          (w.joined-last.ensures c.args.cell.now low c.loop-next.invariant.interval is (last_begins c.args.cell.now _ c.loop-next.made c.loop-next.last next c.loop-next.invariant begins) (λ a. cc ((c.is_apart.ensures c.args.cell.now.period k).1 a, w.if-is_apart.false))))
    ])

pub returns : goal.returns
returns c =
    let all : c.loop-next.next-index ≡ length c.args.rest.now = omega (arith, c.loop-next.auto.next-index-end, c.loop-next-test.false) in
    subst (λ l. AreMerged c.args.cell.now l c.push-2.new.self) (all_taken c.args.first c.args.rest.now c.loop-next.next-index all)
    (rw c.in_ok-push-2.ensures.ok (merging_end c.args.cell.now _ c.loop-next.made c.loop-next.last c.args.first c.loop-next.invariant c.in_ok-zone_of-2.field-0 c.in_ok-zone_of-2.ensures))
