-- The next interval lies apart, or joins the last.
use Rattle.std.proofs.Common.{◌≡◌, ◌<◌, ◌∷◌, None, get_or, length, take, sym, subst, ◌∙◌, arith, to_z, of_z, w64}
use Rattle.std.proofs.lemmas.List.{nil_from_length}
use Rattle.std.specs.Prelude.{pos, All, AllPairs, Contains}
use Rattle.lrp_cutting.specs.declared.intervals.Interval.{Interval}
use Rattle.lrp_cutting.specs.Intervals.{BeginsBy, IsInterval}
use Rattle.lrp_cutting.specs.Lines.{AddsMerged}
use Rattle.lrp_cutting.proofs.AddingLaws.{AreAdding, adding_apart, adding_ends, adding_joined, adding_starts, merged_none, place_kept}
use Rattle.lrp_cutting.proofs.LineLaws.{word_pos}
use Rattle.lrp_cutting.proofs.Lists.{on_ok}
use Rattle.lrp_cutting.proofs.MergeLaws.{end_room, last_begins, before_next, more_taken, all_taken, next_is, first_is}
use Rattle.lrp_cutting.proofs.SpanLaws.{interval_stored}
use Rattle.lrp_cutting.proofs.line.add_merged.Goals.{then-is_apart+in_ok-add_span, else-is_apart}
use Rattle.lrp_cutting.proofs.line.add_merged.Goals as goal

pub loop-next-init : goal.loop-next-init
loop-next-init c = adding_starts c.args.cell.now c.args.zone.now c.in-Some.first.now c.args.made.now (first_is c.args.zone.now c.in-Some.first.now c.in-Some.rest.now (subst (All (IsInterval c.args.zone.now)) c.in-Some.ensures.cases.0 c.requires.intervals))

pub is_apart-requires : goal.is_apart-requires
is_apart-requires c = end_room c.args.zone.now c.loop-next.last.most _ (word_pos c.period.result c.args.zone.now.period c.period.ensures c.requires.place.zone.shape.period_high) c.loop-next.invariant.merging.interval.most

pub add_span-requires : goal.add_span-requires
add_span-requires c = record {
  column = c.requires.column;
  interval = interval_stored c.args.zone.now c.loop-next.last c.loop-next.invariant.merging.interval;
  place = place_kept c.args.cell.now c.args.zone.now c.loop-next.invariant.zones c.args.made.now c.loop-next.made c.loop-next.invariant.adds c.requires.place;
}

pub add_span-requires-2 : goal.add_span-requires-2
add_span-requires-2 c = record {
  column = c.requires.column;
  interval = interval_stored c.args.zone.now c.loop-next.last c.loop-next.invariant.merging.interval;
  place = place_kept c.args.cell.now c.args.zone.now c.loop-next.invariant.zones c.args.made.now c.loop-next.made c.loop-next.invariant.adds c.requires.place;
}

pub loop-next-preserved : goal.loop-next-preserved
loop-next-preserved c =
    let d : Interval = record { least = None; most = None } in
    let first : Interval = c.in-Some.first.now in
    let next : Interval = get_or c.in-Some.rest.now c.loop-next.next-index d in
    let order : AllPairs BeginsBy (first ∷ c.in-Some.rest.now) = subst (AllPairs BeginsBy) c.in-Some.ensures.cases.0 c.requires.order in
    let all : All (IsInterval c.args.zone.now) (first ∷ c.in-Some.rest.now) = subst (All (IsInterval c.args.zone.now)) c.in-Some.ensures.cases.0 c.requires.intervals in
    let begins : (u : Interval) → Contains (first ∷ take c.loop-next.next-index c.in-Some.rest.now) u → BeginsBy u next = before_next first c.in-Some.rest.now c.loop-next.next-index d order c.loop-next-test.true in
    let is : IsInterval c.args.zone.now next = next_is c.args.zone.now first c.in-Some.rest.now c.loop-next.next-index d all c.loop-next-test.true in
    let k : to_z w64 (of_z w64 c.period.result) ≡ pos c.args.zone.now.period = word_pos c.period.result c.args.zone.now.period c.period.ensures c.requires.place.zone.shape.period_high in
    let low : 0 < c.args.zone.now.period = c.requires.place.zone.shape.period_low in
    let merging = c.loop-next.invariant.merging in
    subst (λ l. AreAdding c.args.cell.now c.args.zone.now l c.args.made.now c.if-is_apart.made c.if-is_apart.last) (sym (more_taken first c.in-Some.rest.now c.loop-next.next-index d c.loop-next-test.true)) (elim c.if-is_apart.branch [
      | then-is_apart+in_ok-add_span w ↦ rw (w.made-is, w.last-is)
          (adding_apart c.args.cell.now c.args.zone.now _ c.args.made.now c.loop-next.made c.loop-next.last next c.loop-next.invariant w.add_span.new.made w.in_ok-add_span.ensures ((c.is_apart.ensures c.args.zone.now.period k).0 w.if-is_apart.true) begins is)
      | else-is_apart w ↦ rw (w.made-is, w.last-is)
          (adding_joined c.args.cell.now c.args.zone.now _ c.args.made.now c.loop-next.made c.loop-next.last next c.loop-next.invariant w.joined-last.result
          (w.joined-last.ensures c.args.zone.now low merging.interval is (last_begins c.args.zone.now _ c.loop-next.invariant.zones c.loop-next.last next merging begins) (λ a. cc ((c.is_apart.ensures c.args.zone.now.period k).1 a, w.if-is_apart.false))))
    ])

pub returns-in_default : goal.returns-in_default
returns-in_default c = rw (nil_from_length c.args.intervals.now c.in_default.ensures.cases) (merged_none c.args.cell.now c.args.zone.now c.args.made.now)

pub returns : goal.returns
returns c =
    let all : c.loop-next.next-index ≡ length c.in-Some.rest.now = omega (arith, c.loop-next.auto.next-index-end, c.loop-next-test.false) in
    on_ok _ (AddsMerged c.args.cell.now c.args.zone.now c.args.intervals.now c.args.made.now c.add_span-2.new.made) c.add_span-2.result
    (λ b. subst (λ l. AddsMerged c.args.cell.now c.args.zone.now l c.args.made.now c.add_span-2.new.made) (all_taken c.in-Some.first.now c.in-Some.rest.now c.loop-next.next-index all ∙ sym c.in-Some.ensures.cases.0)
    (adding_ends c.args.cell.now c.args.zone.now _ c.args.made.now c.loop-next.made c.add_span-2.new.made c.loop-next.last c.loop-next.invariant b))
    c.add_span-2.ensures
