-- The cutters are put in order and swept.
use Rattle.std.proofs.Common.{◌≡◌, ◌+◌, ◌≤◌, ◌^◌, ◌∷◌, map, refl, sym, subst, arith}
use Rattle.std.specs.Prelude.{All, AllPairs}
use Rattle.std.specs.List.Sorted.{IsPermutation}
use Rattle.lrp_zone.specs.Zones.{reach_of}
use Rattle.lrp_cutting.specs.Differences.{greatest_reach}
use Rattle.lrp_cutting.specs.Gaps.{AreGaps}
use Rattle.lrp_cutting.specs.Intervals.{BeginsBy, IsInterval, IsStoredInterval, span_of}
use Rattle.lrp_cutting.proofs.LineLaws.{all_intervals, begin_in_order}
use Rattle.lrp_cutting.proofs.Lists.{if_ok, reach_below}
use Rattle.lrp_cutting.proofs.SpanLaws.{interval_stored, span_interval}
use Rattle.lrp_cutting.proofs.SweepLaws.{gaps_left}
use Rattle.lrp_cutting.proofs.gaps.gaps.Goals as goal

pub swept-requires-clause-whole : goal.swept-requires-clause-whole
swept-requires-clause-whole c =
    let room : greatest_reach (c.args.zone.now ∷ c.args.cutters.now) + c.args.zone.now.period ≤ 2 ^ 62 = c.requires.reach in
    let own : reach_of c.args.zone.now ≤ greatest_reach (c.args.zone.now ∷ c.args.cutters.now) = reach_below (c.args.zone.now ∷ c.args.cutters.now) c.args.zone.now (0, omega arith, refl) in
    subst (IsStoredInterval c.args.zone.now) (sym c.interval_of.ensures.interval) (interval_stored c.args.zone.now (span_of c.args.zone.now) (span_interval c.args.zone.now c.interval_of.ensures.valid c.requires.column (omega arith)))

pub swept-requires-clause-cuts : goal.swept-requires-clause-cuts
swept-requires-clause-cuts c =
    let p : IsPermutation (map span_of c.args.cutters.now) c.sort_unstable.new.self.items = subst (λ l. IsPermutation l c.sort_unstable.new.self.items) c.in_ok-cuts.ensures.intervals c.sort_unstable.ensures.permutation in
    subst (All (IsInterval c.args.zone.now)) (sym c.deref.ensures.value) (all_intervals c.args.zone.now c.requires.column c.args.cutters.now c.requires.cell c.in_ok-cuts.ensures.valid c.sort_unstable.new.self.items p
    (λ w l.
    let room : greatest_reach (c.args.zone.now ∷ c.args.cutters.now) + c.args.zone.now.period ≤ 2 ^ 62 = c.requires.reach in
    let own : reach_of w ≤ greatest_reach c.args.cutters.now = reach_below c.args.cutters.now w l in
    let more : greatest_reach c.args.cutters.now ≤ greatest_reach (c.args.zone.now ∷ c.args.cutters.now) = omega arith in
    let same : w.period ≡ c.args.zone.now.period = (c.requires.cell.each w l).period in
    omega arith))

pub swept-requires-clause-order : goal.swept-requires-clause-order
swept-requires-clause-order c = subst (AllPairs BeginsBy) (sym c.deref.ensures.value) (begin_in_order c.sort_unstable.new.self.items c.sort_unstable.ensures.sorted)

pub returns : goal.returns
returns c =
    let p : IsPermutation (map span_of c.args.cutters.now) c.sort_unstable.new.self.items = subst (λ l. IsPermutation l c.sort_unstable.new.self.items) c.in_ok-cuts.ensures.intervals c.sort_unstable.ensures.permutation in
    if_ok (AreGaps c.args.zone.now c.interval_of.result c.deref.result.now) _ c.swept.result
    (λ made g. gaps_left c.args.zone.now c.requires.column c.interval_of.ensures.valid c.args.cutters.now c.requires.cell c.in_ok-cuts.ensures.valid c.sort_unstable.new.self.items p made c.requires.reach
    (subst (λ v. AreGaps c.args.zone.now v c.sort_unstable.new.self.items made) c.interval_of.ensures.interval (subst (λ l. AreGaps c.args.zone.now c.interval_of.result l made) c.deref.ensures.value g)))
    c.swept.ensures
