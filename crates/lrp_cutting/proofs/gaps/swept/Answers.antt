-- One interval more is swept.
use Rattle.std.proofs.Common.{◌≡◌, ◌<◌, ◌≤◌, ◌^◌, ℕ, List, Option, Some, None, get_or, length, take, refl, sym, subst, arith, to_z, of_z, w64}
use Rattle.std.specs.Prelude.{ℤ, pos, Contains, AllPairs, IfSome}
use Rattle.std.proofs.Math.Seq.{take-length}
use Rattle.std.proofs.lemmas.Int.{ints}
use Rattle.std.proofs.lemmas.List.{get_or_default, take_more}
use Rattle.lrp_cutting.specs.declared.intervals.Interval.{Interval}
use Rattle.lrp_cutting.specs.Gaps.{AreGaps, IsPartAbove, IsPartBelow}
use Rattle.lrp_cutting.specs.Intervals.{BeginsBy, IsInterval, IsStoredInterval}
use Rattle.lrp_cutting.proofs.Lists.{before}
use Rattle.lrp_cutting.proofs.SweepLaws.{AreSweeping, all_swept, sweeping_end, sweeping_more, sweeping_start}
use Rattle.lrp_cutting.proofs.gaps.swept.Goals as goal

-- the interval at a place
abbrev cut_at : List Interval → ℕ → Interval
cut_at cuts i = get_or cuts i (record { least = None; most = None })

before_it : (cuts : List Interval) (i : ℕ) → AllPairs BeginsBy cuts → i < length cuts → (u : Interval) → Contains (take i cuts) u → BeginsBy u (cut_at cuts i)
before_it cuts i order lt = before BeginsBy cuts i (cut_at cuts i) order lt (get_or_default cuts i (record { least = None; most = None }) (cut_at cuts i) lt)

if_some : {X : Type 0} (o : Option X) (P : X → Type 0) → ((x : X) → o ≡ Some x → P x) → IfSome o P
if_some None P h = tt
if_some (Some x) P h = h x refl

-- the period as it is passed
passed : (k : ℕ) (p : ℤ) → p ≡ pos k → k ≤ 2 ^ 62 → to_z w64 (of_z w64 p) ≡ pos k
passed k p e h = omega (arith, ints)

pub loop-cut-init : goal.loop-cut-init
loop-cut-init c = rw c.new-made.ensures (sweeping_start c.args.cell.now c.args.whole c.requires.whole)

pub push_span-requires-clause-part : goal.push_span-requires-clause-part
push_span-requires-clause-part c =
    let lp : IsPartBelow c.args.cell.now c.loop-cut.rest (cut_at c.args.cuts.now c.loop-cut.cut-index) c.below.result = c.below.ensures c.args.cell.now (passed c.args.cell.now.period c.period.result c.period.ensures c.requires.zone.shape.period_high) c.requires.zone.shape.period_low c.loop-cut.invariant.interval (c.requires.cuts c.loop-cut.cut-index (record { least = None; most = None }) c.loop-cut-test.true) in
    if_some c.below.result (IsStoredInterval c.args.cell.now) lp.interval

pub returns-in-None : goal.returns-in-None
returns-in-None c =
    let is : IsInterval c.args.cell.now (cut_at c.args.cuts.now c.loop-cut.cut-index) = c.requires.cuts c.loop-cut.cut-index (record { least = None; most = None }) c.loop-cut-test.true in
    let lp : IsPartBelow c.args.cell.now c.loop-cut.rest (cut_at c.args.cuts.now c.loop-cut.cut-index) c.below.result = c.below.ensures c.args.cell.now (passed c.args.cell.now.period c.period.result c.period.ensures c.requires.zone.shape.period_high) c.requires.zone.shape.period_low c.loop-cut.invariant.interval is in
    let ap : IsPartAbove c.args.cell.now c.loop-cut.rest (cut_at c.args.cuts.now c.loop-cut.cut-index) c.above.result = c.above.ensures c.args.cell.now (passed c.args.cell.now.period c.period-in-loop-cut.result c.period-in-loop-cut.ensures c.requires.zone.shape.period_high) c.requires.zone.shape.period_low c.loop-cut.invariant.interval is in
    all_swept c.args.cell.now c.args.whole c.args.cuts.now c.loop-cut.cut-index c.requires.order c.loop-cut-test.true c.loop-cut.made c.loop-cut.rest (record { least = None; most = None }) c.loop-cut.invariant is
    (before_it c.args.cuts.now c.loop-cut.cut-index c.requires.order c.loop-cut-test.true) c.below.result lp c.push_span.new.made c.in_ok-push_span.ensures c.above.result ap c.in-None.is

pub loop-cut-preserved : goal.loop-cut-preserved
loop-cut-preserved c =
    let is : IsInterval c.args.cell.now (cut_at c.args.cuts.now c.loop-cut.cut-index) = c.requires.cuts c.loop-cut.cut-index (record { least = None; most = None }) c.loop-cut-test.true in
    let lp : IsPartBelow c.args.cell.now c.loop-cut.rest (cut_at c.args.cuts.now c.loop-cut.cut-index) c.below.result = c.below.ensures c.args.cell.now (passed c.args.cell.now.period c.period.result c.period.ensures c.requires.zone.shape.period_high) c.requires.zone.shape.period_low c.loop-cut.invariant.interval is in
    let ap : IsPartAbove c.args.cell.now c.loop-cut.rest (cut_at c.args.cuts.now c.loop-cut.cut-index) c.above.result = c.above.ensures c.args.cell.now (passed c.args.cell.now.period c.period-in-loop-cut.result c.period-in-loop-cut.ensures c.requires.zone.shape.period_high) c.requires.zone.shape.period_low c.loop-cut.invariant.interval is in
    subst (λ l. AreSweeping c.args.cell.now c.args.whole l c.push_span.new.made c.in-Some.left) (sym (take_more c.args.cuts.now c.loop-cut.cut-index (record { least = None; most = None }) c.loop-cut-test.true))
    (sweeping_more c.args.cell.now c.args.whole (take c.loop-cut.cut-index c.args.cuts.now) c.loop-cut.made c.loop-cut.rest (cut_at c.args.cuts.now c.loop-cut.cut-index) c.loop-cut.invariant is
    (before_it c.args.cuts.now c.loop-cut.cut-index c.requires.order c.loop-cut-test.true) c.below.result lp c.push_span.new.made c.in_ok-push_span.ensures c.above.result c.in-Some.left ap c.in-Some.is)

pub zone_of-requires-clause-interval : goal.zone_of-requires-clause-interval
zone_of-requires-clause-interval c = c.loop-cut.invariant.interval

pub returns : goal.returns
returns c =
    let all : c.loop-cut.cut-index ≡ length c.args.cuts.now = omega (arith, c.loop-cut.auto.cut-index-end, c.loop-cut-test.false) in
    let m : AreSweeping c.args.cell.now c.args.whole c.args.cuts.now c.loop-cut.made c.loop-cut.rest = subst (λ l. AreSweeping c.args.cell.now c.args.whole l c.loop-cut.made c.loop-cut.rest) (all_taken_cuts c.args.cuts.now c.loop-cut.cut-index all) c.loop-cut.invariant in
    subst (AreGaps c.args.cell.now c.args.whole c.args.cuts.now) (sym c.in_ok-push.ensures.ok) (sweeping_end c.args.cell.now c.args.whole c.args.cuts.now c.loop-cut.made c.loop-cut.rest c.in_ok-zone_of.field-0 m c.in_ok-zone_of.ensures)
  where
    all_taken_cuts : (cuts : List Interval) (k : ℕ) → k ≡ length cuts → take k cuts ≡ cuts
    all_taken_cuts cuts k e = rw e (take-length cuts)
