-- The intervals are put in order and merged.
use Rattle.std.proofs.Common.{◌≡◌, ◌∷◌, ◌∙◌, map, sym, subst}
use Rattle.std.specs.Prelude.{All, AllPairs}
use Rattle.std.specs.List.Sorted.{IsPermutation}
use Rattle.lrp_cutting.specs.Intervals.{AreMerged, BeginsBy, IsInterval, span_of}
use Rattle.lrp_cutting.specs.Settling.{IsSettlement}
use Rattle.lrp_cutting.proofs.LineLaws.{all_intervals, begin_in_order, have_numbers, merged_settled}
use Rattle.lrp_cutting.proofs.Lists.{if_ok}
use Rattle.lrp_cutting.proofs.intervals.maximal.Goals as goal

pub merged-requires-clause-intervals : goal.merged-requires-clause-intervals
merged-requires-clause-intervals c =
    let e : c.sort_unstable.new.self.items ≡ c.in-Some.first.now ∷ c.in-Some.rest.now = sym c.deref.ensures.value ∙ c.in-Some.ensures.cases.0 in
    let p : IsPermutation (map span_of c.args.zones.now) c.sort_unstable.new.self.items = subst (λ l. IsPermutation l c.sort_unstable.new.self.items) c.in_ok-intervals.ensures.intervals c.sort_unstable.ensures.permutation in
    subst (All (IsInterval c.args.cell.now)) e (all_intervals c.args.cell.now c.requires.column c.args.zones.now c.requires.cell c.in_ok-intervals.ensures.valid c.sort_unstable.new.self.items p c.requires.reach)

pub merged-requires-clause-order : goal.merged-requires-clause-order
merged-requires-clause-order c =
    let e : c.sort_unstable.new.self.items ≡ c.in-Some.first.now ∷ c.in-Some.rest.now = sym c.deref.ensures.value ∙ c.in-Some.ensures.cases.0 in
    subst (AllPairs BeginsBy) e (begin_in_order c.sort_unstable.new.self.items c.sort_unstable.ensures.sorted)

pub returns : goal.returns
returns c =
    let e : c.sort_unstable.new.self.items ≡ c.in-Some.first.now ∷ c.in-Some.rest.now = sym c.deref.ensures.value ∙ c.in-Some.ensures.cases.0 in
    let p : IsPermutation (map span_of c.args.zones.now) c.sort_unstable.new.self.items = subst (λ l. IsPermutation l c.sort_unstable.new.self.items) c.in_ok-intervals.ensures.intervals c.sort_unstable.ensures.permutation in
    if_ok _ (IsSettlement c.args.cell.now c.args.zones.now) c.merged.result
    (λ made m. merged_settled c.args.cell.now c.requires.column c.args.zones.now c.requires.cell c.sort_unstable.new.self.items
    (have_numbers c.args.cell.now c.requires.column c.args.zones.now c.requires.cell c.in_ok-intervals.ensures.valid c.sort_unstable.new.self.items p c.requires.reach) made (subst (λ l. AreMerged c.args.cell.now l made) (sym e) m)) c.merged.ensures
