-- The intervals are put in order and merged.
use Rattle.std.proofs.Common.{◌∷◌, ◌∙◌, sym, subst}
use Rattle.std.specs.Prelude.{All, AllPairs}
use Rattle.lrp_cutting.specs.Intervals.{BeginsBy, IsInterval}
use Rattle.lrp_cutting.specs.Lines.{AddsMerged, HaveNumbers}
use Rattle.lrp_cutting.specs.Settling.{SettlesCell}
use Rattle.lrp_cutting.proofs.AddingLaws.{line_settles, none_settled}
use Rattle.lrp_cutting.proofs.LineLaws.{begin_in_order}
use Rattle.lrp_cutting.proofs.Lists.{on_ok}
use Rattle.lrp_cutting.proofs.TurnLaws.{cell_on_line, cell_place, numbers_all, numbers_moved}
use Rattle.lrp_cutting.proofs.line.settle_line.Goals as goal

pub intervals_in_turn-requires : goal.intervals_in_turn-requires
intervals_in_turn-requires c = cell_on_line c.args.store.now c.shape.ensures.valid c.args.cell.now c.requires.column c.in-Some.first c.next.new.self (sym c.zones_of-zones.ensures ∙ c.in-Some.ensures.steps) c.requires.reach

pub add_merged-requires-clause-column : goal.add_merged-requires-clause-column
add_merged-requires-clause-column c = (cell_on_line c.args.store.now c.shape.ensures.valid c.args.cell.now c.requires.column c.in-Some.first c.next.new.self (sym c.zones_of-zones.ensures ∙ c.in-Some.ensures.steps) c.requires.reach).column

pub add_merged-requires-clause-intervals : goal.add_merged-requires-clause-intervals
add_merged-requires-clause-intervals c = subst (All (IsInterval c.in-Some.first)) (sym c.deref.ensures.value)
    (numbers_all c.in-Some.first (c.in-Some.first ∷ c.next.new.self) c.sort_unstable.new.self.items
    (numbers_moved c.in-Some.first (c.in-Some.first ∷ c.next.new.self) c.in_ok-intervals.intervals.items c.sort_unstable.new.self.items c.in_ok-intervals.ensures c.sort_unstable.ensures.permutation))

pub add_merged-requires-clause-order : goal.add_merged-requires-clause-order
add_merged-requires-clause-order c = subst (AllPairs BeginsBy) (sym c.deref.ensures.value) (begin_in_order c.sort_unstable.new.self.items c.sort_unstable.ensures.sorted)

pub add_merged-requires-clause-place : goal.add_merged-requires-clause-place
add_merged-requires-clause-place c = cell_place c.args.store.now c.shape.ensures.valid c.args.cell.now c.requires.column c.in-Some.first c.next.new.self (sym c.zones_of-zones.ensures ∙ c.in-Some.ensures.steps) c.args.made.now c.requires.like

pub returns : goal.returns
returns c =
    let line = cell_on_line c.args.store.now c.shape.ensures.valid c.args.cell.now c.requires.column c.in-Some.first c.next.new.self (sym c.zones_of-zones.ensures ∙ c.in-Some.ensures.steps) c.requires.reach in
    let n : HaveNumbers c.in-Some.first (c.in-Some.first ∷ c.next.new.self) c.sort_unstable.new.self.items = numbers_moved c.in-Some.first (c.in-Some.first ∷ c.next.new.self) c.in_ok-intervals.intervals.items c.sort_unstable.new.self.items c.in_ok-intervals.ensures c.sort_unstable.ensures.permutation in
    on_ok _ (SettlesCell c.args.cell.now c.args.store.now c.args.made.now c.add_merged.new.made) c.add_merged.result
    (λ m. line_settles c.args.cell.now c.args.store.now c.in-Some.first c.next.new.self c.sort_unstable.new.self.items c.args.made.now c.add_merged.new.made (sym c.zones_of-zones.ensures ∙ c.in-Some.ensures.steps) line n
    (subst (λ l. AddsMerged c.args.cell.now c.in-Some.first l c.args.made.now c.add_merged.new.made) c.deref.ensures.value m))
    c.add_merged.ensures

pub returns-in_default : goal.returns-in_default
returns-in_default c = none_settled c.args.cell.now c.args.store.now c.args.made.now (sym c.zones_of-zones.ensures ∙ c.in_default.ensures.steps.0)
