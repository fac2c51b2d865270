-- The ranges are those of the window, whose ends are dated where it is.
use Rattle.std.proofs.Common.{of_z, subst, to_z, w64}
use Rattle.lrp_count.specs.Ranges.{AreRanges, IsAnswerTime}
use Rattle.lrp_store.specs.Tables.{InAnswer}
use Rattle.lrp_top.proofs.Counted.{ranges_dates, word_ends}
use Rattle.lrp_top.proofs.Listed.{word}
use Rattle.lrp_top.proofs.counting.lines_of.Goals as goal

pub first_ranges-requires-clause-ends : goal.first_ranges-requires-clause-ends
first_ranges-requires-clause-ends c = let p = c.args.ranging.now in word_ends p.civil p.from p.to c.requires.from c.requires.to

pub invariant_of-result : goal.invariant_of-result
invariant_of-result c =
    let p = c.args.ranging.now in
    record { dates = ranges_dates p.civil _ p.from p.to _ _ c.requires.from c.requires.to (word p.from c.requires.from.low c.requires.from.high) (word p.to c.requires.to.low c.requires.to.high) _ _ _ c.in_ok-found.ensures }

pub returns-clause-ranges : goal.returns-clause-ranges
returns-clause-ranges c =
    let p = c.args.ranging.now in
    let a = c.args.answer.now in
    let found = c.in_ok-found.found in
    subst (λ to. AreRanges (IsAnswerTime (InAnswer a.head.columns a.domain a.store)) p.from to p.limit found.ranges found.more) (word p.to c.requires.to.low c.requires.to.high)
    (subst (λ from. AreRanges (IsAnswerTime (InAnswer a.head.columns a.domain a.store)) from (to_z w64 (of_z w64 p.to)) p.limit found.ranges found.more) (word p.from c.requires.from.low c.requires.from.high) c.in_ok-found.ensures)
