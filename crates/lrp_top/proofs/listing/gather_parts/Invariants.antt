-- The page of the parts so far.
use Rattle.std.proofs.Common.{◌≤◌, Contains, length, take}
use Rattle.lrp_answers.specs.declared.answer.Answer.{Answer}
use Rattle.lrp_top.specs.Parts.{IsPageOfParts}
use Rattle.lrp_top.proofs.listing.gather_parts.Given as goal

abbrev pub invariant-loop-i : goal.invariant-loop-i
invariant-loop-i l = record {
  low : l.i ≤ length l.parts;
  page : (part : Answer) → Contains l.parts part → IsPageOfParts (take l.i l.parts) l.paging l.after part l.page;
}
