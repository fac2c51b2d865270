-- The headings so far are those of the relations so far.
use Rattle.std.proofs.Common.{take}
use Rattle.lrp_edits.specs.EditGathered.{AreHeadings}
use Rattle.lrp_edits.proofs.headings.headings_of.Given as goal

abbrev pub invariant-loop-relation : goal.invariant-loop-relation
invariant-loop-relation l = AreHeadings (take l.relation-index l.relations) l.made
