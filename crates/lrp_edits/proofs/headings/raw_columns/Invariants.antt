-- The columns so far are those written so far.
use Rattle.std.proofs.Common.{◌≡◌, take}
use Rattle.lrp_edits.specs.EditMeaning.{written_columns}
use Rattle.lrp_edits.proofs.headings.raw_columns.Given as goal

abbrev pub invariant-loop-column : goal.invariant-loop-column
invariant-loop-column l = l.made ≡ written_columns (take l.column-index l.columns)
