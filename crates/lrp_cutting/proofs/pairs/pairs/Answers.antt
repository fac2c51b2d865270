-- One more row is appended.
use Rattle.std.proofs.Common.{◌++◌, ap, sym, ◌∙◌}
use Rattle.lrp_cutting.specs.Thresholds.{row_of_pairs}
use Rattle.lrp_cutting.proofs.PairLists.{rows_more}
use Rattle.lrp_cutting.proofs.pairs.pairs.Goals as goal

pub loop-left-preserved : goal.loop-left-preserved
loop-left-preserved c = c.in_ok-push_row.ensures ∙ ap (λ l. l ++ row_of_pairs c.args.nodes c.loop-left.left) c.loop-left.invariant ∙ sym (rows_more c.args.nodes c.loop-left.left)
