-- One more pair is appended.
use Rattle.std.proofs.Common.{◌≤◌, ◌+◌, ◌++◌, ◌∷◌, [], ap, sym, ◌∙◌, arith, append_assoc}
use Rattle.lrp_cutting.specs.Thresholds.{row_of_pairs}
use Rattle.lrp_cutting.proofs.PairLists.{row_more}
use Rattle.lrp_cutting.proofs.pairs.push_row.Goals as goal

pub loop-right-preserved : goal.loop-right-preserved
loop-right-preserved c =
    let low : c.args.left + 1 ≤ c.loop-right.right = omega arith in
    c.in_ok-push.ensures.items
    ∙ ap (λ l. l ++ record { left = c.args.left; right = c.loop-right.right } ∷ []) c.loop-right.invariant
    ∙ append_assoc c.args.made.now.items (row_of_pairs c.loop-right.right c.args.left) _
    ∙ ap (λ l. c.args.made.now.items ++ l) (sym (row_more c.args.left c.loop-right.right low))
