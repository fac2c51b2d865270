use Rattle.lrp_kept.proofs.rows.HeldRow.outline.Given as goal

-- nothing is kept: the first sketch that is found ends the loop
abbrev pub invariant-loop-sketch : goal.invariant-loop-sketch
invariant-loop-sketch l = Unit {0}
