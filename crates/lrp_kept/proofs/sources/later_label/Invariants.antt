use Rattle.lrp_kept.proofs.sources.later_label.Given as goal

-- nothing is kept: the first sketch for a later atom ends the loop
abbrev pub invariant-loop-sketch : goal.invariant-loop-sketch
invariant-loop-sketch l = Unit {0}
