use Rattle.lrp_kept.proofs.spans.are_apart_somewhere.Given as goal

-- nothing is kept: the first two spans that are apart end the loop
abbrev pub invariant-loop-i : goal.invariant-loop-i
invariant-loop-i l = Unit {0}
