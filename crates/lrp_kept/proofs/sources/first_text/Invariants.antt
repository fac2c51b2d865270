use Rattle.lrp_kept.proofs.sources.first_text.Given as goal

-- nothing is kept: the first text that is found ends the loop
abbrev pub invariant-loop-place : goal.invariant-loop-place
invariant-loop-place l = Unit {0}
