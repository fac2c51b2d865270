use Rattle.lrp_kept.proofs.sources.last_text.Given as goal

-- nothing is kept: the first text that is found ends the loop
abbrev pub invariant-loop-turn : goal.invariant-loop-turn
invariant-loop-turn l = Unit {0}
