use Rattle.std.proofs.Common.{◌≡◌, take}
use Rattle.lrp_kept.proofs.disjuncts.equal_terms.Given as goal

-- the copies so far are of the terms so far
abbrev pub invariant-loop-term : goal.invariant-loop-term
invariant-loop-term l = l.made.items ≡ take l.term-index l.terms
