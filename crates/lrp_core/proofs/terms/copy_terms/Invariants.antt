use Rattle.std.proofs.Common.{◌≡◌, map, take}
use Rattle.lrp_model.specs.RawTerms.{said_term}
use Rattle.lrp_core.proofs.terms.copy_terms.Given as goal

-- what the terms so far say
abbrev pub invariant-loop-term : goal.invariant-loop-term
invariant-loop-term l = l.made.items ≡ map said_term (take l.term-index l.terms)
