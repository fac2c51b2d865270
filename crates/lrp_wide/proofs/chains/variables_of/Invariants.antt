use Rattle.lrp_wide.proofs.ChainTerms.{AreVariablesTo}
use Rattle.lrp_wide.proofs.chains.variables_of.Given as goal

-- the first terms are variables
abbrev pub invariant-loop-i : goal.invariant-loop-i
invariant-loop-i l = AreVariablesTo l.columns l.terms l.i l.names.items
