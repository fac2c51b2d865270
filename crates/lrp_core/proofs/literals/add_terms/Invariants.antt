use Rattle.std.proofs.Common.{◌≡◌, ◌++◌, map, take}
use Rattle.lrp_model.specs.RawTerms.{said_term}
use Rattle.lrp_model.specs.Domains.{term_texts}
use Rattle.lrp_core.proofs.literals.add_terms.Given as goal

-- those of the terms so far
abbrev pub invariant-loop-i : goal.invariant-loop-i
invariant-loop-i l = l.all.items ≡ l.fn.all.items ++ term_texts l.columns (map said_term (take l.i l.terms))
