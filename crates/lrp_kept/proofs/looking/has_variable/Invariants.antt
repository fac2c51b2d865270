use Rattle.std.proofs.Common.{◌≡◌, drop}
use Rattle.std.specs.List.{list_any}
use Rattle.lrp_model.specs.RawTerms.{said_term}
use Rattle.lrp_model.specs.Variables.{bound_by, is_among, variables_of_term}
use Rattle.lrp_kept.proofs.looking.has_variable.Given as goal

-- some has the variable if one of those that are left has
abbrev pub invariant-loop-term : goal.invariant-loop-term
invariant-loop-term l =
    list_any (λ t. is_among (variables_of_term (said_term t)) (bound_by l.sort l.name)) (drop l.term-index l.terms) ≡ list_any (λ t. is_among (variables_of_term (said_term t)) (bound_by l.sort l.name)) l.terms
