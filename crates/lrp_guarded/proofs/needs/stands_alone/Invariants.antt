use Rattle.std.proofs.Common.{◌≡◌, drop, map}
use Rattle.lrp_model.specs.RawTerms.{said_term}
use Rattle.lrp_plan_laws.specs.GuardedConjunctions.{stands_alone}
use Rattle.lrp_guarded.specs.Needs.{sort_element}
use Rattle.lrp_guarded.proofs.needs.stands_alone.Given as goal

-- the columns and terms that are left decide
abbrev pub invariant-loop-i : goal.invariant-loop-i
invariant-loop-i l = stands_alone (sort_element l.element) (drop l.i l.columns) (map said_term (drop l.i l.terms)) ≡ stands_alone (sort_element l.element) l.columns (map said_term l.terms)
