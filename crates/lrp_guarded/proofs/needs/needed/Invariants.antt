use Rattle.std.proofs.Common.{◌≡◌, filter, not, map}
use Rattle.lrp_model.specs.RawTerms.{said_term}
use Rattle.lrp_plan_laws.specs.GuardedConjunctions.{stands_alone}
use Rattle.lrp_guarded.specs.Needs.{sort_element}
use Rattle.lrp_guarded.proofs.needs.needed.Given as goal

-- those so far were looked at
abbrev pub invariant-loop-sort : goal.invariant-loop-sort
invariant-loop-sort l = l.left.items ≡ filter (λ e. not (stands_alone (sort_element e) l.columns (map said_term l.terms))) l.yielded
