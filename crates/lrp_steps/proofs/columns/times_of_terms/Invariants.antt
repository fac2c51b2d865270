-- The variables of the terms that are after.
use Rattle.std.proofs.Common.{◌≡◌, take}
use Rattle.std.specs.Prelude.{flat_map}
use Rattle.lrp_tables.specs.Columns.{times_of_term}
use Rattle.lrp_steps.proofs.columns.times_of_terms.Given as goal

abbrev pub invariant-loop-term : goal.invariant-loop-term
invariant-loop-term l = l.names ≡ flat_map times_of_term (take l.term-index l.terms)
