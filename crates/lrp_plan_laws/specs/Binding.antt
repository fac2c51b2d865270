-- Which variables a formula binds: a formula that binds all of its own needs no guard, since its table is no wider than its atoms.
use Rattle.std.specs.Prelude.{Bool, true, false, not, ◌&&◌, List, [], ◌∷◌, ◌++◌, filter, flat_map}
use Rattle.lrp_model.specs.Formulas.{Form, Forms, atom, test, sorted, negation, conjunction, disjunction, implication, exists, forall, no_forms, form}
use Rattle.lrp_model.specs.Variables.{Variable, data_variable, bound_by, same_variable, is_among, are_among, meet, variables_of_term, free}

-- an atom binds its variables and a sort element its own; an `and` binds what an element binds, and an `or` what each member binds
abbrev mutual
  pub binds : Form → List Variable
  binds (atom name terms) = flat_map variables_of_term terms
  binds (test t) = []
  binds (sorted s v) = data_variable v ∷ []
  binds (negation f) = []
  binds (conjunction fs) = binds_some fs
  binds (disjunction fs) = binds_each fs
  binds (implication f g) = []
  binds (exists v s f) = filter (λ w. not (same_variable (bound_by s v) w)) (binds f)
  binds (forall v s f) = []

  -- what some of the formulas binds
  pub binds_some : Forms → List Variable
  binds_some no_forms = []
  binds_some (form f fs) = binds f ++ binds_some fs

  -- what each of the formulas binds
  pub binds_each : Forms → List Variable
  binds_each no_forms = []
  binds_each (form f no_forms) = binds f
  binds_each (form f fs) = filter (is_among (binds_each fs)) (binds f)

-- the formula binds each variable that is free in it
abbrev pub is_bound : Form → Bool
is_bound f = are_among (free f) (binds f)

-- an atom, a sort element or a test
abbrev pub is_leaf : Form → Bool
is_leaf (atom name terms) = true
is_leaf (test t) = true
is_leaf (sorted s v) = true
is_leaf (negation f) = false
is_leaf (conjunction fs) = false
is_leaf (disjunction fs) = false
is_leaf (implication f g) = false
is_leaf (exists v s f) = false
is_leaf (forall v s f) = false

-- a step with these variables guards the formula: they share one, and the formula is not bound
abbrev pub is_guarded_by : List Variable → Form → Bool
is_guarded_by vs f = not (is_bound f) && meet (free f) vs
