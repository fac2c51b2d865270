-- The points of the `in` tests of a formula.
use Rattle.std.specs.Prelude.{List, [], ◌∷◌, ◌++◌}
use Rattle.lrp_model.specs.Formulas.{Form, Forms, atom, test, sorted, negation, conjunction, disjunction, implication, exists, forall, no_forms, form}
use Rattle.lrp_model.specs.declared.relations.RowPoint.{RowPoint}
use Rattle.lrp_model.specs.declared.formulas.Test.{Test}
use Rattle.lrp_model.specs.declared.formulas.Test.TheVariants.{Compare, Member, Equal}

-- the point of an `in` test
abbrev pub test_points : Test → List RowPoint
test_points (Compare left op right) = []
test_points (Member term point) = point ∷ []
test_points (Equal left right) = []

-- those of a formula, in order
abbrev mutual
  pub points : Form → List RowPoint
  points (atom name terms) = []
  points (test t) = test_points t
  points (sorted s v) = []
  points (negation f) = points f
  points (conjunction fs) = points_each fs
  points (disjunction fs) = points_each fs
  points (implication f g) = points f ++ points g
  points (exists v s f) = points f
  points (forall v s f) = points f

  pub points_each : Forms → List RowPoint
  points_each no_forms = []
  points_each (form f fs) = points f ++ points_each fs
