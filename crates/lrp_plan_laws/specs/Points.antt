-- The points of the tests of a step.
use Rattle.std.specs.Prelude.{List, [], flat_map}
use Rattle.lrp_model.specs.TestPoints.{test_points}
use Rattle.lrp_model.specs.declared.relations.RowPoint.{RowPoint}
use Rattle.lrp_model.specs.declared.plans.StepKind.{StepKind}
use Rattle.lrp_model.specs.declared.plans.StepKind.TheVariants.{Leaf, Join, Select}

abbrev pub step_points : StepKind → List RowPoint
step_points (Leaf t) = test_points t
step_points (Join left right tests) = flat_map test_points tests
step_points (Select of t) = test_points t
step_points kind = []
