-- What of a plan can be written: the points of its `in` tests have periods.
use Rattle.std.specs.Prelude.{◌≤ℤ◌, pos}
use Rattle.std.specs.List.{AllByRecursion}
use Rattle.lrp_model.specs.declared.formulas.Test.{Test}
use Rattle.lrp_model.specs.declared.formulas.Test.TheVariants.{Compare, Member, Equal}
use Rattle.lrp_model.specs.declared.plans.StepKind.{StepKind}
use Rattle.lrp_model.specs.declared.plans.StepKind.TheVariants.{Scan, Leaf, Sort, Join, Select, Union, Minus, Complement, DropTime, DropData, Extend}
use Rattle.lrp_model.specs.declared.plans.Step.{Step}

-- the period of an `in` test's point is at least 1
abbrev pub TestHasPeriod : Test → Type 0
TestHasPeriod (Compare left op right) = Unit {0}
TestHasPeriod (Member term point) = pos 1 ≤ℤ point.period
TestHasPeriod (Equal left right) = Unit {0}

-- each test of a step has its period
abbrev pub KindHasPeriods : StepKind → Type 0
KindHasPeriods (Scan name terms) = Unit {0}
KindHasPeriods (Leaf t) = TestHasPeriod t
KindHasPeriods (Sort v s texts) = Unit {0}
KindHasPeriods (Join left right tests) = AllByRecursion TestHasPeriod tests
KindHasPeriods (Select of t) = TestHasPeriod t
KindHasPeriods (Union left right) = Unit {0}
KindHasPeriods (Minus left right) = Unit {0}
KindHasPeriods (Complement of) = Unit {0}
KindHasPeriods (DropTime of v) = Unit {0}
KindHasPeriods (DropData of v) = Unit {0}
KindHasPeriods (Extend of) = Unit {0}

abbrev pub StepHasPeriods : Step → Type 0
StepHasPeriods s = KindHasPeriods s.kind
