-- A column of another group than the first.
use Rattle.std.proofs.Common.{arith, refl}
use Rattle.std.proofs.lemmas.Bool.Decides.{nat_tests}
use Rattle.lrp_lint.proofs.Tied.{apart}
use Rattle.lrp_lint.proofs.ties.has_untied.Goals as goal

pub returns-then-groups-column : goal.returns-then-groups-column
returns-then-groups-column c = (
  λ t. apart c.args.bounds.now c.groups_of-groups.result c.groups_of-groups.ensures c.args.times c.loop-column.column (omega (arith, c.loop-column.auto.column)) (omega (arith, c.loop-column-test.true, c.from-column-end.ensures)) (λ e. let differ = c.if-groups-column.true in grind (arith, nat_tests)),
  λ h. refl,
)
