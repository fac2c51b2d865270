-- The closed bounds give the ends.
use Rattle.std.proofs.Common.{arith, sym, subst}
use Rattle.std.specs.Prelude.{pos, ◌-ℤ◌}
use Rattle.lrp_theory.specs.Bounds.{Within}
use Rattle.lrp_theory.specs.Entries.{node}
use Rattle.lrp_hulls.proofs.range.ColumnRange.of.Goals as goal

pub returns-clause-low : goal.returns-clause-low
returns-clause-low c = λ xs m. c.low_end.ensures (node xs c.args.column) (subst (Within (pos 0 -ℤ node xs c.args.column)) (sym c.get.ensures) (m.each 0 c.args.column (omega arith) (omega (arith, c.requires.high)) (λ e. omega (arith, e, c.requires.low))))

pub returns-clause-high : goal.returns-clause-high
returns-clause-high c = λ xs m. c.high_end.ensures (node xs c.args.column) (subst (Within (node xs c.args.column -ℤ pos 0)) (sym c.get-2.ensures) (m.each c.args.column 0 (omega (arith, c.requires.high)) (omega arith) (λ e. omega (arith, e, c.requires.low))))
