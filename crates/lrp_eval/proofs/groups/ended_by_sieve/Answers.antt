-- What the sieve leaves is the table of the group's last step.
use Rattle.std.proofs.Common.{arith, refl}
use Rattle.lrp_eval.proofs.GroupSteps.{complement_asks, operand_high, operand_low, sieve_ends}
use Rattle.lrp_eval.proofs.groups.ended_by_sieve.Goals as goal

pub parts_of-requires-clause-low : goal.parts_of-requires-clause-low
parts_of-requires-clause-low c = operand_low c.requires.group c.requires.made c.requires.step _ c.in-Complement.is _ (0, omega arith, refl)

pub parts_of-requires-clause-high : goal.parts_of-requires-clause-high
parts_of-requires-clause-high c = operand_high c.requires.group c.requires.made c.requires.step _ c.in-Complement.is _ (0, omega arith, refl)

pub sifted-requires-clause-operand : goal.sifted-requires-clause-operand
sifted-requires-clause-operand c = complement_asks c.requires.group c.requires.made c.requires.step c.in_ok-parts.ensures c.in-Complement.is

pub sifted-requires-clause-line : goal.sifted-requires-clause-line
sifted-requires-clause-line c = c.can_be_sifted.ensures c.if-not-can_be_sifted.false

pub returns-in-Some : goal.returns-in-Some
returns-in-Some c = sieve_ends c.requires.group c.requires.made c.requires.step c.in_ok-parts.ensures c.in-Complement.is c.in_ok-table.table c.len.result c.in_ok-table.ensures c.in-Some.ensures.capped c.len.ensures c.requires.passed
