-- One part's complement, or a sieve, where that can be.
use Rattle.lrp_periods.specs.Sieves.{IsSifted}
use Rattle.lrp_periods.proofs.PeriodLaws.{of_word}
use Rattle.lrp_periods.proofs.Words.{operand_word}
use Rattle.lrp_periods.proofs.complements.left_by_all.Goals as goal

pub lacked_by_one-requires-clause-operand : goal.lacked_by_one-requires-clause-operand
lacked_by_one-requires-clause-operand c = operand_word c.requires

pub sifted-requires-clause-operand : goal.sifted-requires-clause-operand
sifted-requires-clause-operand c = operand_word c.requires

pub sifted-requires-clause-line : goal.sifted-requires-clause-line
sifted-requires-clause-line c = c.can_be_sifted.ensures c.if-not-can_be_sifted.false

pub returns : goal.returns
returns c = (of_word c.requires.period_is (λ p. IsSifted c.args.setting.now.domain.now p c.args.of.now c.in_ok-made.made) c.in_ok-made.ensures).part
