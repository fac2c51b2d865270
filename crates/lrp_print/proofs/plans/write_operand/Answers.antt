use Rattle.std.proofs.Common.{}
use Rattle.std.specs.Fmt.{decimal}
use Rattle.lrp_io.proofs.PieceLemmas.{written_after}
use Rattle.lrp_print.proofs.plans.write_operand.Goals as goal

pub returns-clause-text : goal.returns-clause-text
returns-clause-text g c =
    written_after _ _ _ c.args.word.now (decimal c.args.of) _ c.in_ok-write_bytes.ensures.text c.write_number.ensures.text
