use Rattle.std.proofs.Common.{}
use Rattle.std.specs.Fmt.{decimal}
use Rattle.lrp_io.proofs.PieceLemmas.{written_after}
use Rattle.lrp_print.proofs.pieces.write_signed.Goals as goal

pub returns-clause-text : goal.returns-clause-text
returns-clause-text g c =
    written_after _ _ _ c.args.sign.now (decimal c.args.count) _ c.in_ok-write_bytes.ensures.text c.write_count.ensures.text
