use Rattle.lrp_io.proofs.PieceLemmas.{written_after}
use Rattle.lrp_answer_text.proofs.values.write_time.Goals as goal

pub returns-clause-text : goal.returns-clause-text
returns-clause-text g c =
    written_after _ _ _ c.args.before.now (g.T.Notation.bytes c.args.spelling.now.times.now c.args.time.now) _ c.in_ok-write_bytes.ensures.text c.write.ensures.text
