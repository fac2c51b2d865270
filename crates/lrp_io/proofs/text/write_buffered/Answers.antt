-- Once all that is held was handed on, the whole text is written.
use Rattle.std.proofs.Common.{rules}
use Rattle.lrp_io.proofs.BufferLemmas.{lent_front, lent_written}
use Rattle.lrp_io.proofs.text.write_buffered.Goals as goal

pub returns-then-buffer-clause-text : goal.returns-then-buffer-clause-text
returns-then-buffer-clause-text g c =
    let new = c.new.ensures in
    let filled = c.fill-buffer.ensures in
    lent_front g.S.Sink.written _ _ c.fill-buffer.result.out.now _ _ _ (g.T.Text.text c.args.text.now) new.sink new.none (search rules) filled.grew (filled.front (search rules))

pub returns-clause-text : goal.returns-clause-text
returns-clause-text g c =
    let new = c.new.ensures in
    let filled = c.fill-buffer.ensures in
    lent_written g.S.Sink.written _ _ c.fill-buffer.result.out.now c.finish.new.self.0 _ _ _ (g.T.Text.text c.args.text.now) c.finish.result new.sink new.none (search rules) filled.grew (filled.whole (search rules)) c.finish.ensures.all c.finish.ensures.front
