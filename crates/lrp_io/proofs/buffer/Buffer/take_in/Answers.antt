-- The piece stands after the bytes that were held.
use Rattle.std.proofs.Common.{◌≡◌, ◌+◌, length, take, rules, arith, ap, sym, ◌∙◌, length-take-le}
use Rattle.lrp_io.specs.Buffers.{between}
use Rattle.lrp_io.proofs.BufferLemmas.{held_more}
use Rattle.lrp_io.proofs.buffer.Buffer.take_in.Goals as goal

pub returns-clause-held : goal.returns-clause-held
returns-clause-held g c =
    let self = c.args.self.now in
    let new = c.put_at.new.bytes in
    let n = c.min-count.result in
    let piece = c.args.piece.now in
    let size : length (take n piece) ≡ n = length-take-le n piece (omega (arith, c.min-count.ensures)) in
    held_more self.bytes new _ self.first self.last n (search rules) c.put_at.ensures.before (ap (λ m. between new self.last (self.last + m)) (sym size) ∙ c.put_at.ensures.piece)
