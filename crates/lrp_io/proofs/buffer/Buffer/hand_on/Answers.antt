-- What the sink took is no longer held.
use Rattle.lrp_io.proofs.BufferLemmas.{handed}
use Rattle.lrp_io.proofs.buffer.Buffer.hand_on.Goals as goal

pub returns-else-is_ok-clause-hands_on : goal.returns-else-is_ok-clause-hands_on
returns-else-is_ok-clause-hands_on g c =
    let self = c.args.self.now in
    handed _ _ self.bytes _ self.first self.last c.put_front-count.result.0 c.part-held.ensures c.put_front-count.ensures.fits c.put_front-count.ensures.appends
