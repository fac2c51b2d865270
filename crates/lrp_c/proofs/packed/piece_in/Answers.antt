-- What stands after the length is cut out by it.
use Rattle.lrp_c.proofs.PackedLemmas.{cut_out}
use Rattle.lrp_c.proofs.packed.piece_in.Goals as goal

pub returns-clause-some : goal.returns-clause-some
returns-clause-some c =
    let parts = c.in_ok-front.ensures.cases in
    cut_out c.args.bytes.now c.in_ok-front.front.now c.in_ok-front.rest.now _ _ _ parts.0 parts.1 c.number_of-length.ensures c.split_at.ensures.front_len c.split_at.ensures.front c.split_at.ensures.back
