-- One more piece keeps it.
use Rattle.std.proofs.Common.{◌≡◌, ◌-◌, take, drop, length, arith}
use Rattle.std.proofs.lemmas.Grind.{common_steps}
use Rattle.lrp_io.proofs.BytesLemmas.{appended_next}
use Rattle.lrp_io.proofs.buffer.put_front.Goals as goal

pub loop-count-preserved : goal.loop-count-preserved
loop-count-preserved g c =
    let n = c.in-Ok.taken in
    let bytes = c.args.bytes.now in
    let count = c.loop-count.count in
    let piece : take (length bytes - count) (drop count bytes) ≡ drop count bytes = grind (arith, common_steps) in
    record {
      within = omega (arith, c.in-Ok.ensures.fits);
      so_far = rw (c.in-Ok.ensures.appends, piece) (appended_next _ _ bytes count n c.loop-count.invariant.so_far);
      later = omega (arith, c.write.ensures.cause.later, c.loop-count.invariant.later);
    }
