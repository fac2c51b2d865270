use Rattle.std.proofs.Common.{◌∙◌, sym, ap, get_or, arith}
use Rattle.lrp_model.specs.Lexing.{moved, start}
use Rattle.lrp_text.proofs.After.{after_more, after_none, moved_near}
use Rattle.lrp_text.proofs.places.place_after.Goals as goal

pub loop-byte-init : goal.loop-byte-init
loop-byte-init c = record { so_far = sym (after_none start); line = omega arith; column = omega arith }

pub loop-byte-preserved : goal.loop-byte-preserved
loop-byte-preserved c =
    let near = moved_near _ _ _ c.after_byte-place.ensures in
    record {
      so_far = c.after_byte-place.ensures ∙ ap (λ p. moved p (get_or c.args.bytes.now c.loop-byte.byte-index 0)) c.loop-byte.invariant.so_far ∙ sym (after_more start c.args.bytes.now c.loop-byte.byte-index 0 c.loop-byte-test.true);
      line = omega (arith, near.0, c.loop-byte.invariant.line);
      column = omega (arith, near.1, c.loop-byte.invariant.column);
    }
