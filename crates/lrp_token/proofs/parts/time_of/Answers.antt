-- What is parsed is the integer that the text spells, if it spells one.
use Rattle.std.proofs.Common.{◌≡◌, ◌≤◌, sym, subst, ◌∙◌, ap, arith, of_z, to_z, w64}
use Rattle.std.specs.Prelude.{IsTrue, nat_abs}
use Rattle.std.specs.Fmt.{signed_decimal}
use Rattle.lrp_model.specs.Limits.{greatest_number}
use Rattle.lrp_token.specs.Parts.{IsSpelling}
use Rattle.lrp_model.specs.PrintedPages.{IsSmall}
use Rattle.lrp_token.proofs.Numbers.{parsed, through_word}
use Rattle.lrp_token.proofs.parts.time_of.Goals.{else-unsigned_abs-via-then-unsigned_abs+else-is_written, else-unsigned_abs-via-else-unsigned_abs}
use Rattle.lrp_token.proofs.parts.time_of.Goals as goal

pub returns-in_default : goal.returns-in_default
returns-in_default c x s = c.in_default.not-Ok x (parsed c.args.text.now c.parse.result x c.parse.ensures.value.0 s)

pub returns-else-unsigned_abs : goal.returns-else-unsigned_abs
returns-else-unsigned_abs c x s =
    let k = parsed c.args.text.now c.parse.result x c.parse.ensures.value.0 s in
    let same : c.in-Ok.time ≡ x = cc in
    let t : IsSpelling IsSmall signed_decimal c.args.text.now c.in-Ok.time = subst (IsSpelling IsSmall signed_decimal c.args.text.now) (sym same) s in
    let word : to_z w64 (of_z w64 c.in-Ok.time) ≡ c.in-Ok.time = through_word c.in-Ok.time t.fits in
    elim c.else-unsigned_abs.branch [
      | else-unsigned_abs-via-then-unsigned_abs+else-is_written w ↦
          let yes : IsTrue w.is_written.result = w.is_written.ensures.1 (t.spelled ∙ ap signed_decimal (sym word)) in
          cc (yes, w.if-is_written.false)
      | else-unsigned_abs-via-else-unsigned_abs w ↦
          let size : c.unsigned_abs.result ≡ nat_abs c.in-Ok.time = c.unsigned_abs.ensures.value ∙ ap nat_abs word in
          let small : nat_abs c.in-Ok.time ≤ greatest_number = t.fits in
          absurd (omega (arith, w.if-unsigned_abs.false))
    ]
