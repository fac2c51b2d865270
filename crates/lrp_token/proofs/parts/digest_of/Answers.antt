-- A digest has 64 digits.
use Rattle.std.proofs.Common.{◌≡◌, ◌*◌, length, ap, ◌∙◌, arith}
use Rattle.lrp_token.proofs.HexLaws.{length-hex}
use Rattle.lrp_token.proofs.parts.digest_of.Goals as goal

pub returns-then-digits-ne64 : goal.returns-then-digits-ne64
returns-then-digits-ne64 c digest s =
    let size : length c.args.digits.now ≡ 2 * length digest = ap length s.spelled ∙ length-hex digest in
    absurd (omega (arith, s.fits.size, c.if-digits-ne64.true))
