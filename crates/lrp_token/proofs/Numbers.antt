-- Numbers as they are written: which bytes they lack, and what `parse` makes of them.
use Rattle.std.proofs.Common.{◌≡◌, ℕ, ℤ, pos, negsuc, w64, List, Result, Ok, arith}
use Rattle.std.proofs.Common.{FitsSigned, to_z, of_z}
use Rattle.std.proofs.lemmas.Int.{to_z-of_z}
use Rattle.std.specs.Fmt.{signed_decimal}
use Rattle.std.specs.Str.Parse.{ParsesSigned}
use Rattle.std.proofs.lemmas.Fmt.{parse-signed_decimal}
use Rattle.lrp_token.specs.Parts.{IsSpelling}
use Rattle.lrp_model.specs.PrintedPages.{IsSmall}
pub use Rattle.lrp_model.proofs.TokenLaws.{number_lacks}

-- ---- what is parsed

-- the integer that a text spells is what `parse` gives
pub parsed : {E : Type 0} (text : List ℕ) (r : Result ℤ E) (x : ℤ) → ParsesSigned w64 10 text r → IsSpelling IsSmall signed_decimal text x → r ≡ Ok x
parsed text r (pos n) h s = parse-signed_decimal w64 (pos n) text r (omega (arith, s.fits)) (omega (arith, s.fits)) s.spelled h
parsed text r (negsuc n) h s = parse-signed_decimal w64 (negsuc n) text r (omega (arith, s.fits)) (omega (arith, s.fits)) s.spelled h

-- such an integer fits into 64 bits
pub fits_word : (x : ℤ) → IsSmall x → FitsSigned w64 x
fits_word (pos n) h = omega (arith, h)
fits_word (negsuc n) h = omega (arith, h)

pub through_word : (x : ℤ) → IsSmall x → to_z w64 (of_z w64 x) ≡ x
through_word x h = to_z-of_z w64 x (fits_word x h)
