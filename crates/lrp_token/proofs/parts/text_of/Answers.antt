-- A text is what its hex digits spell, after an `x`.
use Rattle.std.proofs.Common.{◌≡◌, ◌≢◌, ◌≤◌, ◌/◌, ℕ, List, ◌∷◌, length, lit<, arith}
use Rattle.std.proofs.lemmas.Str.Pattern.{strip_prefix_char}
use Rattle.lrp_model.specs.PrintedPages.{hex}
use Rattle.lrp_token.proofs.HexLaws.{after_x, half, text_read}
use Rattle.lrp_token.proofs.parts.text_of.Goals as goal

pub returns-in_default : goal.returns-in_default
returns-in_default c t s =
    let k = strip_prefix_char 120 c.args.part.now c.strip_prefix.result c.strip_prefix.ensures.cases (lit< tt) in
    let none : (rest : List ℕ) → c.args.part.now ≢ 120 ∷ rest = rw c.in_default.is at k in
    none (hex t) s.spelled

pub returns-then-count-gt-MOST_BYTES : goal.returns-then-count-gt-MOST_BYTES
returns-then-count-gt-MOST_BYTES c t s =
    let k = strip_prefix_char 120 c.args.part.now c.strip_prefix.result c.strip_prefix.ensures.cases (lit< tt) in
    let e : c.args.part.now ≡ 120 ∷ c.in-Some.digits.now = rw c.in-Some.is at k in
    let size : length t ≡ length c.in-Some.digits.now / 2 = half c.in-Some.digits.now t (after_x c.args.part.now c.in-Some.digits.now t e s) in
    let few : length t ≤ 255 = s.fits.fits.short in
    omega arith

pub returns-then-not-decode : goal.returns-then-not-decode
returns-then-not-decode c t s =
    let k = strip_prefix_char 120 c.args.part.now c.strip_prefix.result c.strip_prefix.ensures.cases (lit< tt) in
    let e : c.args.part.now ≡ 120 ∷ c.in-Some.digits.now = rw c.in-Some.is at k in
    let is = after_x c.args.part.now c.in-Some.digits.now t e s in
    let none = rw c.if-not-decode.true at c.decode.ensures in
    none t is

pub returns : goal.returns
returns c =
    let k = strip_prefix_char 120 c.args.part.now c.strip_prefix.result c.strip_prefix.ensures.cases (lit< tt) in
    let e : c.args.part.now ≡ 120 ∷ c.in-Some.digits.now = rw c.in-Some.is at k in
    let is = rw c.if-not-decode.false at c.decode.ensures in
    text_read c.args.part.now c.in-Some.digits.now c.decode.new.bytes c.data_text.result e is c.data_text.ensures
