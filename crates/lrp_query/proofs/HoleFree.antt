-- No bytes make a hole.
use Rattle.std.proofs.Common.{◌≡◌, ℕ, zero, suc, Bool, true, false, ◌==◌, ◌&&◌, List, [], ◌∷◌, refl, Result, Ok, Err, codes, if◌then◌else◌}
use Rattle.std.specs.Str.{bytes_eq}
use Rattle.lrp_model.specs.declared.tokens.Symbol.{Symbol}
use Rattle.lrp_model.specs.declared.tokens.Symbol.TheVariants.{Open, Close, OpenBrace, CloseBrace, Comma, Colon, Semicolon, Bar, Plus, Minus, Le, Ge, Lt, Gt, Equals, Star}
use Rattle.lrp_model.specs.declared.tokens.Place.{Place}
use Rattle.lrp_model.specs.Tokens.{Token, Tokens}
use Rattle.lrp_model.specs.Tokens.Token.{name_token, word_token, number_token, text_token, symbol_token, end_token, bad_token, hole_token}
use Rattle.std.specs.Str.Parse.{digits_value}
use Rattle.lrp_model.specs.Lexing.{is_letter, is_name_byte, run, after_run, word_or_name, Scanned, QuotedText as TextRead, text_from, text_scanned, one, one_or_two, further_symbol, no_symbol, symbol_in, scan_in, after, skip, start, headed, tokens_in_from, tokens_in}
use Rattle.std.specs.Char.{is_ascii_digit}
use Rattle.lrp_query.specs.Rules.{is_hole_token}
use Rattle.lrp_query.proofs.Marks.{NoHoles}

-- a choice, where neither side is a hole
chosen : (b : Bool) (x y : Token) → is_hole_token x ≡ false → is_hole_token y ≡ false → is_hole_token (if b then x else y) ≡ false
chosen true x y h k = h
chosen false x y h k = k

-- the same of what is scanned
abbrev Clean : Scanned → Type 0
Clean s = is_hole_token s.token ≡ false

-- a choice of what is scanned
scanned : (b : Bool) (x y : Scanned) → Clean x → Clean y → Clean (if b then x else y)
scanned true x y h k = h
scanned false x y h k = k

-- a name or a reserved word is no hole
word_clean : (n : List ℕ) → is_hole_token (word_or_name n) ≡ false
unfolding word_or_name
word_clean n =
    chosen (bytes_eq n (codes "relation")) _ _ refl (chosen (bytes_eq n (codes "where")) _ _ refl (chosen (bytes_eq n (codes "time")) _ _ refl
    (chosen (bytes_eq n (codes "data")) _ _ refl (chosen (bytes_eq n (codes "n")) _ _ refl (chosen (bytes_eq n (codes "exists")) _ _ refl
    (chosen (bytes_eq n (codes "forall")) _ _ refl (chosen (bytes_eq n (codes "not")) _ _ refl (chosen (bytes_eq n (codes "and")) _ _ refl
    (chosen (bytes_eq n (codes "or")) _ _ refl (chosen (bytes_eq n (codes "implies")) _ _ refl (chosen (bytes_eq n (codes "in")) _ _ refl refl)))))))))))

-- a symbol of one byte or two is no hole
two_clean : (s r : Symbol) (b : ℕ) (bs : List ℕ) → Clean (one_or_two s r b bs)
two_clean s r b [] = refl
two_clean s r b (c ∷ bs) = scanned (c == 61) _ (one s b (c ∷ bs)) refl refl

-- nor is a symbol of the wide language alone
further_clean : (b : ℕ) (bs : List ℕ) → Clean (further_symbol b bs)
further_clean b [] = scanned (b == 42) (one Star b []) _ refl refl
further_clean b (c ∷ bs) = scanned (b == 42) (one Star b (c ∷ bs)) _ refl (scanned ((b == 33) && (c == 61)) _ (no_symbol b (c ∷ bs)) refl refl)

-- nor is a symbol
symbol_clean : (wide : Bool) (b : ℕ) (bs : List ℕ) → Clean (symbol_in wide b bs)
unfolding symbol_in
symbol_clean wide b bs =
    scanned (b == 40) (one Open b bs) _ refl (scanned (b == 41) (one Close b bs) _ refl (scanned (b == 123) (one OpenBrace b bs) _ refl
    (scanned (b == 125) (one CloseBrace b bs) _ refl (scanned (b == 44) (one Comma b bs) _ refl (scanned (b == 58) (one Colon b bs) _ refl
    (scanned (b == 59) (one Semicolon b bs) _ refl (scanned (b == 124) (one Bar b bs) _ refl (scanned (b == 43) (one Plus b bs) _ refl
    (scanned (b == 45) (one Minus b bs) _ refl (scanned (b == 61) (one Equals b bs) _ refl (scanned (b == 60) _ _ (two_clean Lt Le b bs)
    (scanned (b == 62) _ _ (two_clean Gt Ge b bs) (scanned wide _ _ (further_clean b bs) refl)))))))))))))

-- nor is a text
text_clean : (r : Result TextRead Scanned) → Clean (text_scanned r)
text_clean (Ok t) = refl
text_clean (Err s) = refl

-- nor is any token
scan_clean : (wide : Bool) (bs : List ℕ) → Clean (scan_in wide bs)
unfolding scan_in
scan_clean wide [] = refl
scan_clean wide (b ∷ bs) =
    scanned (is_letter b) (record { token = word_or_name (run is_name_byte (b ∷ bs)); taken = run is_name_byte (b ∷ bs); left = after_run is_name_byte (b ∷ bs) }) _ (word_clean (run is_name_byte (b ∷ bs)))
    (scanned (is_ascii_digit b) (record { token = number_token (digits_value 10 (run is_ascii_digit (b ∷ bs))); taken = run is_ascii_digit (b ∷ bs); left = after_run is_ascii_digit (b ∷ bs) }) _ refl
    (scanned (b == 34) (text_scanned (text_from false bs)) (symbol_in wide b bs) (text_clean (text_from false bs)) (symbol_clean wide b bs)))

-- a token and those that follow it
headed_clean : (p : Place) (s : Scanned) (k : Token) (rest : Tokens) → is_hole_token k ≡ false → NoHoles rest → NoHoles (headed p s k rest)
headed_clean p s (name_token n) rest h r = (refl, r)
headed_clean p s (word_token w) rest h r = (refl, r)
headed_clean p s (number_token n) rest h r = (refl, r)
headed_clean p s (text_token t) rest h r = (refl, r)
headed_clean p s (symbol_token y) rest h r = (refl, r)
headed_clean p s hole_token rest h r = (h, r)
headed_clean p s end_token rest h r = (refl, tt)
headed_clean p s bad_token rest h r = (refl, tt)

-- none of the tokens of some bytes
from_clean : (wide : Bool) (n : ℕ) (p : Place) (bs : List ℕ) → NoHoles (tokens_in_from wide n p bs)
unfolding tokens_in_from
from_clean wide zero p bs = tt
from_clean wide (suc n) p bs =
    let a = skip false p bs in
    let s = scan_in wide a.bytes in
    headed_clean a.place s s.token (tokens_in_from wide n (after a.place s.taken) s.left) (scan_clean wide a.bytes) (from_clean wide n (after a.place s.taken) s.left)

-- none of the tokens of a text
pub tokens_clean : (wide : Bool) (bytes : List ℕ) → NoHoles (tokens_in wide bytes)
tokens_clean wide bytes = from_clean wide _ start bytes
