-- The hex digits of bytes, as the kit's crate writes and reads them.
use Rattle.std.proofs.Common.{◌≡◌, inl, inr, ◌&&◌, ◌<◌, ◌+◌, ◌*◌, ◌/◌, ◌%◌, ℕ, zero, suc, Bool, true, false, cond, ltb, eqb, List, [], ◌∷◌, length, get_or, Result, Ok, Err, refl, ap, ap₂, sym, subst, ◌∙◌, arith}
use Rattle.std.specs.Prelude.{◌≢◌, is_ok, MatchResult, MatchBool}
use Rattle.std.specs.Result.{result_unwrap_or}
use Rattle.std.specs.List.{AllByRecursion}
use Rattle.std.specs.Str.{IsUtf8}
use Rattle.std.proofs.lemmas.Bool.{ltb-true, eqb-true, cases_lt}
use lib.Utf8.{scalar, scalars, encode, encodes, scalar_cases}
use Rattle.hex.specs.Hex.{lower_digits, encode_with, encode_lower, decode_of, decode_sized, IsBytes}
use Rattle.hex.specs.declared.error.FromHexError.{FromHexError}
use Rattle.hex.proofs.HexLemmas.{decode_sized-encode_lower, decode_sized-twice, decode_sized-ok, decode_of-ok}
use Rattle.lrp_model.specs.Texts.{Text}
use Rattle.lrp_model.specs.DataTexts.{IsDataText}
use Rattle.lrp_model.specs.PrintedPages.{hex, hex_digit, text_part}
use Rattle.lrp_model.proofs.Logic.{all_append}
use Rattle.lrp_token.specs.declared.resume.TokenFault.{TokenFault}
use Rattle.lrp_token.specs.declared.resume.TokenFault.TheVariants.{Form, Shape, Memory}
use Rattle.lrp_token.specs.Parts.{IsHex, IsPartRead, IsSpelling}
use Rattle.lrp_token.proofs.Lists.{Lacks}
pub use Rattle.lrp_model.proofs.TokenLaws.{hex_lacks}

-- a list of bytes
abbrev pub AreBytes : List ℕ → Type 0
AreBytes bs = AllByRecursion (λ b. b < 256) bs

pub bytes_at : (bs : List ℕ) → AreBytes bs → IsBytes bs
bytes_at [] h i = omega arith
bytes_at (b ∷ bs) h zero = h.0
bytes_at (b ∷ bs) h (suc i) = bytes_at bs h.1 i

pub bytes_by : (bs : List ℕ) → IsBytes bs → AreBytes bs
bytes_by [] h = tt
bytes_by (b ∷ bs) h = (h 0, bytes_by bs (λ i. h (suc i)))

-- both tests are passed
both : (a b : Bool) → (a && b) ≡ true → (a ≡ true) × (b ≡ true)
both true true e = (refl, refl)
both true false e = cc
both false b e = cc

-- ---- digits

-- whether the first digits of the table are those of a token
same_below : ℕ → Bool
same_below zero = true
same_below (suc d) = eqb (get_or lower_digits d 0) (hex_digit d) && same_below d

digit_below : (n d : ℕ) → same_below n ≡ true → d < n → get_or lower_digits d 0 ≡ hex_digit d
unfolding same_below
digit_below zero d h lt = absurd (omega arith)
digit_below (suc n) d h lt =
    let p = both (eqb (get_or lower_digits n 0) (hex_digit n)) (same_below n) h in
    elim (cases_lt d n) [
      | inl less ↦ digit_below n d p.1 less
      | inr top ↦ let e : d ≡ n = omega arith in rw e (eqb-true (get_or lower_digits n 0) (hex_digit n) p.0)
    ]

digit_is : (d : ℕ) → d < 16 → get_or lower_digits d 0 ≡ hex_digit d
unfolding same_below
digit_is d lt = digit_below 16 d refl lt

-- what the crate writes
pub encoded : (bs : List ℕ) → AreBytes bs → encode_lower bs ≡ hex bs
unfolding encode_with
encoded [] h = refl
encoded (b ∷ bs) h =
    let small : b < 256 = h.0 in
    ap₂ (λ x y. x ∷ y ∷ encode_lower bs) (digit_is (b / 16) (omega arith)) (digit_is (b % 16) (omega arith))
    ∙ ap (λ z. hex_digit (b / 16) ∷ hex_digit (b % 16) ∷ z) (encoded bs h.1)

-- what it reads of it
pub decoded : (text bs : List ℕ) (n : ℕ) → length bs ≡ n → IsHex text bs → decode_sized text n ≡ Ok bs
decoded text bs n e h = ap (λ t. decode_sized t n) (h.spelled ∙ sym (encoded bs h.small)) ∙ decode_sized-encode_lower bs n e (bytes_at bs h.small)

pub length-hex : (bs : List ℕ) → length (hex bs) ≡ 2 * length bs
length-hex [] = refl
length-hex (b ∷ bs) = let rest = length-hex bs in omega arith

-- digits are those of one list of bytes
pub hex_same : (text a b : List ℕ) → IsHex text a → IsHex text b → a ≡ b
hex_same text a b h k =
    let left : length text ≡ 2 * length a = ap length h.spelled ∙ length-hex a in
    let right : length text ≡ 2 * length b = ap length k.spelled ∙ length-hex b in
    let size : length b ≡ length a = omega arith in
    ap (λ r. result_unwrap_or r []) (sym (decoded text a (length a) refl h) ∙ decoded text b (length a) size k)

-- there is a byte for two digits
pub half : (digits : List ℕ) (t : Text) → IsHex digits t → length t ≡ length digits / 2
half digits t h = let e : length digits ≡ 2 * length t = ap length h.spelled ∙ length-hex t in omega arith

-- ---- what the crate read into the room for some bytes

abbrev IsDecoded : (digits old new : List ℕ) → Result (Unit {0}) FromHexError → Type 0
IsDecoded digits old new r = MatchResult (decode_sized digits (length old)) (λ bytes. (r ≡ Ok tt) × (new ≡ bytes)) (λ e. r ≡ Err e)

abbrev NoHex : List ℕ → Type 0
NoHex digits = (other : List ℕ) → IsHex digits other → ⊥

-- what is decoded is bytes
bytes_of : (digits bytes : List ℕ) (n : ℕ) → decode_sized digits n ≡ Ok bytes → AreBytes bytes
bytes_of digits bytes n e =
    let twice : decode_sized digits n ≡ decode_of digits = decode_sized-twice digits n (decode_sized-ok digits n bytes e) in
    bytes_by bytes (decode_of-ok digits bytes (sym twice ∙ e)).3

-- it is so of what was read, and of no other bytes
read_by : (digits old new : List ℕ) (d : Result (List ℕ) FromHexError) (r : Result (Unit {0}) FromHexError) → decode_sized digits (length old) ≡ d → MatchResult d (λ bytes. (r ≡ Ok tt) × (new ≡ bytes)) (λ e. r ≡ Err e)
    → (is_ok r ≡ true → AreBytes new) × ((other : List ℕ) → length other ≡ length old → IsHex digits other → (r ≡ Ok tt) × (new ≡ other))
read_by digits old new (Ok bytes) r e m = (
  (λ ok. subst AreBytes (sym m.1) (bytes_of digits bytes (length old) e)),
  λ other size h. (m.0, m.1 ∙ ap (λ x. result_unwrap_or x []) (sym e ∙ decoded digits other (length old) size h)),
)
read_by digits old new (Err x) r e m = (
  (λ ok. let f : is_ok r ≡ false = ap is_ok m in cc),
  λ other size h. let d = decoded digits other (length old) size h in cc,
)

pub read_same : (digits old new : List ℕ) (r : Result (Unit {0}) FromHexError) (same : Bool) → length old ≡ length digits / 2 → IsDecoded digits old new r → is_ok r ≡ true → MatchBool same (digits ≡ hex new) (digits ≢ hex new) → MatchBool same (IsHex digits new) (NoHex digits)
read_same digits old new r true room m ok e = record { small = (read_by digits old new (decode_sized digits (length old)) r refl m).0 ok; spelled = e }
read_same digits old new r false room m ok ne = λ other h. let k = (read_by digits old new (decode_sized digits (length old)) r refl m).1 other (half digits other h ∙ sym room) h in ne (h.spelled ∙ ap hex (sym k.1))

pub read_none : (digits old new : List ℕ) (r : Result (Unit {0}) FromHexError) (b : Bool) → length old ≡ length digits / 2 → IsDecoded digits old new r → b ≡ is_ok r → b ≡ false → MatchBool b (IsHex digits new) (NoHex digits)
read_none digits old new r true room m e f = cc
read_none digits old new r false room m e f = λ other h.
    let k = (read_by digits old new (decode_sized digits (length old)) r refl m).1 other (half digits other h ∙ sym room) h in
    let g : is_ok r ≡ true = ap is_ok k.0 in
    cc

-- ---- UTF-8

low_byte : (b : ℕ) → AreBytes ((128 + b % 64) ∷ [])
low_byte b = (omega arith, tt)

four : (c : ℕ) → c < 1114112 → (x y z : Bool) → ltb c 128 ≡ x → ltb c 2048 ≡ y → ltb c 65536 ≡ z
    → AreBytes (cond x (c ∷ []) (cond y ((192 + c / 64) ∷ (128 + c % 64) ∷ []) (cond z ((224 + c / 4096) ∷ (128 + c / 64 % 64) ∷ (128 + c % 64) ∷ []) ((240 + c / 262144) ∷ (128 + c / 4096 % 64) ∷ (128 + c / 64 % 64) ∷ (128 + c % 64) ∷ []))))
four c lt true y z p q r = let k : c < 128 = ltb-true c 128 p in (omega arith, tt)
four c lt false true z p q r = let k : c < 2048 = ltb-true c 2048 q in (omega arith, (omega arith, tt))
four c lt false false true p q r = let k : c < 65536 = ltb-true c 65536 r in (omega arith, (omega arith, (omega arith, tt)))
four c lt false false false p q r = (omega arith, (omega arith, (omega arith, (omega arith, tt))))

char_bytes : (c : ℕ) → c < 1114112 → AreBytes (encode c)
unfolding encode
char_bytes c lt = four c lt (ltb c 128) (ltb c 2048) (ltb c 65536) refl refl refl

below : (c : ℕ) → scalar c ≡ true → c < 1114112
below c e = elim (scalar_cases c e) [ inl h ↦ omega arith | inr h ↦ h.1 ]

chars_bytes : (cs : List ℕ) → scalars cs ≡ true → AreBytes (encodes cs)
chars_bytes [] e = tt
chars_bytes (c ∷ cs) e = let p = both (scalar c) (scalars cs) e in (all_append (λ b. b < 256) (encode c) (encodes cs)).1 (char_bytes c (below c p.0), chars_bytes cs p.1)

-- a text in UTF-8 is made of bytes
pub text_bytes : (t : List ℕ) → IsUtf8 t → AreBytes t
text_bytes t u = subst AreBytes u.1.1 (chars_bytes u.0 u.1.0)

-- ---- the parts that hold a text

pub text_lacks : (c : ℕ) → c < 48 → 120 ≢ c → (t : Text) → Lacks c (text_part t)
text_lacks c lt ne t = (ne, hex_lacks c lt t)

-- a part that spells a text begins with `x`, and what follows is the text in hex
pub after_x : (part digits : List ℕ) (t : Text) → part ≡ 120 ∷ digits → IsSpelling IsDataText text_part part t → IsHex digits t
after_x part digits t e s = let f : 120 ∷ digits ≡ 120 ∷ hex t = sym e ∙ s.spelled in record { small = text_bytes t s.fits.utf8; spelled = cc }

pub text_read : (part digits bytes : List ℕ) (r : Result Text TokenFault) → part ≡ 120 ∷ digits → IsHex digits bytes → IsPartRead (λ t. IsDataText t × (t ≡ bytes)) r → IsPartRead (IsSpelling IsDataText text_part part) r
text_read part digits bytes (Ok t) e h s = record { fits = s.0; spelled = e ∙ ap (λ x. 120 ∷ x) (h.spelled ∙ ap hex (sym s.1)) }
text_read part digits bytes (Err Form) e h none = λ t s. none t (s.fits, hex_same digits t bytes (after_x part digits t e s) h)
text_read part digits bytes (Err Shape) e h s = s
text_read part digits bytes (Err Memory) e h s = tt
