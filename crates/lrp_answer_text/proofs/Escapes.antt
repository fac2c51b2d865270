-- In JSON a data text has the escapes of this product: no byte of it is a control character.
use Rattle.std.proofs.Common.{◌≡◌, ◌≢◌, ◌≤◌, ◌||◌, ℕ, suc, Bool, true, false, cond, List, [], ◌∷◌, ◌++◌, refl, ap, ap₂, ◌∙◌, arith, rules, String, Global, string_bytes}
use Rattle.std.specs.Prelude.{◌==◌, ◌/◌, ◌%◌, nat_lt, if◌then◌else◌, EachIndex, slice_index, flat_map}
use Rattle.std.specs.Char.{digit_char}
use Rattle.std.proofs.lemmas.Bool.Decides.{nat_tests}
use Rattle.json.specs.Print.{escape, escape_byte, escape_letter}
use Rattle.serde_json.specs.Data.{string}
use Rattle.serde_json.specs.View.{view}
use Rattle.serde_json.specs.declared.value.Value as Value
use Rattle.serde_json.specs.declared.value.Value.{the_lemmas}
use Rattle.lrp_model.specs.Texts.{Text, FitsText}
use Rattle.lrp_model.specs.Printed.{escaped, quoted}

-- a byte by its code, where it has one
abbrev coded : ℕ → List ℕ
coded b = cond (nat_lt b 32) (92 ∷ 117 ∷ 48 ∷ 48 ∷ digit_char (b / 16) ∷ digit_char (b % 16) ∷ []) (b ∷ [])

-- a byte by the letter of its short escape, where that is not 0
abbrev by_letter : ℕ → ℕ → List ℕ
by_letter b letter = cond (nat_lt 0 letter) (92 ∷ letter ∷ []) (coded b)

-- what stands for a byte above the control characters, by the test that it is a quote or a backslash
byte_by : (b : ℕ) (t : Bool) → 32 ≤ b → ((b == 34) || (b == 92)) ≡ t → escape_byte b ≡ (if t then 92 ∷ b ∷ [] else b ∷ [])
unfolding escape_byte
byte_by b true high e =
    let letter : escape_letter b ≡ b = ap (λ c. cond c b (cond (b == 8) 98 (cond (b == 12) 102 (cond (b == 10) 110 (cond (b == 13) 114 (cond (b == 9) 116 0)))))) e in
    let some : nat_lt 0 b ≡ true = grind (arith, nat_tests) in
    ap (by_letter b) letter ∙ ap (λ c. cond c (92 ∷ b ∷ []) (coded b)) some
byte_by b false high e =
    let e8 : (b == 8) ≡ false = grind (arith, nat_tests) in
    let e12 : (b == 12) ≡ false = grind (arith, nat_tests) in
    let e10 : (b == 10) ≡ false = grind (arith, nat_tests) in
    let e13 : (b == 13) ≡ false = grind (arith, nat_tests) in
    let e9 : (b == 9) ≡ false = grind (arith, nat_tests) in
    let low : nat_lt b 32 ≡ false = grind (arith, nat_tests) in
    rw (e, e8, e12, e10, e13, e9, low) refl

byte_same : (b : ℕ) → 32 ≤ b → escape_byte b ≡ escaped b
byte_same b high = byte_by b ((b == 34) || (b == 92)) high refl

-- the text of a string
pub view_text : (s : String Global) → view (Value.String s) ≡ string (string_bytes s)
view_text s = search (rules, the_lemmas)

-- the bytes of a text
bytes_same : (t : Text) → EachIndex t (λ i. (32 ≤ slice_index t i) × (slice_index t i ≢ 127)) → escape t ≡ flat_map escaped t
bytes_same [] h = refl
bytes_same (b ∷ bs) h = ap₂ (λ x y. x ++ y) (byte_same b (h 0 (omega arith)).0) (bytes_same bs (λ i lt. h (suc i) (omega (arith, lt))))

pub quoted_same : (t : Text) → FitsText t → 34 ∷ (escape t ++ 34 ∷ []) ≡ quoted t
quoted_same t h = ap (λ m. 34 ∷ (m ++ 34 ∷ [])) (bytes_same t h.plain)
