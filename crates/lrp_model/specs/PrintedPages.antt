-- Answers as lines, pages of them, and the tokens by which a page is followed.
use Rattle.std.specs.Prelude.{◌≡◌, ◌+◌, ◌/◌, ◌%◌, ◌<◌, ◌≤◌, nat_lt, ℕ, ℤ, nat_abs, Bool, true, false, List, [], ◌∷◌, ◌++◌, flat_map, length, Option, Some, None, if◌then◌else◌, codes}
use Rattle.std.specs.List.{AllByRecursion}
use Rattle.std.specs.Fmt.{signed_decimal}
use Rattle.lrp_model.specs.Texts.{Text}
use Rattle.lrp_model.specs.DataTexts.{IsDataText}
use Rattle.lrp_model.specs.Rows.{Datum, Tuple, time, text, times_of, texts_of}
use Rattle.lrp_model.specs.Limits.{greatest_number}
use Rattle.lrp_model.specs.Printed.{joined_by, quoted}

-- ---- lines

-- a number, or a text in quotes; both stand in plain lines and in JSON
abbrev pub datum_bytes : Datum → List ℕ
datum_bytes (time x) = signed_decimal x
datum_bytes (text t) = quoted t

-- the values of a tuple, in head order; those of an empty head are `()`
abbrev pub plain_line : Tuple → List ℕ
plain_line [] = codes "()\n"
plain_line (d ∷ ds) = joined_by (codes ", ") datum_bytes (d ∷ ds) ++ codes "\n"

-- a JSON list of them
abbrev pub json_line : Tuple → List ℕ
json_line tuple = codes "[" ++ (joined_by (codes ",") datum_bytes tuple ++ codes "]\n")

-- the line of a tuple, in JSON where the flag is set
abbrev pub answer_line : Bool → Tuple → List ℕ
answer_line false = plain_line
answer_line true = json_line

-- ---- tokens

-- 0 to 9 and a to f
abbrev pub hex_digit : ℕ → ℕ
hex_digit d = if nat_lt d 10 then 48 + d else 87 + d

-- two lower-case digits for each byte
abbrev pub hex : List ℕ → List ℕ
hex = flat_map (λ b. hex_digit (b / 16) ∷ hex_digit (b % 16) ∷ [])

-- x and the bytes of a text
abbrev pub text_part : Text → List ℕ
text_part t = codes "x" ++ hex t

-- the times, a slash, and the texts
abbrev pub tuple_text : List ℤ → List Text → List ℕ
tuple_text times texts = joined_by (codes ",") signed_decimal times ++ (codes "/" ++ joined_by (codes ",") text_part texts)

-- the text of a tuple and a digest, and that of a tuple alone
abbrev pub token_text : Option (List ℕ) → List ℤ → List Text → List ℕ
token_text (Some digest) times texts = codes "T2/" ++ (hex digest ++ (codes "/" ++ tuple_text times texts))
token_text None times texts = codes "T1/" ++ tuple_text times texts

-- any 32 bytes
pub record IsDigest (digest : List ℕ) : Type 0 where
  pub size : length digest ≡ 32
  pub bytes : AllByRecursion (λ b. b < 256) digest

abbrev pub MayBeDigest : Option (List ℕ) → Type 0
MayBeDigest None = Unit {0}
MayBeDigest (Some digest) = IsDigest digest

-- a number that a token may have
abbrev pub IsSmall : ℤ → Type 0
IsSmall x = nat_abs x ≤ greatest_number

-- the text is a token of these times and texts, and of the digest where there is one
pub record IsToken (token : List ℕ) (digest : Option (List ℕ)) (times : List ℤ) (texts : List Text) : Type 0 where
  pub spelled : token ≡ token_text digest times texts
  pub digest_is : MayBeDigest digest
  pub small : AllByRecursion IsSmall times
  pub whole : AllByRecursion IsDataText texts

-- ---- pages

-- the token of a tuple and the files' digest
abbrev pub token_of : List ℕ → Tuple → List ℕ
token_of digest tuple = token_text (Some digest) (times_of tuple) (texts_of tuple)

-- the line after a page: with the token of its last tuple where more is to come
abbrev pub end_line : Bool → Option (List ℕ) → List ℕ
end_line false None = codes "end\n"
end_line false (Some token) = codes "more " ++ (token ++ codes "\n")
end_line true None = codes "{\"more\":null}\n"
end_line true (Some token) = codes "{\"more\":\"" ++ (token ++ codes "\"}\n")

-- the token of the last tuple, where the flag says that more is to come; a page with more to come has a last tuple
abbrev pub token_after : List ℕ → Bool → Option Tuple → Option (List ℕ)
token_after digest false last = None
token_after digest true None = None
token_after digest true (Some tuple) = Some (token_of digest tuple)
