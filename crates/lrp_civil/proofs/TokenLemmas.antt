-- Which token bytes begin with, and what it takes.
use Rattle.std.proofs.Common.{◌≡◌, ◌≤◌, ◌-◌, ℕ, Bool, true, false, ◌==◌, List, [], ◌∷◌, length, take, drop, get_or, take_all, not, Option, None, Some, MatchOption, Bor, Result, Ok, Err, refl, sym, ap, ◌∙◌, if◌then◌else◌, codes, arith}
use Rattle.std.specs.Option.{option_map}
use Rattle.std.specs.Str.{bytes_eq}
use Rattle.std.proofs.lemmas.Bool.{eq-eqb, ne_eqb}
use Rattle.lrp_model.specs.declared.tokens.Place.{Place}
use Rattle.lrp_model.specs.Tokens.{Token}
use Rattle.lrp_model.specs.Tokens.Token.{number_token}
use Rattle.std.specs.Str.Parse.{digits_value}
use Rattle.lrp_model.specs.Lexing.{QuotedText, Scanned, after_run, is_blank, is_letter, is_name_byte, moved, run, skip, start, symbol_in, text_from, text_scanned, word_or_name, scan_in}
use Rattle.std.specs.Char.{is_ascii_digit}
use Rattle.lrp_text.proofs.Scans.{chosen}
use Rattle.lrp_civil.specs.Tokens.{IsAfterSymbol, IsAfterToken, after_quoted, is_last}

-- what blanks and comments take does not depend on the place
pub skip_place : (comment : Bool) (p q : Place) (bytes : List ℕ) → (skip comment p bytes).bytes ≡ (skip comment q bytes).bytes
unfolding skip
skip_place true p q [] = refl
skip_place false p q [] = refl
skip_place true p q (b ∷ bytes) = by (b == 10) (skip_place false (moved p b) (moved q b) bytes) (skip_place true (moved p b) (moved q b) bytes)
  where
    by : (c : Bool) → (skip false (moved p b) bytes).bytes ≡ (skip false (moved q b) bytes).bytes → (skip true (moved p b) bytes).bytes ≡ (skip true (moved q b) bytes).bytes
        → (if c then skip false (moved p b) bytes else skip true (moved p b) bytes).bytes ≡ (if c then skip false (moved q b) bytes else skip true (moved q b) bytes).bytes
    by true e f = e
    by false e f = f
skip_place false p q (b ∷ bytes) = by (b == 35) (is_blank b) (skip_place true (moved p b) (moved q b) bytes) (skip_place false (moved p b) (moved q b) bytes)
  where
    by : (c d : Bool) → (skip true (moved p b) bytes).bytes ≡ (skip true (moved q b) bytes).bytes → (skip false (moved p b) bytes).bytes ≡ (skip false (moved q b) bytes).bytes
        → (if c then skip true (moved p b) bytes else (if d then skip false (moved p b) bytes else record { place = p; bytes = b ∷ bytes })).bytes
        ≡ (if c then skip true (moved q b) bytes else (if d then skip false (moved q b) bytes else record { place = q; bytes = b ∷ bytes })).bytes
    by true d e f = e
    by false true e f = f
    by false false e f = refl

-- ---- tokens

-- others follow a word or a name
word_goes : (name : List ℕ) → is_last (word_or_name name) ≡ false
unfolding word_or_name
word_goes n =
    let P : Token → Type 0 = λ t. is_last t ≡ false in
    chosen P (bytes_eq n (codes "relation")) _ _ (λ e. refl) (λ n1.
    chosen P (bytes_eq n (codes "where")) _ _ (λ e. refl) (λ n2.
    chosen P (bytes_eq n (codes "time")) _ _ (λ e. refl) (λ n3.
    chosen P (bytes_eq n (codes "data")) _ _ (λ e. refl) (λ n4.
    chosen P (bytes_eq n (codes "n")) _ _ (λ e. refl) (λ n5.
    chosen P (bytes_eq n (codes "exists")) _ _ (λ e. refl) (λ n6.
    chosen P (bytes_eq n (codes "forall")) _ _ (λ e. refl) (λ n7.
    chosen P (bytes_eq n (codes "not")) _ _ (λ e. refl) (λ n8.
    chosen P (bytes_eq n (codes "and")) _ _ (λ e. refl) (λ n9.
    chosen P (bytes_eq n (codes "or")) _ _ (λ e. refl) (λ n10.
    chosen P (bytes_eq n (codes "implies")) _ _ (λ e. refl) (λ n11.
    chosen P (bytes_eq n (codes "in")) _ _ (λ e. refl) (λ n12. refl))))))))))))

-- what is scanned, by the first byte
scan_name : (wide : Bool) (b : ℕ) (bytes : List ℕ) → is_letter b ≡ true → scan_in wide (b ∷ bytes) ≡ record { token = word_or_name (run is_name_byte (b ∷ bytes)); taken = run is_name_byte (b ∷ bytes); left = after_run is_name_byte (b ∷ bytes) }
unfolding scan_in
scan_name wide b bytes e = rw e refl

scan_number : (wide : Bool) (b : ℕ) (bytes : List ℕ) → is_letter b ≡ false → is_ascii_digit b ≡ true → scan_in wide (b ∷ bytes) ≡ record { token = number_token (digits_value 10 (run is_ascii_digit (b ∷ bytes))); taken = run is_ascii_digit (b ∷ bytes); left = after_run is_ascii_digit (b ∷ bytes) }
unfolding scan_in
scan_number wide b bytes e f = rw (e, f) refl

scan_text : (wide : Bool) (bytes : List ℕ) → scan_in wide (34 ∷ bytes) ≡ text_scanned (text_from false bytes)
unfolding scan_in
scan_text wide bytes = refl

scan_symbol : (wide : Bool) (b : ℕ) (bytes : List ℕ) → is_letter b ≡ false → is_ascii_digit b ≡ false → (b == 34) ≡ false → scan_in wide (b ∷ bytes) ≡ symbol_in wide b bytes
unfolding scan_in
scan_symbol wide b bytes e f g = rw (e, f, g) refl

pub name_after : (wide : Bool) (bytes after : List ℕ) → 1 ≤ length bytes → is_letter (get_or bytes 0 0) ≡ true → after ≡ after_run is_name_byte bytes → IsAfterToken wide bytes after
name_after wide [] after h e f = absurd (omega arith)
name_after wide (b ∷ bytes) after h e f =
    let s = scan_name wide b bytes e in
    record { goes_on = ap (λ x. is_last x.token) s ∙ word_goes (run is_name_byte (b ∷ bytes)); left = ap (λ x. x.left) s ∙ sym f }

pub number_after : (wide : Bool) (bytes after : List ℕ) → 1 ≤ length bytes → is_letter (get_or bytes 0 0) ≡ false → is_ascii_digit (get_or bytes 0 0) ≡ true → after ≡ after_run is_ascii_digit bytes → IsAfterToken wide bytes after
number_after wide [] after h e f g = absurd (omega arith)
number_after wide (b ∷ bytes) after h e f g =
    let s = scan_number wide b bytes e f in
    record { goes_on = ap (λ x. is_last x.token) s; left = ap (λ x. x.left) s ∙ sym g }

-- what is known of a result that may be the bytes after a token
abbrev Finds : Bool → List ℕ → Option (Bor (List ℕ)) → Type 0
Finds wide bytes r = MatchOption r (is_last (scan_in wide bytes).token ≡ true) (λ after. IsAfterToken wide bytes after.now)

text_at : (wide : Bool) (bytes : List ℕ) (t : Result QuotedText Scanned) (r : Option (Bor (List ℕ))) → scan_in wide bytes ≡ text_scanned t → option_map (λ (after : Bor (List ℕ)). after.now) r ≡ after_quoted t → Finds wide bytes r
text_at wide bytes (Ok t) None e f = absurd (cc f)
text_at wide bytes (Ok t) (Some b) e f = record { goes_on = ap (λ x. is_last x.token) e; left = ap (λ x. x.left) e ∙ cc f }
text_at wide bytes (Err s) None e f = ap (λ x. is_last x.token) e
text_at wide bytes (Err s) (Some b) e f = absurd (cc f)

pub text_after : (wide : Bool) (bytes rest : List ℕ) (r : Option (Bor (List ℕ))) → bytes ≡ 34 ∷ rest → option_map (λ (after : Bor (List ℕ)). after.now) r ≡ after_quoted (text_from false rest) → Finds wide bytes r
text_after wide bytes rest r e f = text_at wide bytes (text_from false rest) r (ap (scan_in wide) e ∙ scan_text wide rest) f

symbol_at : (wide : Bool) (bytes rest : List ℕ) (b : ℕ) (r : Option (Bor (List ℕ))) → scan_in wide bytes ≡ symbol_in wide b rest → MatchOption r (is_last (symbol_in wide b rest).token ≡ true) (λ after. IsAfterSymbol wide b rest after.now) → Finds wide bytes r
symbol_at wide bytes rest b None e f = ap (λ x. is_last x.token) e ∙ f
symbol_at wide bytes rest b (Some x) e f = record { goes_on = ap (λ y. is_last y.token) e ∙ f.goes_on; left = ap (λ y. y.left) e ∙ f.left }

pub symbol_after : (wide : Bool) (bytes rest : List ℕ) (b : ℕ) (r : Option (Bor (List ℕ))) → bytes ≡ b ∷ rest → is_letter b ≡ false → is_ascii_digit b ≡ false → (b == 34) ≡ false → MatchOption r (is_last (symbol_in wide b rest).token ≡ true) (λ after. IsAfterSymbol wide b rest after.now) → Finds wide bytes r
symbol_after wide bytes rest b r e f g h k = symbol_at wide bytes rest b r (ap (scan_in wide) e ∙ scan_symbol wide b rest f g h) k

-- ---- one byte of blanks and comments

-- the bytes after the first
tail_is : (b : ℕ) (bytes : List ℕ) → take (length (b ∷ bytes) - 1) bytes ≡ bytes
tail_is b bytes = take_all (length (b ∷ bytes) - 1) bytes (omega arith)

comment_at : (feed : Bool) (p : Place) (bytes : List ℕ) → (skip (not feed) start bytes).bytes ≡ (if feed then skip false p bytes else skip true p bytes).bytes
comment_at true p bytes = skip_place false start p bytes
comment_at false p bytes = skip_place true start p bytes

-- in a comment, which a line feed ends
pub comment_step : (bytes : List ℕ) (comment : Bool) → 1 ≤ length bytes → comment ≡ true
    → (skip (not (get_or bytes 0 0 == 10)) start (take (length bytes - 1) (drop 1 bytes))).bytes ≡ (skip comment start bytes).bytes
unfolding skip
comment_step [] comment h e = absurd (omega arith)
comment_step (b ∷ bytes) comment h e =
    ap (λ x. (skip (not (b == 10)) start x).bytes) (tail_is b bytes) ∙ comment_at (b == 10) (moved start b) bytes ∙ ap (λ c. (skip c start (b ∷ bytes)).bytes) (sym e)

-- at a byte that begins a comment
pub hash_step : (bytes : List ℕ) (comment now : Bool) → 1 ≤ length bytes → comment ≡ false → get_or bytes 0 0 ≡ 35 → now ≡ true
    → (skip now start (take (length bytes - 1) (drop 1 bytes))).bytes ≡ (skip comment start bytes).bytes
unfolding skip
hash_step [] comment now h e f g = absurd (omega arith)
hash_step (b ∷ bytes) comment now h e f g =
    let is : (b == 35) ≡ true = eq-eqb b 35 f in
    ap (λ x. (skip now start x).bytes) (tail_is b bytes) ∙ ap (λ c. (skip c start bytes).bytes) g ∙ skip_place true start (moved start b) bytes
    ∙ ap (λ c. (if c then skip true (moved start b) bytes else (if is_blank b then skip false (moved start b) bytes else record { place = start; bytes = b ∷ bytes })).bytes) (sym is)
    ∙ ap (λ c. (skip c start (b ∷ bytes)).bytes) (sym e)

-- at a blank
pub blank_step : (bytes : List ℕ) (comment : Bool) → 1 ≤ length bytes → comment ≡ false → (get_or bytes 0 0 ≡ 35 → ⊥) → is_blank (get_or bytes 0 0) ≡ true
    → (skip comment start (take (length bytes - 1) (drop 1 bytes))).bytes ≡ (skip comment start bytes).bytes
unfolding skip
blank_step [] comment h e f g = absurd (omega arith)
blank_step (b ∷ bytes) comment h e f g =
    let none : (b == 35) ≡ false = ne_eqb b 35 f in
    ap (λ x. (skip comment start x).bytes) (tail_is b bytes) ∙ ap (λ c. (skip c start bytes).bytes) e ∙ skip_place false start (moved start b) bytes
    ∙ ap (λ c. (if c then skip false (moved start b) bytes else record { place = start; bytes = b ∷ bytes }).bytes) (sym g)
    ∙ ap (λ c. (if c then skip true (moved start b) bytes else (if is_blank b then skip false (moved start b) bytes else record { place = start; bytes = b ∷ bytes })).bytes) (sym none)
    ∙ ap (λ c. (skip c start (b ∷ bytes)).bytes) (sym e)
