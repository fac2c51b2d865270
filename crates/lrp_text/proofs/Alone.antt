-- The slice of a text, by itself, is that text.
use Rattle.std.proofs.Common.{◌≡◌, ℕ, Bool, true, false, ◌||◌, ◌&&◌, ◌==◌, List, [], ◌∷◌, refl, ap, ◌∙◌, subst, Result, Ok, Err, codes}
use Rattle.std.specs.Str.{bytes_eq}
use Rattle.lrp_model.specs.declared.tokens.Symbol.{Symbol}
use Rattle.lrp_model.specs.declared.tokens.Symbol.TheVariants.{Open, Close, OpenBrace, CloseBrace, Comma, Colon, Semicolon, Bar, Plus, Minus, Le, Ge, Lt, Gt, Equals, Star}
use Rattle.lrp_model.specs.Tokens.{Token}
use Rattle.lrp_model.specs.Tokens.Token.{text_token, number_token, end_token}
use Rattle.std.specs.Str.Parse.{digits_value}
use Rattle.lrp_model.specs.Lexing.{is_letter, is_name_byte, is_forbidden, run, after_run, word_or_name, Scanned, QuotedText as TextRead, longer, more_taken, bad_at, text_from, text_scanned, one, one_or_two, symbol_in, scan_in, scan, further_symbol, no_symbol}
use Rattle.std.specs.Char.{is_ascii_digit}
use Rattle.lrp_text.proofs.Scans.{chosen}

-- the same text with nothing after it
abbrev whole : TextRead → Result TextRead Scanned
whole t = Ok (record { meant = t.meant; taken = t.taken; left = [] })

-- what a text takes is that text, also from its backslash on
abbrev IsAlone : Bool → Result TextRead Scanned → Type 0
IsAlone false (Ok t) = text_from false t.taken ≡ whole t
IsAlone true (Ok t) = (us : List ℕ) × (t.taken ≡ 92 ∷ us) × (text_from true us ≡ whole t)
IsAlone _ (Err s) = Unit {0}

-- an escape in front
alone_escape : (b : ℕ) (r : Result TextRead Scanned) → ((b == 34) || (b == 92)) ≡ true → IsAlone false r → IsAlone true (more_taken 92 (longer b b r))
unfolding text_from
alone_escape b (Ok t) e k = (b ∷ t.taken, refl, rw (e, k) refl)
alone_escape b (Err s) e k = tt

-- a plain byte in front
alone_plain : (b : ℕ) (r : Result TextRead Scanned) → (b == 34) ≡ false → (b == 92) ≡ false → is_forbidden b ≡ false → IsAlone false r → IsAlone false (longer b b r)
unfolding text_from
alone_plain b (Ok t) n m e k = rw (n, m, e, k) refl
alone_plain b (Err s) n m e k = tt

-- from the backslash on, or whole
alone_slash : (r : Result TextRead Scanned) → IsAlone true r → IsAlone false r
unfolding text_from
alone_slash (Ok t) k = ap (text_from false) k.1 ∙ k.2
alone_slash (Err s) k = tt

-- the closing quote
alone_quote : (b : ℕ) → (b == 34) ≡ true → text_from false (b ∷ []) ≡ Ok (record { meant = []; taken = b ∷ []; left = [] })
unfolding text_from
alone_quote b e = rw e refl

-- what the bytes after an opening quote take is a text by itself
text_alone : (slash : Bool) (bs : List ℕ) → IsAlone slash (text_from slash bs)
unfolding text_from
text_alone true [] = tt
text_alone true (b ∷ bs) = chosen (IsAlone true) ((b == 34) || (b == 92)) (more_taken 92 (longer b b (text_from false bs))) (bad_at (92 ∷ b ∷ bs)) (λ e. alone_escape b (text_from false bs) e (text_alone false bs)) (λ e. tt)
text_alone false [] = tt
text_alone false (b ∷ bs) =
    chosen (IsAlone false) (b == 34) (Ok (record { meant = []; taken = b ∷ []; left = bs })) _ (alone_quote b)
    (λ n. chosen (IsAlone false) (b == 92) (text_from true bs) _ (λ e. alone_slash (text_from true bs) (text_alone true bs))
    (λ m. chosen (IsAlone false) (is_forbidden b) (bad_at (b ∷ bs)) (longer b b (text_from false bs)) (λ e. tt)
    (λ e. alone_plain b (text_from false bs) n m e (text_alone false bs))))

-- a token that is no text, nor the end
abbrev pub NoText : Token → Type 0
NoText (text_token t) = ⊥
NoText end_token = ⊥
NoText _ = Unit {0}

-- a text where a token is one, by itself
abbrev SameText : Scanned → Type 0
SameText s = (t : List ℕ) → s.token ≡ text_token t → (scan s.taken).token ≡ text_token t

-- no text is the same
none_same : (s : Scanned) → NoText s.token → SameText s
none_same s n t e = absurd (subst NoText e n)

-- a name or a word is no text
pub word_no_text : (n : List ℕ) → NoText (word_or_name n)
unfolding word_or_name
word_no_text n =
    chosen NoText (bytes_eq n (codes "relation")) _ _ (λ e. tt) (λ e. chosen NoText (bytes_eq n (codes "where")) _ _ (λ e. tt) (λ e. chosen NoText (bytes_eq n (codes "time")) _ _ (λ e. tt) (λ e.
    chosen NoText (bytes_eq n (codes "data")) _ _ (λ e. tt) (λ e. chosen NoText (bytes_eq n (codes "n")) _ _ (λ e. tt) (λ e. chosen NoText (bytes_eq n (codes "exists")) _ _ (λ e. tt) (λ e.
    chosen NoText (bytes_eq n (codes "forall")) _ _ (λ e. tt) (λ e. chosen NoText (bytes_eq n (codes "not")) _ _ (λ e. tt) (λ e. chosen NoText (bytes_eq n (codes "and")) _ _ (λ e. tt) (λ e.
    chosen NoText (bytes_eq n (codes "or")) _ _ (λ e. tt) (λ e. chosen NoText (bytes_eq n (codes "implies")) _ _ (λ e. tt) (λ e. chosen NoText (bytes_eq n (codes "in")) _ _ (λ e. tt) (λ e. tt))))))))))))

-- a symbol of one byte or two is no text
two_no_text : (s r : Symbol) (b : ℕ) (bs : List ℕ) → NoText (one_or_two s r b bs).token
two_no_text s r b [] = tt
two_no_text s r b (c ∷ bs) = chosen (λ x. NoText x.token) (c == 61) _ (one s b (c ∷ bs)) (λ e. tt) (λ e. tt)

-- nor is a symbol of the wide language alone
further_no_text : (b : ℕ) (bs : List ℕ) → NoText (further_symbol b bs).token
further_no_text b [] = chosen (λ x. NoText x.token) (b == 42) (one Star b []) (no_symbol b []) (λ e. tt) (λ e. tt)
further_no_text b (c ∷ bs) = chosen (λ x. NoText x.token) (b == 42) (one Star b (c ∷ bs)) _ (λ e. tt) (λ e. chosen (λ x. NoText x.token) ((b == 33) && (c == 61)) _ (no_symbol b (c ∷ bs)) (λ d. tt) (λ d. tt))

-- a symbol is no text
pub symbol_no_text : (wide : Bool) (b : ℕ) (bs : List ℕ) → NoText (symbol_in wide b bs).token
unfolding symbol_in
symbol_no_text wide b bs =
    let P : Scanned → Type 0 = λ s. NoText s.token in
    chosen P (b == 40) (one Open b bs) _ (λ e. tt) (λ e. chosen P (b == 41) (one Close b bs) _ (λ e. tt) (λ e. chosen P (b == 123) (one OpenBrace b bs) _ (λ e. tt) (λ e.
    chosen P (b == 125) (one CloseBrace b bs) _ (λ e. tt) (λ e. chosen P (b == 44) (one Comma b bs) _ (λ e. tt) (λ e. chosen P (b == 58) (one Colon b bs) _ (λ e. tt) (λ e.
    chosen P (b == 59) (one Semicolon b bs) _ (λ e. tt) (λ e. chosen P (b == 124) (one Bar b bs) _ (λ e. tt) (λ e. chosen P (b == 43) (one Plus b bs) _ (λ e. tt) (λ e.
    chosen P (b == 45) (one Minus b bs) _ (λ e. tt) (λ e. chosen P (b == 61) (one Equals b bs) _ (λ e. tt) (λ e. chosen P (b == 60) _ _ (λ e. two_no_text Lt Le b bs) (λ e.
    chosen P (b == 62) _ _ (λ e. two_no_text Gt Ge b bs) (λ e. chosen P wide _ _ (λ w. further_no_text b bs) (λ w. tt))))))))))))))

-- a text with its quotes
quoted_same : (r : Result TextRead Scanned) → IsAlone false r → SameText (text_scanned r)
unfolding scan_in
quoted_same (Ok u) k t e = ap (λ x. (text_scanned x).token) k ∙ e
quoted_same (Err s) k t e = absurd cc

-- the slice of a text token is, by itself, that text
pub scan_alone : (wide : Bool) (bs : List ℕ) → SameText (scan_in wide bs)
unfolding scan_in
scan_alone wide [] = λ t e. absurd cc
scan_alone wide (b ∷ bs) =
    chosen SameText (is_letter b) _ _ (λ e. none_same (record { token = word_or_name (run is_name_byte (b ∷ bs)); taken = run is_name_byte (b ∷ bs); left = after_run is_name_byte (b ∷ bs) }) (word_no_text (run is_name_byte (b ∷ bs))))
    (λ n. chosen SameText (is_ascii_digit b) _ _ (λ e. none_same (record { token = number_token (digits_value 10 (run is_ascii_digit (b ∷ bs))); taken = run is_ascii_digit (b ∷ bs); left = after_run is_ascii_digit (b ∷ bs) }) tt)
    (λ m. chosen SameText (b == 34) (text_scanned (text_from false bs)) (symbol_in wide b bs) (λ e. quoted_same (text_from false bs) (text_alone false bs))
    (λ o. none_same (symbol_in wide b bs) (symbol_no_text wide b bs))))

-- the end is the token of no bytes alone
abbrev EndsHere : List ℕ → Scanned → Type 0
EndsHere bs s = s.token ≡ end_token → bs ≡ []

-- no other token is the end
none_ends : (bs : List ℕ) (s : Scanned) → NoText s.token → EndsHere bs s
none_ends bs s n e = absurd (subst NoText e n)

-- nor is a text
quoted_ends : (bs : List ℕ) (r : Result TextRead Scanned) → EndsHere bs (text_scanned r)
quoted_ends bs (Ok t) e = absurd cc
quoted_ends bs (Err s) e = absurd cc

-- the end stands after the last byte
pub scan_end : (wide : Bool) (bs : List ℕ) → EndsHere bs (scan_in wide bs)
unfolding scan_in
scan_end wide [] = λ e. refl
scan_end wide (b ∷ bs) =
    chosen (EndsHere (b ∷ bs)) (is_letter b) _ _ (λ e. none_ends (b ∷ bs) (record { token = word_or_name (run is_name_byte (b ∷ bs)); taken = run is_name_byte (b ∷ bs); left = after_run is_name_byte (b ∷ bs) }) (word_no_text (run is_name_byte (b ∷ bs))))
    (λ n. chosen (EndsHere (b ∷ bs)) (is_ascii_digit b) _ _ (λ e. none_ends (b ∷ bs) (record { token = number_token (digits_value 10 (run is_ascii_digit (b ∷ bs))); taken = run is_ascii_digit (b ∷ bs); left = after_run is_ascii_digit (b ∷ bs) }) tt)
    (λ m. chosen (EndsHere (b ∷ bs)) (b == 34) (text_scanned (text_from false bs)) (symbol_in wide b bs) (λ e. quoted_ends (b ∷ bs) (text_from false bs))
    (λ o. none_ends (b ∷ bs) (symbol_in wide b bs) (symbol_no_text wide b bs))))
