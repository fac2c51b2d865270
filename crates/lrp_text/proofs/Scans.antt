-- What a scanned token takes: the bytes before those left, on one line, up to a place where a text may be cut.
use Rattle.std.proofs.Common.{◌≡◌, ◌<◌, ◌+◌, ◌⊎◌, inl, inr, ℕ, Bool, true, false, ◌||◌, ◌&&◌, ◌==◌, List, [], ◌∷◌, ◌++◌, refl, ap, ◌∙◌, sym, subst, if◌then◌else◌, length, get_or, Result, Ok, Err, arith, append_assoc, append-nil}
use Rattle.std.proofs.lemmas.Bool.{eqb-true}
use Rattle.std.proofs.lemmas.Bool.Decides.{nat_tests}
use Rattle.std.proofs.lemmas.List.{length-append}
use Rattle.std.proofs.Math.Seq.{get_or-append_seam}
use Rattle.std.specs.Str.{IsUtf8, IsCharBoundary}
use Rattle.std.proofs.lemmas.Str.{IsCharBoundary-after_ascii, IsCharBoundary-before_ascii, IsCharBoundary-end}
use Rattle.lrp_model.specs.declared.tokens.Place.{Place}
use Rattle.lrp_model.specs.declared.tokens.Symbol.{Symbol}
use Rattle.lrp_model.specs.declared.tokens.Symbol.TheVariants.{Open, Close, OpenBrace, CloseBrace, Comma, Colon, Semicolon, Bar, Plus, Minus, Le, Ge, Lt, Gt, Equals, Star, Differs}
use Rattle.lrp_model.specs.Tokens.{Token}
use Rattle.lrp_model.specs.Tokens.Token.{end_token, bad_token, number_token, symbol_token}
use Rattle.std.specs.Str.Parse.{digits_value}
use Rattle.lrp_model.specs.Lexing.{is_letter, is_name_byte, is_forbidden, moved, after, run, after_run, word_or_name, Scanned, QuotedText as TextRead, longer, more_taken, bad_at, text_from, text_scanned, one, one_or_two, symbol_in, scan_in, scan, further_symbol, no_symbol}
use Rattle.std.specs.Char.{is_ascii_digit}
use Rattle.lrp_text.proofs.Runs.{run_whole}

-- a choice, where each side knows which one it is
pub chosen : {A : Type 0} (P : A → Type 0) (c : Bool) (x y : A) → (c ≡ true → P x) → (c ≡ false → P y) → P (if c then x else y)
chosen P true x y f g = f refl
chosen P false x y f g = g refl

-- no line feed is among the bytes
abbrev pub OneLine : List ℕ → Type 0
OneLine [] = Unit {0}
OneLine (b ∷ bs) = ((b == 10) ≡ false) × OneLine bs

-- the place after bytes of one line
pub after_line : (p : Place) (bs : List ℕ) → OneLine bs → after p bs ≡ record { line = p.line; column = p.column + length bs }
unfolding after
after_line p [] l = let e : p.column + 0 ≡ p.column = omega arith in ap (λ c. record { line = p.line; column = c }) (sym e)
after_line p (b ∷ bs) l =
    let m : moved p b ≡ record { line = p.line; column = p.column + 1 } = ap (λ c. if c then record { line = p.line + 1; column = 1 } else record { line = p.line; column = p.column + 1 }) l.0 in
    let e : p.column + 1 + length bs ≡ p.column + length (b ∷ bs) = omega arith in
    ap (λ q. after q bs) m ∙ after_line (record { line = p.line; column = p.column + 1 }) bs l.1 ∙ ap (λ c. record { line = p.line; column = c }) e

-- a byte that may be a line feed
feed_at : (test : ℕ → Bool) (b : ℕ) (v w c : Bool) → (b == 10) ≡ c → test b ≡ v → test 10 ≡ w → (v ≡ w → ⊥) → c ≡ false
feed_at test b v w true e told feed ne = absurd (ne (sym told ∙ ap test (eqb-true b 10 e) ∙ feed))
feed_at test b v w false e told feed ne = refl

-- a byte of which a test says what it does not say of a line feed
pub no_feed : (test : ℕ → Bool) (b : ℕ) (v w : Bool) → test b ≡ v → test 10 ≡ w → (v ≡ w → ⊥) → (b == 10) ≡ false
no_feed test b v w told feed ne = feed_at test b v w (b == 10) refl told feed ne

-- the last byte is one of ASCII
abbrev pub EndsPlain : List ℕ → Type 0
EndsPlain bs = (front : List ℕ) × (b : ℕ) × (bs ≡ front ++ b ∷ []) × (b < 128)

-- one more byte in front
pub ends_more : (b : ℕ) (bs : List ℕ) → EndsPlain bs → EndsPlain (b ∷ bs)
ends_more b bs k = (b ∷ k.0, k.1, ap (λ x. b ∷ x) k.2, k.3)

-- after such bytes a text may be cut
pub ends_boundary : (xs ys : List ℕ) → IsUtf8 (xs ++ ys) → EndsPlain xs → IsCharBoundary (xs ++ ys) (length xs)
ends_boundary xs ys u k =
    let whole : xs ++ ys ≡ k.0 ++ k.1 ∷ ys = ap (λ x. x ++ ys) k.2 ∙ append_assoc k.0 (k.1 ∷ []) ys in
    let here : get_or (xs ++ ys) (length k.0) 0 ≡ k.1 = ap (λ x. get_or x (length k.0) 0) whole ∙ get_or-append_seam k.0 k.1 ys 0 in
    let size : length xs ≡ length k.0 + 1 = ap length k.2 ∙ length-append k.0 (k.1 ∷ []) in
    let all : length (xs ++ ys) ≡ length xs + length ys = length-append xs ys in
    subst (IsCharBoundary (xs ++ ys)) (sym size) (IsCharBoundary-after_ascii (xs ++ ys) (length k.0) u (omega arith) (omega (arith, here, k.3)))

-- bytes that end, or go on with one of ASCII
abbrev pub GoesPlain : List ℕ → Type 0
GoesPlain bs = (bs ≡ []) ⊎ ((b : ℕ) × (rest : List ℕ) × (bs ≡ b ∷ rest) × (b < 128))

-- before such bytes a text may be cut
pub goes_boundary : (xs ys : List ℕ) → GoesPlain ys → IsCharBoundary (xs ++ ys) (length xs)
goes_boundary xs ys (inl n) =
    let size : length (xs ++ ys) ≡ length xs = ap (λ x. length (xs ++ x)) n ∙ ap length (append-nil xs) in
    subst (IsCharBoundary (xs ++ ys)) size (IsCharBoundary-end (xs ++ ys))
goes_boundary xs ys (inr k) =
    let whole : xs ++ ys ≡ xs ++ k.0 ∷ k.1 = ap (λ x. xs ++ x) k.2 in
    let here : get_or (xs ++ ys) (length xs) 0 ≡ k.0 = ap (λ x. get_or x (length xs) 0) whole ∙ get_or-append_seam xs k.0 k.1 0 in
    let all : length (xs ++ ys) ≡ length xs + length (k.0 ∷ k.1) = ap length whole ∙ length-append xs (k.0 ∷ k.1) in
    IsCharBoundary-before_ascii (xs ++ ys) (length xs) (omega arith) (omega (arith, here, k.3))

-- such bytes are some
pub ends_some : (xs : List ℕ) → EndsPlain xs → 0 < length xs
ends_some xs k =
    let size : length xs ≡ length k.0 + 1 = ap length k.2 ∙ length-append k.0 (k.1 ∷ []) in
    omega arith

-- a run of bytes that are no line feeds is on one line
run_line : (test : ℕ → Bool) → ((b : ℕ) → test b ≡ true → (b == 10) ≡ false) → (bs : List ℕ) → OneLine (run test bs)
unfolding run
run_line test plain [] = tt
run_line test plain (b ∷ bs) = chosen OneLine (test b) (b ∷ run test bs) [] (λ e. (plain b e, run_line test plain bs)) (λ e. tt)

-- a run of bytes of ASCII is empty or ends with one
run_ends : (test : ℕ → Bool) → ((b : ℕ) → test b ≡ true → b < 128) → (bs : List ℕ) → (run test bs ≡ []) ⊎ EndsPlain (run test bs)
unfolding run
run_ends test small [] = inl refl
run_ends test small (b ∷ bs) =
    chosen (λ x. (x ≡ []) ⊎ EndsPlain x) (test b) (b ∷ run test bs) []
    (λ e. elim (run_ends test small bs) [ inl n ↦ inr ([], b, ap (λ x. b ∷ x) n, small b e) | inr k ↦ inr (ends_more b (run test bs) k) ])
    (λ e. inl refl)

-- a run that begins with a byte of the test is not empty
run_some : (test : ℕ → Bool) (b : ℕ) (bs : List ℕ) → test b ≡ true → run test (b ∷ bs) ≡ [] → ⊥
unfolding run
run_some test b bs e n = let m : b ∷ run test bs ≡ [] = sym (ap (λ c. if c then b ∷ run test bs else []) e) ∙ n in absurd cc

-- what is taken up to a bad byte: nothing, or bytes up to one of ASCII or the end
abbrev pub StopsPlain : List ℕ → List ℕ → Type 0
StopsPlain taken left = (taken ≡ []) ⊎ GoesPlain left

-- what a scanned token takes of the bytes; all but a bad byte and the end take some, up to a place where a text may be cut
pub record IsTaken (bs : List ℕ) (s : Scanned) : Type 0 where
  pub whole : s.taken ++ s.left ≡ bs
  pub line : OneLine s.taken
  pub ends : ((s.token ≡ bad_token) × StopsPlain s.taken s.left) ⊎ (((s.token ≡ end_token) × (s.taken ≡ [])) ⊎ EndsPlain s.taken)

-- a token that is a run
run_taken_so : (test : ℕ → Bool) (k : Token) (b : ℕ) (bs : List ℕ) → ((x : ℕ) → test x ≡ true → (x == 10) ≡ false) → ((x : ℕ) → test x ≡ true → x < 128) → test b ≡ true → IsTaken (b ∷ bs) (record { token = k; taken = run test (b ∷ bs); left = after_run test (b ∷ bs) })
run_taken_so test k b bs plain small e = record {
  whole = run_whole test (b ∷ bs);
  line = run_line test plain (b ∷ bs);
  ends = elim (run_ends test small (b ∷ bs)) [ inl n ↦ absurd (run_some test b bs e n) | inr k ↦ inr (inr k) ];
}

-- what a text takes
abbrev TextTaken : List ℕ → Result TextRead Scanned → Type 0
TextTaken bs (Ok t) = (t.taken ++ t.left ≡ bs) × OneLine t.taken × EndsPlain t.taken
TextTaken bs (Err s) = (s.taken ++ s.left ≡ bs) × OneLine s.taken × GoesPlain s.left

-- one more byte of a text, which means itself
text_longer : (b : ℕ) (bs : List ℕ) (r : Result TextRead Scanned) → (b == 10) ≡ false → TextTaken bs r → TextTaken (b ∷ bs) (longer b b r)
text_longer b bs (Ok t) e k = (ap (λ x. b ∷ x) k.0, (e, k.1), ends_more b t.taken k.2)
text_longer b bs (Err s) e k = (ap (λ x. b ∷ x) k.0, (e, k.1), k.2)

-- one more byte of a text, which means nothing
text_more : (b : ℕ) (bs : List ℕ) (r : Result TextRead Scanned) → (b == 10) ≡ false → TextTaken bs r → TextTaken (b ∷ bs) (more_taken b r)
text_more b bs (Ok t) e k = (ap (λ x. b ∷ x) k.0, (e, k.1), ends_more b t.taken k.2)
text_more b bs (Err s) e k = (ap (λ x. b ∷ x) k.0, (e, k.1), k.2)

-- a forbidden byte is one of ASCII
forbidden_small : (b : ℕ) → is_forbidden b ≡ true → b < 128
forbidden_small b e = grind (arith, nat_tests)

-- the bytes from the backslash on, where there was one
abbrev from_slash : Bool → List ℕ → List ℕ
from_slash true bs = 92 ∷ bs
from_slash false bs = bs

-- what the bytes after an opening quote take
text_taken : (slash : Bool) (bs : List ℕ) → TextTaken (from_slash slash bs) (text_from slash bs)
unfolding text_from
text_taken true [] = (refl, tt, inr (92, [], refl, omega arith))
text_taken true (b ∷ bs) =
    chosen (TextTaken (92 ∷ b ∷ bs)) ((b == 34) || (b == 92)) (more_taken 92 (longer b b (text_from false bs))) (bad_at (92 ∷ b ∷ bs))
    (λ e. text_more 92 (b ∷ bs) (longer b b (text_from false bs)) refl (text_longer b bs (text_from false bs) (no_feed (λ x. (x == 34) || (x == 92)) b true false e refl (λ h. absurd cc)) (text_taken false bs)))
    (λ e. (refl, tt, inr (92, b ∷ bs, refl, omega arith)))
text_taken false [] = (refl, tt, inl refl)
text_taken false (b ∷ bs) =
    chosen (TextTaken (b ∷ bs)) (b == 34) (Ok (record { meant = []; taken = b ∷ []; left = bs })) _
    (λ e. let quote : b ≡ 34 = eqb-true b 34 e in (refl, (no_feed (λ x. x == 34) b true false e refl (λ h. absurd cc), tt), ([], b, refl, omega arith)))
    (λ n. chosen (TextTaken (b ∷ bs)) (b == 92) (text_from true bs) _
    (λ e. subst (λ x. TextTaken (x ∷ bs) (text_from true bs)) (sym (eqb-true b 92 e)) (text_taken true bs))
    (λ m. chosen (TextTaken (b ∷ bs)) (is_forbidden b) (bad_at (b ∷ bs)) (longer b b (text_from false bs))
    (λ e. (refl, tt, inr (b, bs, refl, forbidden_small b e)))
    (λ e. text_longer b bs (text_from false bs) (no_feed is_forbidden b false true e refl (λ h. absurd cc)) (text_taken false bs))))

-- what a text takes with its opening quote
quoted_taken : (bs : List ℕ) (r : Result TextRead Scanned) → TextTaken bs r → IsTaken (34 ∷ bs) (text_scanned r)
quoted_taken bs (Ok t) k = record { whole = ap (λ x. 34 ∷ x) k.0; line = (refl, k.1); ends = inr (inr (ends_more 34 t.taken k.2)) }
quoted_taken bs (Err s) k = record { whole = ap (λ x. 34 ∷ x) k.0; line = (refl, k.1); ends = inl (refl, inr k.2) }

-- what a symbol of one byte takes
one_taken : (s : Symbol) (v b : ℕ) (bs : List ℕ) → (v == 10) ≡ false → v < 128 → (b == v) ≡ true → IsTaken (b ∷ bs) (one s b bs)
one_taken s v b bs feed small e =
    let is : b ≡ v = eqb-true b v e in
    record { whole = refl; line = (subst (λ x. (x == 10) ≡ false) (sym is) feed, tt); ends = inr (inr ([], b, refl, omega arith)) }

-- what a symbol takes that an equals sign may make longer
two_taken : (s r : Symbol) (v b : ℕ) (bs : List ℕ) → (v == 10) ≡ false → v < 128 → (b == v) ≡ true → IsTaken (b ∷ bs) (one_or_two s r b bs)
two_taken s r v b [] feed small e = one_taken s v b [] feed small e
two_taken s r v b (c ∷ bs) feed small e =
    let is : b ≡ v = eqb-true b v e in
    chosen (IsTaken (b ∷ c ∷ bs)) (c == 61) _ (one s b (c ∷ bs))
    (λ d. let equals : c ≡ 61 = eqb-true c 61 d in record { whole = refl; line = (subst (λ x. (x == 10) ≡ false) (sym is) feed, (no_feed (λ x. x == 61) c true false d refl (λ h. absurd cc), tt)); ends = inr (inr (b ∷ [], c, refl, omega arith)) })
    (λ d. one_taken s v b (c ∷ bs) feed small e)

-- no symbol takes nothing
none_taken : (b : ℕ) (bs : List ℕ) → IsTaken (b ∷ bs) (no_symbol b bs)
none_taken b bs = record { whole = refl; line = tt; ends = inl (refl, inl refl) }

-- what a symbol of the wide language alone takes
further_taken : (b : ℕ) (bs : List ℕ) → IsTaken (b ∷ bs) (further_symbol b bs)
further_taken b [] = chosen (IsTaken (b ∷ [])) (b == 42) _ _ (one_taken Star 42 b [] refl (omega arith)) (λ n. none_taken b [])
further_taken b (c ∷ bs) =
    chosen (IsTaken (b ∷ c ∷ bs)) (b == 42) _ _ (one_taken Star 42 b (c ∷ bs) refl (omega arith)) (λ n.
    chosen (IsTaken (b ∷ c ∷ bs)) ((b == 33) && (c == 61)) _ _ (differs_taken b c bs) (λ m. none_taken b (c ∷ bs)))
  where
    both_true : (x y : Bool) → (x && y) ≡ true → (x ≡ true) × (y ≡ true)
    both_true true y e = (refl, e)
    both_true false y e = absurd cc

    differs_taken : (b c : ℕ) (bs : List ℕ) → ((b == 33) && (c == 61)) ≡ true → IsTaken (b ∷ c ∷ bs) (record { token = symbol_token Differs; taken = b ∷ c ∷ []; left = bs })
    differs_taken b c bs e =
        let k = both_true (b == 33) (c == 61) e in
        let mark : b ≡ 33 = eqb-true b 33 k.0 in
        let equals : c ≡ 61 = eqb-true c 61 k.1 in
        record { whole = refl; line = (subst (λ x. (x == 10) ≡ false) (sym mark) refl, (subst (λ x. (x == 10) ≡ false) (sym equals) refl, tt)); ends = inr (inr (b ∷ [], c, refl, omega arith)) }

-- what a symbol takes
symbol_taken : (wide : Bool) (b : ℕ) (bs : List ℕ) → IsTaken (b ∷ bs) (symbol_in wide b bs)
unfolding symbol_in
symbol_taken wide b bs =
    let P : Scanned → Type 0 = IsTaken (b ∷ bs) in
    chosen P (b == 40) _ _ (one_taken Open 40 b bs refl (omega arith)) (λ n1.
    chosen P (b == 41) _ _ (one_taken Close 41 b bs refl (omega arith)) (λ n2.
    chosen P (b == 123) _ _ (one_taken OpenBrace 123 b bs refl (omega arith)) (λ n3.
    chosen P (b == 125) _ _ (one_taken CloseBrace 125 b bs refl (omega arith)) (λ n4.
    chosen P (b == 44) _ _ (one_taken Comma 44 b bs refl (omega arith)) (λ n5.
    chosen P (b == 58) _ _ (one_taken Colon 58 b bs refl (omega arith)) (λ n6.
    chosen P (b == 59) _ _ (one_taken Semicolon 59 b bs refl (omega arith)) (λ n7.
    chosen P (b == 124) _ _ (one_taken Bar 124 b bs refl (omega arith)) (λ n8.
    chosen P (b == 43) _ _ (one_taken Plus 43 b bs refl (omega arith)) (λ n9.
    chosen P (b == 45) _ _ (one_taken Minus 45 b bs refl (omega arith)) (λ n10.
    chosen P (b == 61) _ _ (one_taken Equals 61 b bs refl (omega arith)) (λ n11.
    chosen P (b == 60) _ _ (two_taken Lt Le 60 b bs refl (omega arith)) (λ n12.
    chosen P (b == 62) _ _ (two_taken Gt Ge 62 b bs refl (omega arith)) (λ n13.
    chosen P wide _ _ (λ w. further_taken b bs) (λ w. record { whole = refl; line = tt; ends = inl (refl, inl refl) }))))))))))))))

-- a byte of a name is one of ASCII
name_small : (b : ℕ) → is_name_byte b ≡ true → b < 128
name_small b e = grind (arith, nat_tests)

-- a digit is a byte of ASCII
digit_small : (b : ℕ) → is_ascii_digit b ≡ true → b < 128
digit_small b e = grind (arith, nat_tests)

-- what the token takes that bytes begin with
pub scan_taken_in : (wide : Bool) (bs : List ℕ) → IsTaken bs (scan_in wide bs)
unfolding scan_in
scan_taken_in wide [] = record { whole = refl; line = tt; ends = inr (inl (refl, refl)) }
scan_taken_in wide (b ∷ bs) =
    let P : Scanned → Type 0 = IsTaken (b ∷ bs) in
    chosen P (is_letter b) _ _
    (λ e. run_taken_so is_name_byte (word_or_name (run is_name_byte (b ∷ bs))) b bs (λ x t. no_feed is_name_byte x true false t refl (λ h. absurd cc)) name_small (ap (λ c. c || is_ascii_digit b) e))
    (λ n. chosen P (is_ascii_digit b) _ _
    (λ e. run_taken_so is_ascii_digit (number_token (digits_value 10 (run is_ascii_digit (b ∷ bs)))) b bs (λ x t. no_feed is_ascii_digit x true false t refl (λ h. absurd cc)) digit_small e)
    (λ m. chosen P (b == 34) _ _
    (λ e. subst (λ x. IsTaken (x ∷ bs) (text_scanned (text_from false bs))) (sym (eqb-true b 34 e)) (quoted_taken bs (text_from false bs) (text_taken false bs)))
    (λ o. symbol_taken wide b bs)))

-- of the other languages
pub scan_taken : (bs : List ℕ) → IsTaken bs (scan bs)
scan_taken = scan_taken_in false
