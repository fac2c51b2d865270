-- The token that a written piece begins with, before what may follow it.
use Rattle.std.proofs.Common.{◌≡◌, ◌<◌, ◌^◌, ◌+◌, ℕ, Bool, true, false, ◌||◌, ◌==◌, if◌then◌else◌, List, [], ◌∷◌, ◌++◌, length, refl, ap, ◌∙◌, sym, subst, Result, Ok, Err, arith, append_assoc}
use Rattle.std.proofs.lemmas.Bool.Decides.{nat_tests}
use Rattle.std.specs.List.{flat_map, AllByRecursion}
use Rattle.std.specs.Fmt.{decimal}
use Rattle.std.specs.Str.Parse.{AllDigits, digits_value}
use Rattle.std.specs.Char.{digit_value, is_ascii_digit}
use Rattle.std.proofs.lemmas.Fmt.{decimal_is_IsNumeral}
use Rattle.std.proofs.lemmas.Str.Parse.{digit_from_value}
use Rattle.lrp_model.specs.declared.tokens.Symbol.{Symbol}
use Rattle.lrp_model.specs.declared.tokens.Symbol.TheVariants.{Open, Close, OpenBrace, CloseBrace, Comma, Colon, Semicolon, Bar, Plus, Minus, Le, Ge, Lt, Gt, Equals}
use Rattle.lrp_model.specs.Texts.{Identifier}
use Rattle.lrp_model.specs.Tokens.{Token}
use Rattle.lrp_model.specs.Tokens.Token.{name_token, number_token, text_token}
use Rattle.lrp_model.specs.Printed.{escaped, quoted}
use Rattle.lrp_model.specs.Lexing.{is_letter, is_name_byte, is_forbidden, run, after_run, word_or_name, Scanned, QuotedText as TextRead, text_from, text_scanned, one, one_or_two, symbol_from, scan, scan_in, symbol_in}
use Rattle.lrp_text.proofs.Scans.{chosen}
use Rattle.lrp_model.specs.Names.{IsName}
use Rattle.lrp_print.proofs.Spelling.{took, Begins}

-- ---- runs of bytes

-- what follows a run: nothing, or a byte without the test
abbrev pub Stops : (ℕ → Bool) → List ℕ → Type 0
Stops test [] = Unit {0}
Stops test (b ∷ bs) = test b ≡ false

-- bytes that are one run are taken as one
pub run_over : (test : ℕ → Bool) (w rest : List ℕ) → run test w ≡ w → Stops test rest → (run test (w ++ rest) ≡ w) × (after_run test (w ++ rest) ≡ rest)
unfolding run after_run
run_over test [] [] e s = (refl, refl)
run_over test [] (b ∷ bs) e s = (rw s refl, rw s refl)
run_over test (b ∷ w) rest e s = by (test b) refl e (λ tail. run_over test w rest tail s)
  where
    by : (c : Bool) → test b ≡ c → (if c then b ∷ run test w else []) ≡ b ∷ w → (run test w ≡ w → (run test (w ++ rest) ≡ w) × (after_run test (w ++ rest) ≡ rest))
        → ((if test b then b ∷ run test (w ++ rest) else []) ≡ b ∷ w) × ((if test b then after_run test (w ++ rest) else b ∷ (w ++ rest)) ≡ rest)
    by true t d again =
        let tail : run test w ≡ w = cc in
        let more = again tail in
        (rw t (ap (λ x. b ∷ x) more.0), rw t more.1)
    by false t d again = absurd cc

-- ---- words and names

-- a run of a name's bytes that begins with a letter is one token
pub word_scanned : (b : ℕ) (bs rest : List ℕ) → is_letter b ≡ true → run is_name_byte (b ∷ bs) ≡ b ∷ bs → Stops is_name_byte rest → scan (b ∷ (bs ++ rest)) ≡ took (word_or_name (b ∷ bs)) (b ∷ bs) rest
unfolding scan_in
word_scanned b bs rest e whole s =
    let k = run_over is_name_byte (b ∷ bs) rest whole s in
    let here : scan (b ∷ (bs ++ rest)) ≡ took (word_or_name (run is_name_byte (b ∷ (bs ++ rest)))) (run is_name_byte (b ∷ (bs ++ rest))) (after_run is_name_byte (b ∷ (bs ++ rest))) = rw e refl in
    here ∙ ap (λ r. took (word_or_name r) r (after_run is_name_byte (b ∷ (bs ++ rest)))) k.0 ∙ ap (took (word_or_name (b ∷ bs)) (b ∷ bs)) k.1

-- a letter begins a token
pub letter_begins : (b : ℕ) → is_letter b ≡ true → Begins b
letter_begins b e = record { plain = grind (arith, nat_tests); dark = grind (arith, nat_tests) }

-- a token that is no name
abbrev NoName : Token → Type 0
NoName (name_token n) = ⊥
NoName _ = Unit {0}

-- a symbol is no name
two_no_name : (s r : Symbol) (b : ℕ) (bs : List ℕ) → NoName (one_or_two s r b bs).token
two_no_name s r b [] = tt
two_no_name s r b (c ∷ bs) = chosen (λ x. NoName x.token) (c == 61) _ (one s b (c ∷ bs)) (λ e. tt) (λ e. tt)

symbol_no_name : (b : ℕ) (bs : List ℕ) → NoName (symbol_from b bs).token
unfolding symbol_in
symbol_no_name b bs =
    let P : Scanned → Type 0 = λ s. NoName s.token in
    chosen P (b == 40) (one Open b bs) _ (λ e. tt) (λ e. chosen P (b == 41) (one Close b bs) _ (λ e. tt) (λ e. chosen P (b == 123) (one OpenBrace b bs) _ (λ e. tt) (λ e.
    chosen P (b == 125) (one CloseBrace b bs) _ (λ e. tt) (λ e. chosen P (b == 44) (one Comma b bs) _ (λ e. tt) (λ e. chosen P (b == 58) (one Colon b bs) _ (λ e. tt) (λ e.
    chosen P (b == 59) (one Semicolon b bs) _ (λ e. tt) (λ e. chosen P (b == 124) (one Bar b bs) _ (λ e. tt) (λ e. chosen P (b == 43) (one Plus b bs) _ (λ e. tt) (λ e.
    chosen P (b == 45) (one Minus b bs) _ (λ e. tt) (λ e. chosen P (b == 61) (one Equals b bs) _ (λ e. tt) (λ e. chosen P (b == 60) _ _ (λ e. two_no_name Lt Le b bs) (λ e.
    chosen P (b == 62) _ _ (λ e. two_no_name Gt Ge b bs) (λ e. tt)))))))))))))

-- a text is no name
text_no_name : (r : Result TextRead Scanned) → NoName (text_scanned r).token
text_no_name (Ok t) = tt
text_no_name (Err s) = tt

-- a name: a letter and other bytes, all of them one run, and no reserved word
pub record IsWord (n : Identifier) : Type 0 where
  pub first : ℕ
  pub others : List ℕ
  pub is : n ≡ first ∷ others
  pub letter : is_letter first ≡ true
  pub whole : run is_name_byte (first ∷ others) ≡ first ∷ others
  pub plain : word_or_name (first ∷ others) ≡ name_token (first ∷ others)

-- what a name is made of
pub name_word : (n : Identifier) → IsName n → IsWord n
unfolding scan_in
name_word [] h = absurd (subst NoName (ap (λ s. s.token) h) tt)
name_word (b ∷ bs) h =
    let n = b ∷ bs in
    let P : Scanned → Type 0 = λ s. s ≡ took (name_token n) n [] → IsWord n in
    chosen P (is_letter b) _ _
    (λ e d.
    let whole : run is_name_byte n ≡ n = ap (λ s. s.taken) d in
    let plain : word_or_name (run is_name_byte n) ≡ name_token n = ap (λ s. s.token) d in
    record { first = b; others = bs; is = refl; letter = e; whole = whole; plain = ap word_or_name (sym whole) ∙ plain })
    (λ m. chosen P (is_ascii_digit b) _ _ (λ e d. absurd (subst NoName (ap (λ s. s.token) d) tt))
    (λ o. chosen P (b == 34) (text_scanned (text_from false bs)) (symbol_from b bs)
    (λ e d. absurd (subst NoName (ap (λ s. s.token) d) (text_no_name (text_from false bs))))
    (λ e d. absurd (subst NoName (ap (λ s. s.token) d) (symbol_no_name b bs))))) h

-- ---- numbers

-- digits are one run
digits_run : (ds : List ℕ) → AllDigits 10 ds → run is_ascii_digit ds ≡ ds
unfolding run
digits_run [] d = refl
digits_run (c ∷ cs) d = rw (digit_told c d.0) (ap (λ x. c ∷ x) (digits_run cs d.1))
  where
    digit_told : (c : ℕ) → digit_value c < 10 → is_ascii_digit c ≡ true
    digit_told c lt = let k = digit_from_value c lt in grind (arith, nat_tests)

-- a number as it is written: a digit and others, all of them one run, of its value
pub record IsNumber (n : ℕ) : Type 0 where
  pub first : ℕ
  pub others : List ℕ
  pub is : decimal n ≡ first ∷ others
  pub digit : is_ascii_digit first ≡ true
  pub whole : run is_ascii_digit (first ∷ others) ≡ first ∷ others
  pub value : digits_value 10 (first ∷ others) ≡ n

-- a digit begins the run
first_digit : (b : ℕ) (bs : List ℕ) → run is_ascii_digit (b ∷ bs) ≡ b ∷ bs → is_ascii_digit b ≡ true
unfolding run
first_digit b bs e = by (is_ascii_digit b) refl e
  where
    by : (c : Bool) → is_ascii_digit b ≡ c → (if c then b ∷ run is_ascii_digit bs else []) ≡ b ∷ bs → is_ascii_digit b ≡ true
    by true t d = t
    by false t d = absurd cc

-- what a number is written as
pub decimal_number : (n : ℕ) → n < 2 ^ 64 → IsNumber n
decimal_number n lt =
    let k = decimal_is_IsNumeral n lt in
    by (decimal n) refl k.0.0 k.0.1 k.1
  where
    by : (ds : List ℕ) → decimal n ≡ ds → 0 < length ds → AllDigits 10 ds → digits_value 10 ds ≡ n → IsNumber n
    by [] e some d v = absurd (omega (arith, some))
    by (b ∷ bs) e some d v = let whole = digits_run (b ∷ bs) d in record { first = b; others = bs; is = e; digit = first_digit b bs whole; whole = whole; value = v }

-- a digit is no letter
digit_no_letter : (b : ℕ) → is_ascii_digit b ≡ true → is_letter b ≡ false
digit_no_letter b e = grind (arith, nat_tests)

-- a digit begins a token
pub digit_begins : (b : ℕ) → is_ascii_digit b ≡ true → Begins b
digit_begins b e = record { plain = grind (arith, nat_tests); dark = grind (arith, nat_tests) }

-- a run of digits is one token
pub number_scanned : (b : ℕ) (bs rest : List ℕ) → is_ascii_digit b ≡ true → run is_ascii_digit (b ∷ bs) ≡ b ∷ bs → Stops is_ascii_digit rest → scan (b ∷ (bs ++ rest)) ≡ took (number_token (digits_value 10 (b ∷ bs))) (b ∷ bs) rest
unfolding scan_in
number_scanned b bs rest e whole s =
    let k = run_over is_ascii_digit (b ∷ bs) rest whole s in
    let here : scan (b ∷ (bs ++ rest)) ≡ took (number_token (digits_value 10 (run is_ascii_digit (b ∷ (bs ++ rest))))) (run is_ascii_digit (b ∷ (bs ++ rest))) (after_run is_ascii_digit (b ∷ (bs ++ rest))) = rw (digit_no_letter b e, e) refl in
    here ∙ ap (λ r. took (number_token (digits_value 10 r)) r (after_run is_ascii_digit (b ∷ (bs ++ rest)))) k.0 ∙ ap (took (number_token (digits_value 10 (b ∷ bs))) (b ∷ bs)) k.1

-- ---- data texts

-- a byte that may stand in a text
abbrev pub IsPlain : ℕ → Type 0
IsPlain b = is_forbidden b ≡ false

-- a text that is read
abbrev read_text : List ℕ → List ℕ → List ℕ → Result TextRead Scanned
read_text meant taken left = Ok (record { meant = meant; taken = taken; left = left })

-- one escaped byte
byte_read : (b : ℕ) (c : Bool) (t more rest : List ℕ) → ((b == 34) || (b == 92)) ≡ c → IsPlain b → text_from false more ≡ read_text t (flat_map escaped t ++ 34 ∷ []) rest
    → text_from false ((if c then 92 ∷ b ∷ [] else b ∷ []) ++ more) ≡ read_text (b ∷ t) ((if c then 92 ∷ b ∷ [] else b ∷ []) ++ (flat_map escaped t ++ 34 ∷ [])) rest
unfolding text_from
byte_read b true t more rest e plain h = rw (e, h) refl
byte_read b false t more rest e plain h =
    let quote : (b == 34) ≡ false = left (b == 34) (b == 92) e in
    let slash : (b == 92) ≡ false = right (b == 34) (b == 92) e in
    rw (quote, slash, plain, h) refl
  where
    left : (x y : Bool) → (x || y) ≡ false → x ≡ false
    left true y d = absurd cc
    left false y d = refl

    right : (x y : Bool) → (x || y) ≡ false → y ≡ false
    right true y d = absurd cc
    right false y d = d

-- the escaped bytes of a text up to the closing quote mean the text
text_read : (t rest : List ℕ) → AllByRecursion IsPlain t → text_from false (flat_map escaped t ++ 34 ∷ rest) ≡ read_text t (flat_map escaped t ++ 34 ∷ []) rest
unfolding text_from
text_read [] rest h = refl
text_read (b ∷ t) rest h =
    let c = (b == 34) || (b == 92) in
    let again = text_read t rest h.1 in
    ap (text_from false) (append_assoc (escaped b) (flat_map escaped t) (34 ∷ rest)) ∙ byte_read b c t (flat_map escaped t ++ 34 ∷ rest) rest refl h.0 again
    ∙ ap (λ x. read_text (b ∷ t) x rest) (sym (append_assoc (escaped b) (flat_map escaped t) (34 ∷ [])))

-- a text between quotes is one token
pub text_scanned_so : (t rest : List ℕ) → AllByRecursion IsPlain t → scan (34 ∷ ((flat_map escaped t ++ 34 ∷ []) ++ rest)) ≡ took (text_token t) (quoted t) rest
unfolding scan_in
text_scanned_so t rest h =
    ap (λ x. text_scanned (text_from false x)) (append_assoc (flat_map escaped t) (34 ∷ []) rest) ∙ ap text_scanned (text_read t rest h)
