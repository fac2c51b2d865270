-- Each name of a text begins with a letter: so it is not the name of a `*`, nor one that begins with `~`.
use Rattle.std.proofs.Common.{◌≡◌, ◌≢◌, ℕ, true, false, ◌==◌, List, [], ◌∷◌, ◌++◌, ap, subst, Ok, Err, Result}
use Rattle.lrp_model.specs.declared.tokens.Symbol.{Symbol}
use Rattle.lrp_model.specs.declared.tokens.Symbol.TheVariants.{Open, Close, OpenBrace, CloseBrace, Comma, Colon, Semicolon, Bar, Plus, Minus, Le, Ge, Lt, Gt, Equals}
use Rattle.lrp_model.specs.Texts.{Identifier}
use Rattle.lrp_model.specs.Tokens.Token.{name_token}
use Rattle.lrp_model.specs.Lexing.{Scanned, QuotedText as TextRead, is_letter, one, one_or_two, symbol_from, text_from, text_scanned, scan_in, symbol_in}
use Rattle.std.specs.Char.{is_ascii_digit}
use Rattle.lrp_model.specs.Names.{IsName}
use Rattle.lrp_model.specs.QueryMeaning.{star_name}
use Rattle.lrp_text.proofs.Scans.{chosen}

-- its first byte is a letter
abbrev pub HasLetter : Identifier → Type 0
HasLetter [] = ⊥
HasLetter (b ∷ bs) = is_letter b ≡ true

-- what is no name
text_no : (r : Result TextRead Scanned) (m : List ℕ) → (text_scanned r).token ≡ name_token m → ⊥
text_no (Ok t) m e = cc
text_no (Err s) m e = cc

two_no : (s r : Symbol) (b : ℕ) (bs m : List ℕ) → (one_or_two s r b bs).token ≡ name_token m → ⊥
two_no s r b [] m = λ e. cc
two_no s r b (c ∷ bs) m = chosen (λ x. x.token ≡ name_token m → ⊥) (c == 61) _ (one s b (c ∷ bs)) (λ e d. cc) (λ e d. cc)

symbol_no : (b : ℕ) (bs m : List ℕ) → (symbol_from b bs).token ≡ name_token m → ⊥
unfolding symbol_in
symbol_no b bs m =
    let P : Scanned → Type 0 = λ s. s.token ≡ name_token m → ⊥ in
    chosen P (b == 40) (one Open b bs) _ (λ e d. cc) (λ e. chosen P (b == 41) (one Close b bs) _ (λ e d. cc) (λ e. chosen P (b == 123) (one OpenBrace b bs) _ (λ e d. cc) (λ e.
    chosen P (b == 125) (one CloseBrace b bs) _ (λ e d. cc) (λ e. chosen P (b == 44) (one Comma b bs) _ (λ e d. cc) (λ e. chosen P (b == 58) (one Colon b bs) _ (λ e d. cc) (λ e.
    chosen P (b == 59) (one Semicolon b bs) _ (λ e d. cc) (λ e. chosen P (b == 124) (one Bar b bs) _ (λ e d. cc) (λ e. chosen P (b == 43) (one Plus b bs) _ (λ e d. cc) (λ e.
    chosen P (b == 45) (one Minus b bs) _ (λ e d. cc) (λ e. chosen P (b == 61) (one Equals b bs) _ (λ e d. cc) (λ e. chosen P (b == 60) _ _ (λ e. two_no Lt Le b bs m) (λ e.
    chosen P (b == 62) _ _ (λ e. two_no Gt Ge b bs m) (λ e d. cc)))))))))))))

-- a name has one
pub letter_name : (n : Identifier) → IsName n → HasLetter n
unfolding scan_in
letter_name [] name = let h = ap (λ s. s.token) name in cc
letter_name (b ∷ bs) name =
    let n : List ℕ = b ∷ bs in
    let P : Scanned → Type 0 = λ s. s ≡ record { token = name_token n; taken = n; left = [] } → is_letter b ≡ true in
    chosen P (is_letter b) _ _ (λ l d. l) (λ l.
    chosen P (is_ascii_digit b) _ _ (λ e d. let h = ap (λ s. s.token) d in absurd cc) (λ e.
    chosen P (b == 34) (text_scanned (text_from false bs)) (symbol_from b bs) (λ f d. absurd (text_no (text_from false bs) n (ap (λ s. s.token) d))) (λ f d. absurd (symbol_no b bs n (ap (λ s. s.token) d))))) name

-- with more bytes after it
pub letter_stays : (v bs : Identifier) → HasLetter v → HasLetter (v ++ bs)
letter_stays [] bs h = absurd h
letter_stays (b ∷ v) bs h = h

-- it is no `*`, and begins with no `~`
pub no_star : (v : Identifier) → HasLetter v → v ≢ star_name
no_star v h e = let k : HasLetter star_name = subst HasLetter e h in cc

pub no_tilde : (v bs : Identifier) → HasLetter v → v ≢ 126 ∷ bs
no_tilde v bs h e = let k : HasLetter (126 ∷ bs) = subst HasLetter e h in cc
