-- What a lexeme shows of a comparison, of the start of a formula, and of one that would be too deep.
use Rattle.std.proofs.Common.{◌≡◌, ◌<◌, ◌≤◌, ℕ, Bool, true, false, List, ◌∷◌, refl, ap, ◌∙◌, sym, subst, Ok, Err, nat_le, arith}
use Rattle.std.proofs.lemmas.Bool.{le-leb, leb-true}
use Rattle.lrp_model.specs.declared.formulas.Op.{Op}
use Rattle.lrp_model.specs.declared.tokens.Symbol.{Symbol as SymbolOf}
use Rattle.lrp_model.specs.declared.tokens.Symbol.TheVariants.{Open, Minus, Le, Ge, Lt, Gt, Equals}
use Rattle.lrp_model.specs.declared.tokens.Word.{Word as WordOf}
use Rattle.lrp_model.specs.declared.tokens.Word.TheVariants.{Exists, Forall, Not}
use Rattle.lrp_model.specs.declared.tokens.Place.{Place}
use Rattle.lrp_model.specs.declared.tokens.Fault.{Fault}
use Rattle.lrp_model.specs.declared.tokens.Fault.TheVariants.{Syntax, Number as TooLarge}
use Rattle.lrp_model.specs.Tokens.{Token, Placed, Tokens}
use Rattle.lrp_model.specs.Tokens.Token.{name_token, word_token, number_token, text_token, symbol_token, end_token, bad_token, hole_token}
use Rattle.lrp_model.specs.Limits.{greatest_number}
use Rattle.lrp_text.specs.Parsers.{accept, look, Reads}
use Rattle.lrp_text.specs.declared.lexemes.Lexeme.{Lexeme}
use Rattle.lrp_text.specs.declared.lexemes.Lexeme.TheVariants.{Name, Word, Number, LargeNumber, Text, LongText, Symbol, End, Bad}
use Rattle.lrp_text.specs.Lexemes.{IsSaid}
use Rattle.lrp_text.specs.Sources.{Stands, IsInnerToken}
use Rattle.lrp_text.proofs.Looking.{goes, goes_shown, look_shown, accepts_next, refuses_next}
use Rattle.lrp_query.specs.declared.starts.Start.TheVariants.{Term as by_term}
use Rattle.lrp_query.specs.Rules.{op_of, start_of, is_hole_token, too_deep, deep_or_number, cut_at}
use Rattle.lrp_query.specs.Reading.{symbol_op, shown_op, word_start, symbol_start, shown_start, word_too_deep, symbol_too_deep, shown_too_deep}

-- ---- comparisons

-- a symbol's comparison
op_symbol : (s : SymbolOf) → op_of (symbol_token s) ≡ symbol_op s
op_symbol Le = refl
op_symbol Lt = refl
op_symbol Ge = refl
op_symbol Gt = refl
op_symbol Equals = refl
op_symbol _ = refl

-- the comparison of a token is told by its lexeme
op_said : (l : Lexeme) (slice : List ℕ) (k : Token) → IsSaid l slice k → op_of k ≡ shown_op l
op_said Name slice k e = ap op_of e
op_said (Word w) slice k e = ap op_of e
op_said (Number n) slice k e = ap op_of e.0
op_said LargeNumber slice k e = ap op_of e.1
op_said Text slice k e = ap op_of e.1
op_said LongText slice k e = ap op_of e.1
op_said (Symbol s) slice k e = ap op_of e ∙ op_symbol s
op_said End slice k e = ap op_of e
op_said Bad slice k e = ap op_of e

-- what shows a comparison goes on
op_goes : (l : Lexeme) (op : Op) → shown_op l ≡ Ok op → goes l ≡ true
op_goes (Symbol s) op e = refl
op_goes _ op e = absurd cc

-- where a comparison stands, a cursor may advance
pub op_goes_on : (ts : Tokens) (l : Lexeme) (slice : List ℕ) (place : Place) (op : Op) → Stands ts l slice place → shown_op l ≡ Ok op → IsInnerToken ts
op_goes_on ts l slice place op st e = goes_shown ts l slice place st (op_goes l op e)

-- a comparison is taken
pub op_read : (ts us : Tokens) (l : Lexeme) (slice : List ℕ) (place : Place) (u : Placed) (op : Op) → Stands ts l slice place → shown_op l ≡ Ok op → ts ≡ u ∷ us → accept (λ t. op_of t.token) ts ≡ Ok (op, us)
op_read ts us l slice place u op st e w = accepts_next (λ t. op_of t.token) ts us (record { token = st.token; place = place }) u st.left op st.whole w (op_said l slice st.token st.said ∙ e)

-- only for its syntax a lexeme is no comparison
op_fault : (s : SymbolOf) (k : Fault) → symbol_op s ≡ Err k → k ≡ Syntax
op_fault Le k e = absurd cc
op_fault Lt k e = absurd cc
op_fault Ge k e = absurd cc
op_fault Gt k e = absurd cc
op_fault Equals k e = absurd cc
op_fault _ k e = cc

shown_fault : (l : Lexeme) (k : Fault) → shown_op l ≡ Err k → k ≡ Syntax
shown_fault (Symbol s) k e = op_fault s k e
shown_fault _ k e = cc

-- or it is refused
pub op_refused : (ts : Tokens) (l : Lexeme) (slice : List ℕ) (place : Place) (k : Fault) → Stands ts l slice place → shown_op l ≡ Err k → Reads (accept (λ t. op_of t.token) ts) (Err k) ts
op_refused ts l slice place k st e =
    let s : k ≡ Syntax = shown_fault l k e in
    let told : accept (λ t. op_of t.token) ts ≡ Err (k, ts) = refuses_next (λ t. op_of t.token) ts (record { token = st.token; place = place }) st.left k st.whole (op_said l slice st.token st.said ∙ e) in
    subst (λ j. Reads (accept (λ t. op_of t.token) ts) (Err j) ts) (sym s) (told ∙ ap (λ j. Err (j, ts)) s)

-- ---- how a formula begins

-- by a reserved word
start_word : (w : WordOf) → start_of (word_token w) ≡ word_start w
start_word Not = refl
start_word Exists = refl
start_word Forall = refl
start_word _ = refl

-- by a symbol
start_symbol : (s : SymbolOf) → start_of (symbol_token s) ≡ symbol_start s
start_symbol Open = refl
start_symbol _ = refl

-- how a formula begins is told by the lexeme
start_said : (l : Lexeme) (slice : List ℕ) (k : Token) → IsSaid l slice k → start_of k ≡ shown_start l
start_said Name slice k e = ap start_of e
start_said (Word w) slice k e = ap start_of e ∙ start_word w
start_said (Number n) slice k e = ap start_of e.0
start_said LargeNumber slice k e = ap start_of e.1
start_said Text slice k e = ap start_of e.1
start_said LongText slice k e = ap start_of e.1
start_said (Symbol s) slice k e = ap start_of e ∙ start_symbol s
start_said End slice k e = ap start_of e
start_said Bad slice k e = ap start_of e

-- no lexeme is a hole
hole_said : (l : Lexeme) (slice : List ℕ) (k : Token) → IsSaid l slice k → is_hole_token k ≡ false
hole_said Name slice k e = ap is_hole_token e
hole_said (Word w) slice k e = ap is_hole_token e
hole_said (Number n) slice k e = ap is_hole_token e.0
hole_said LargeNumber slice k e = ap is_hole_token e.1
hole_said Text slice k e = ap is_hole_token e.1
hole_said LongText slice k e = ap is_hole_token e.1
hole_said (Symbol s) slice k e = ap is_hole_token e
hole_said End slice k e = ap is_hole_token e
hole_said Bad slice k e = ap is_hole_token e

-- how the formula begins that stands next
pub look_start : (ts : Tokens) (l : Lexeme) (slice : List ℕ) (place : Place) → Stands ts l slice place → look by_term (λ t. start_of t.token) ts ≡ Ok (shown_start l, ts)
look_start ts l slice place st = look_shown by_term start_of ts l slice place st (shown_start l) (start_said l slice st.token st.said)

-- what stands next is no hole
pub look_hole : (ts : Tokens) (l : Lexeme) (slice : List ℕ) (place : Place) → Stands ts l slice place → look false (λ t. is_hole_token t.token) ts ≡ Ok (false, ts)
look_hole ts l slice place st = look_shown false is_hole_token ts l slice place st false (hole_said l slice st.token st.said)

-- the token that stands next is no hole
pub no_hole : (ts : Tokens) (l : Lexeme) (slice : List ℕ) (place : Place) (st : Stands ts l slice place) → is_hole_token st.token ≡ false
no_hole ts l slice place st = hole_said l slice st.token st.said

-- ---- where a formula would be too deep

-- a reserved word there
deep_word : (w : WordOf) → too_deep (word_token w) ≡ word_too_deep w
deep_word Not = refl
deep_word Exists = refl
deep_word Forall = refl
deep_word _ = refl

-- a symbol there
deep_symbol : (s : SymbolOf) → too_deep (symbol_token s) ≡ symbol_too_deep s
deep_symbol Open = refl
deep_symbol Minus = refl
deep_symbol _ = refl

-- a number above the limit there
pub large_at : (n : ℕ) (b : Bool) → nat_le n 4611686018427387904 ≡ b → greatest_number < n → deep_or_number b ≡ TooLarge
large_at n true e h = let k : n ≤ 4611686018427387904 = leb-true n 4611686018427387904 e in absurd (omega arith)
large_at n false e h = refl

-- the fault there is told by the lexeme
deep_said : (l : Lexeme) (slice : List ℕ) (k : Token) → IsSaid l slice k → too_deep k ≡ shown_too_deep l
deep_said Name slice k e = ap too_deep e
deep_said (Word w) slice k e = ap too_deep e ∙ deep_word w
deep_said (Number n) slice k e = ap too_deep e.0 ∙ ap deep_or_number (le-leb n 4611686018427387904 e.1)
deep_said LargeNumber slice k e = ap too_deep e.1 ∙ large_at e.0 (nat_le e.0 4611686018427387904) refl e.2
deep_said Text slice k e = ap too_deep e.1
deep_said LongText slice k e = ap too_deep e.1
deep_said (Symbol s) slice k e = ap too_deep e ∙ deep_symbol s
deep_said End slice k e = ap too_deep e
deep_said Bad slice k e = ap too_deep e

-- a token other than a hole is cut off for its fault
pub cut_told : {F : Type 0} (f : F) (k : Token) → is_hole_token k ≡ false → cut_at f k ≡ Err (too_deep k)
cut_told f hole_token e = absurd cc
cut_told f (name_token n) e = refl
cut_told f (word_token w) e = refl
cut_told f (number_token n) e = refl
cut_told f (text_token t) e = refl
cut_told f (symbol_token s) e = refl
cut_told f end_token e = refl
cut_told f bad_token e = refl

-- what is told there of what stands next
pub look_deep : (ts : Tokens) (l : Lexeme) (slice : List ℕ) (place : Place) → Stands ts l slice place → look Syntax (λ t. too_deep t.token) ts ≡ Ok (shown_too_deep l, ts)
look_deep ts l slice place st = look_shown Syntax too_deep ts l slice place st (shown_too_deep l) (deep_said l slice st.token st.said)
