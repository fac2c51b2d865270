-- Where a text is refused, apart from any parser.
use Rattle.std.specs.Prelude.{◌≡◌, ◌≢◌, ◌<◌, ℕ, length, Bool, true, false, List, ◌∷◌, ◌++◌}
use Rattle.std.specs.Str.{IsUtf8}
use Rattle.lrp_model.specs.declared.tokens.Fault.{Fault}
use Rattle.lrp_model.specs.declared.tokens.Fault.TheVariants.{Syntax, Number, TextTooLong, Period, Deep, Memory}
use Rattle.lrp_model.specs.declared.tokens.Place.{Place}
use Rattle.lrp_model.specs.Tokens.{Token, Placed, Tokens, Part, Spells}
use Rattle.lrp_model.specs.Tokens.Token.{number_token, text_token}
use Rattle.lrp_model.specs.Lexing.{tokens_in}
use Rattle.lrp_model.specs.Limits.{greatest_number}

-- what a token shows of a fault that is no syntax fault
abbrev pub IsCause : Fault → Token → Type 0
IsCause Number (number_token n) = greatest_number < n
IsCause TextTooLong (text_token t) = 255 < length t
IsCause Period (number_token n) = n ≡ 0
IsCause Syntax t = Unit {0}
IsCause Deep t = Unit {0}
IsCause _ _ = ⊥

-- a text of T begins with the front and the token at the fault
pub record GoesThrough (T : Tokens → Type 0) (k : Fault) (front bad : Tokens) : Type 0 where
  pub token : Placed
  pub cause : IsCause k token.token
  pub tail : Tokens
  pub at : bad ≡ token ∷ tail
  pub more : Tokens
  pub begins : T (front ++ token ∷ more)

-- at a fault that is no syntax fault, a text goes through
abbrev pub Through : (Tokens → Type 0) → Tokens → Fault → Tokens → Type 0
Through T front Syntax bad = Unit {0}
Through T front Number bad = GoesThrough T Number front bad
Through T front TextTooLong bad = GoesThrough T TextTooLong front bad
Through T front Period bad = GoesThrough T Period front bad
Through T front Deep bad = GoesThrough T Deep front bad
Through T front Memory bad = GoesThrough T Memory front bad

-- the tokens before the fault begin a lawful text, and with the token at a fault that is no syntax fault a text
pub record Stops (T : Bool → Tokens → Type 0) (ts : Tokens) (e : Fault × Tokens) : Type 0 where
  pub front : Tokens
  pub whole : ts ≡ front ++ e.1
  pub more : Tokens
  pub begins : T true (front ++ more)
  pub through : Through (T false) front e.0 e.1

-- P where the flag is set
abbrev pub Fitting : Bool → Type 0 → Type 0
Fitting true P = P
Fitting false P = Unit {0}

-- the tokens spell a tree, and with the flag a lawful one
abbrev pub TextOf : {A : Type 0} → (A → List Part) → (A → Type 0) → Bool → Tokens → Type 0
TextOf {A} spell Fits lawful ts = (a : A) × Fitting lawful (Fits a) × Spells (spell a) ts

-- where a text that is no lawful text of the grammar is refused, and whether for its syntax
pub record IsRefusedAt (Text : Bool → Tokens → Type 0) (ts : Tokens) (k : Fault) (bad : Placed) (tail : Tokens) : Type 0 where
  pub front : Tokens
  pub whole : ts ≡ front ++ bad ∷ tail
  pub cause : IsCause k bad.token
  -- a lawful text begins with the tokens before it
  pub more : Tokens
  pub begins : Text true (front ++ more)
  -- none begins with these and with this token
  pub first : (other : Tokens) → Text true (front ++ bad ∷ other) → ⊥
  -- for its syntax: no text at all does; else some text does
  pub syntax : k ≡ Syntax → (other : Tokens) → Text false (front ++ bad ∷ other) → ⊥
  pub others : k ≢ Syntax → (other : Tokens) × Text false (front ++ bad ∷ other)

-- the bytes are a lawful text of a grammar, of this tree; the flag says that its symbols are those of the wide language
pub record IsLawfulTextIn {A : Type 0} (wide : Bool) (spell : A → List Part) (Fits : A → Type 0) (bytes : List ℕ) (tree : A) : Type 0 where
  pub utf8 : IsUtf8 bytes
  pub spelled : Spells (spell tree) (tokens_in wide bytes)
  pub lawful : Fits tree

-- the bytes are a lawful text of a grammar, and this is what its tree says
pub record IsTextSayingIn {A R : Type 0} (wide : Bool) (spell : A → List Part) (Fits : A → Type 0) (says : A → R) (bytes : List ℕ) (said : R) : Type 0 where
  pub tree : A
  pub text : IsLawfulTextIn wide spell Fits bytes tree
  pub meant : said ≡ says tree

-- UTF-8, and refused by the grammar at this place
pub record IsRefusedTextIn (wide : Bool) (Text : Bool → Tokens → Type 0) (bytes : List ℕ) (k : Fault) (place : Place) : Type 0 where
  pub utf8 : IsUtf8 bytes
  pub bad : Placed
  pub tail : Tokens
  pub refused : IsRefusedAt Text (tokens_in wide bytes) k bad tail
  pub place_is : place ≡ bad.place

-- ---- with the symbols of the other languages

abbrev pub IsLawfulText : {A : Type 0} → (A → List Part) → (A → Type 0) → List ℕ → A → Type 0
IsLawfulText = IsLawfulTextIn false

abbrev pub IsTextSaying : {A R : Type 0} → (A → List Part) → (A → Type 0) → (A → R) → List ℕ → R → Type 0
IsTextSaying = IsTextSayingIn false

abbrev pub IsRefusedText : (Bool → Tokens → Type 0) → List ℕ → Fault → Place → Type 0
IsRefusedText = IsRefusedTextIn false
