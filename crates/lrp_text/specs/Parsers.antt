-- Parsers over lists of tokens. An error is its kind and the tokens from the fault on.
use Rattle.std.specs.Prelude.{◌≡◌, ℕ, zero, suc, Bool, true, false, List, [], ◌∷◌, ◌++◌, Result, Ok, Err, if◌then◌else◌}
use Rattle.lrp_model.specs.declared.tokens.Fault.{Fault}
use Rattle.lrp_model.specs.declared.tokens.Fault.TheVariants.{Syntax, Memory}
use Rattle.lrp_model.specs.Tokens.{Placed, Tokens}

-- what was read and the tokens left, or the kind of a fault and the tokens from it on
abbrev pub ParseOutcome : Type 0 → Type 0
ParseOutcome A = Result (A × Tokens) (Fault × Tokens)

-- from the tokens that are left to an outcome
abbrev pub Parser : Type 0 → Type 0
Parser A = Tokens → ParseOutcome A

-- goes on with another parser where the first one has read something
abbrev pub and_then : {A B : Type 0} → ParseOutcome A → (A → Parser B) → ParseOutcome B
and_then (Ok p) f = f p.0 p.1
and_then (Err e) f = Err e

infixl 10 ◌>>=◌
abbrev pub ◌>>=◌ : {A B : Type 0} → Parser A → (A → Parser B) → Parser B
p >>= f = λ ts. and_then (p ts) f

infixl 10 ◌>>◌
abbrev pub ◌>>◌ : {A B : Type 0} → Parser A → Parser B → Parser B
p >> q = p >>= (λ _. q)

-- reads nothing
abbrev pub pure : {A : Type 0} → A → Parser A
pure a = λ ts. Ok (a, ts)

-- a fault at the next token
abbrev pub fail : {A : Type 0} → Fault → Parser A
fail k = λ ts. Err (k, ts)

-- the next token's value is taken, or its fault stands there
abbrev pub taken : {A : Type 0} → Result A Fault → Placed → Tokens → ParseOutcome A
taken (Ok a) t ts = Ok (a, ts)
taken (Err k) t ts = Err (k, t ∷ ts)

-- takes the next token where the test gives a value
unfoldable pub accept : {A : Type 0} → (Placed → Result A Fault) → Parser A
accept test [] = Err (Syntax, [])
accept test (t ∷ ts) = taken (test t) t ts

-- looks at the next token and takes nothing
unfoldable pub look : {A : Type 0} → A → (Placed → A) → Parser A
look none test [] = Ok (none, [])
look none test (t ∷ ts) = Ok (test t, t ∷ ts)

-- takes a token where the flag says so
abbrev pub eaten : Bool → Placed → Tokens → ParseOutcome Bool
eaten true t ts = Ok (true, ts)
eaten false t ts = Ok (false, t ∷ ts)

-- takes the next token where the test is true
unfoldable pub eat : (Placed → Bool) → Parser Bool
eat test [] = Ok (false, [])
eat test (t ∷ ts) = eaten (test t) t ts

-- one or more, as long as a separator follows, after those found; the number bounds the turns
unfoldable pub separated_from : {A : Type 0} → Parser A → (Placed → Bool) → ℕ → List A → Parser (List A)
separated_from p comma zero found = fail Syntax
separated_from p comma (suc n) found = do
  a ← p
  more ← eat comma
  if more then separated_from p comma n (found ++ a ∷ []) else pure (found ++ a ∷ [])

-- any number, up to a token that ends them and is left
unfoldable pub until_from : {A : Type 0} → Parser A → (Placed → Bool) → ℕ → List A → Parser (List A)
until_from p stop zero found = fail Syntax
until_from p stop (suc n) found = do
  stops ← look false stop
  if stops then pure found else (do
    a ← p
    until_from p stop n (found ++ a ∷ []))

-- any number with separators between, up to a token that ends them and is left
unfoldable pub listed : {A : Type 0} → Parser A → (Placed → Bool) → (Placed → Bool) → ℕ → Parser (List A)
listed p comma stop n = do
  none ← look false stop
  if none then pure [] else separated_from p comma n []

-- what a function that parses ensures: the parser's outcome, unless memory ran out
abbrev pub Reads : {A : Type 0} → ParseOutcome A → Result A Fault → Tokens → Type 0
Reads outcome (Ok a) new = outcome ≡ Ok (a, new)
Reads outcome (Err Memory) new = Unit {0}
Reads outcome (Err k) new = outcome ≡ Err (k, new)

-- nothing is left after a whole text, and all from the fault on where it was refused
abbrev pub left_after : {A : Type 0} → Result A Fault → Tokens → Tokens
left_after (Ok a) ts = []
left_after (Err k) ts = ts

-- what a function that may run out of memory ensures: this result, unless memory ran out
abbrev pub IsResultOrMemory : {A : Type 0} → Result A Fault → Result A Fault → Type 0
IsResultOrMemory expected (Err Memory) = Unit {0}
IsResultOrMemory expected result = expected ≡ result
