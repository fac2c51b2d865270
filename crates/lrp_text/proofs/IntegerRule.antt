-- The rules for numbers and integers: local, complete, sound and viable.
use Rattle.std.proofs.Common.{◌≡◌, ◌≤◌, ℕ, Bool, true, false, List, [], ◌∷◌, ◌++◌, refl, sym, subst, Err, append-nil}
use Rattle.lrp_model.specs.declared.tokens.Symbol.TheVariants.{Minus}
use Rattle.lrp_model.specs.declared.tokens.Fault.{Fault}
use Rattle.lrp_model.specs.declared.written.Integer.{Integer}
use Rattle.lrp_model.specs.Tokens.{Tokens, Part, Takes, Spells}
use Rattle.lrp_model.specs.Tokens.Token.{number_token, symbol_token}
use Rattle.lrp_model.specs.Tokens.Part.{any}
use Rattle.lrp_model.specs.Limits.{greatest_number}
use Rattle.lrp_model.specs.Refused.{Stops, TextOf}
use Rattle.lrp_model.specs.Databases.{sign, integer_text}
use Rattle.lrp_text.specs.Parsers.{◌>>=◌, pure, eat}
use Rattle.lrp_text.specs.Taking.{is_text, is_name, is_symbol, is_symbol_token, is_text_token, is_name_token, number, number_of}
use Rattle.lrp_text.specs.IntegerRule.{integer}
use Rattle.lrp_text.proofs.Local.{Local, bind_local, accept_local, pure_local, eat_local}
use Rattle.lrp_text.proofs.Complete.{ReadsBack, Anything, Sees, bind_back, then_back, pure_back, accept_back, eat_back, eat_none, first_sees_any, first_is_not}
use Rattle.lrp_text.proofs.Sound.{Sound, bind_ok, accept_gives, eat_sound, eaten_parts, takes_join}
use Rattle.lrp_text.proofs.Viable.{Viable, One, accept_viable, sub_step, eat_step, spells_join}
use Rattle.lrp_text.proofs.TokenTests.{symbol_told, symbol_seen, number_part, number_told, number_fits, number_stops, number_tells}
use Rattle.lrp_text.proofs.LocatedRule.{Leads}

-- ---- numbers

-- the tokens of a number are read back
pub number_back : (n : ℕ) (L : Type 0) → (L → n ≤ greatest_number) → ReadsBack number (any (number_token n) ∷ []) n L Anything
number_back n L f = accept_back (λ t. number_of t.token) (any (number_token n)) n L (λ t h. number_tells t n L f h)

-- a number that is read is spelled so, and is lawful
pub number_sound : Sound number (One number_part) (λ n. n ≤ greatest_number)
number_sound = accept_gives (λ t. number_of t.token) number_part (λ n. n ≤ greatest_number) number_told number_fits

-- the tokens before a fault of a number begin one
pub number_viable : Viable number (One number_part) (λ n. n ≤ greatest_number)
number_viable = accept_viable (λ t. number_of t.token) number_part (λ n. n ≤ greatest_number) number_stops

-- ---- integers

-- an integer depends on its tokens and on the next one alone
pub integer_local : Local integer
unfolding integer
integer_local =
    bind_local (eat (is_symbol Minus)) _ (eat_local _) (λ negative.
    bind_local number _ (accept_local _) (λ n. pure_local _))

-- a number with or without a minus is read back
signed_back : (negative : Bool) (n : ℕ) → ReadsBack integer (sign negative ++ any (number_token n) ∷ []) (record { negative = negative; size = n }) (n ≤ greatest_number) Anything
unfolding integer
signed_back true n =
    then_back _ (eat_back (is_symbol Minus) (any (symbol_token Minus)) (n ≤ greatest_number) (symbol_seen Minus))
    (then_back _ (number_back n (n ≤ greatest_number) (λ l. l)) (pure_back _ _ Anything))
signed_back false n =
    bind_back _ (eat_none (is_symbol Minus) (n ≤ greatest_number))
    (then_back _ (number_back n (n ≤ greatest_number) (λ l. l)) (pure_back _ _ Anything))
    (λ ts left h g. first_is_not (is_symbol_token Minus) (number_token n) [] ts left refl h)

-- the tokens of an integer are read back
pub integer_back : (i : Integer) → ReadsBack integer (integer_text i) i (i.size ≤ greatest_number) Anything
integer_back i = signed_back i.negative i.size

-- a minus that was eaten is the sign
eaten_sign : (b : Bool) → eaten_parts (any (symbol_token Minus)) b ≡ sign b
eaten_sign true = refl
eaten_sign false = refl

-- an integer that is read is spelled so, and is lawful
pub integer_sound : Sound integer integer_text (λ i. i.size ≤ greatest_number)
unfolding integer
integer_sound ts q e =
    let a = bind_ok (eat (is_symbol Minus) ts) _ q e in
    let n = bind_ok (number a.0.1) _ q a.2 in
    let made : Integer = record { negative = a.0.0; size = n.0.0 } in
    let h : (made, n.0.1) ≡ q = cc in
    let signed : Takes (sign a.0.0) ts a.0.1 = subst (λ x. Takes x ts a.0.1) (eaten_sign a.0.0) (eat_sound (is_symbol Minus) (any (symbol_token Minus)) (symbol_told Minus) ts a.0 a.1) in
    let sized = number_sound a.0.1 n.0 n.1 in
    subst (λ y. Takes (integer_text y.0) ts y.1 × (y.0.size ≤ greatest_number)) h (takes_join (sign a.0.0) (any (number_token n.0.0) ∷ []) ts a.0.1 n.0.1 signed sized.0, sized.1)

-- after a sign stands a number
after_sign : (negative : Bool) (head vs : Tokens) (e : Fault × Tokens) → Spells (sign negative) head → (number >>= (λ n. let i : Integer = record { negative = negative; size = n } in pure i)) vs ≡ Err e → Stops (λ c x. TextOf integer_text (λ i. i.size ≤ greatest_number) c (head ++ x)) vs e
after_sign negative head vs e signed h =
    sub_step number _ (One number_part) (λ n. n ≤ greatest_number) (λ c x. TextOf integer_text (λ i. i.size ≤ greatest_number) c (head ++ x)) vs e number_sound number_viable h
    (λ c n x spelled fit. ([], (record { negative = negative; size = n }, fit, spells_join (sign negative) (One number_part n) head (x ++ []) signed (spells_join (One number_part n) [] x [] spelled refl))))
    (λ n h2 us s2 f2 d2. absurd cc)

-- the tokens before a fault of an integer begin one
pub integer_viable : Viable integer integer_text (λ i. i.size ≤ greatest_number)
unfolding integer
integer_viable ts e h =
    eat_step (is_symbol Minus) _ (TextOf integer_text (λ i. i.size ≤ greatest_number)) ts e h
    (λ t vs told d. after_sign true (t ∷ []) vs e (symbol_told Minus t told, refl) d)
    (λ d. after_sign false [] ts e refl d)

-- ---- how an integer begins

-- an integer begins with no text, whatever stands after it
pub no_quote_before : (negative : Bool) (n : ℕ) (ps : List Part) (ts left : Tokens) → Takes ((sign negative ++ any (number_token n) ∷ []) ++ ps) ts left → Sees false is_text false ts
no_quote_before true n ps ts left h = first_sees_any false is_text_token (symbol_token Minus) (any (number_token n) ∷ ps) ts left h
no_quote_before false n ps ts left h = first_sees_any false is_text_token (number_token n) ps ts left h

-- an integer alone begins with no text
pub no_quote : (i : Integer) (ts left : Tokens) → Takes (integer_text i) ts left → Sees false is_text false ts
no_quote i ts left h = no_quote_before i.negative i.size [] ts left (subst (λ x. Takes x ts left) (sym (append-nil (integer_text i))) h)

-- and with no name
pub no_name : (negative : Bool) (n : ℕ) (ts left : Tokens) → Takes (sign negative ++ any (number_token n) ∷ []) ts left → Sees false is_name false ts
no_name true n ts left h = first_sees_any false is_name_token (symbol_token Minus) (any (number_token n) ∷ []) ts left h
no_name false n ts left h = first_sees_any false is_name_token (number_token n) [] ts left h

-- an integer begins with a token at any place, whatever stands after it
pub sign_leads : (negative : Bool) (n : ℕ) (ps : List Part) → Leads ((sign negative ++ any (number_token n) ∷ []) ++ ps)
sign_leads true n ps = tt
sign_leads false n ps = tt

-- and so does an integer alone
pub integer_leads : (i : Integer) → Leads (integer_text i)
integer_leads i = subst Leads (append-nil (integer_text i)) (sign_leads i.negative i.size [])
