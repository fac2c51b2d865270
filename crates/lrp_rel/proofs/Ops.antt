-- The comparison of a bound, where each of its symbols is tried in turn.
use Rattle.std.proofs.Common.{◌≡◌, Bool, true, false, [], ◌∷◌, refl, ap, ◌∙◌, sym, subst, Ok, Err}
use Rattle.lrp_model.specs.declared.tokens.Symbol.{Symbol}
use Rattle.lrp_model.specs.declared.tokens.Symbol.TheVariants.{Le, Ge, Equals}
use Rattle.lrp_model.specs.declared.tokens.Fault.TheVariants.{Syntax}
use Rattle.lrp_model.specs.declared.written.BoundOp.{BoundOp}
use Rattle.lrp_model.specs.Tokens.{Token, Placed, Tokens}
use Rattle.lrp_model.specs.Tokens.Token.{symbol_token}
use Rattle.lrp_text.specs.Parsers.{Parser, ParseOutcome, accept, taken, eat, eaten}
use Rattle.lrp_text.specs.Taking.{is_symbol, is_symbol_token}
use Rattle.lrp_text.proofs.Sound.{eat_ok}
use Rattle.lrp_text.proofs.Complete.{IsNot}
use Rattle.lrp_text.proofs.TokenTests.{symbol_told}
use Rattle.lrp_rel.specs.Rules.{bound_op_of}

-- the rule for a comparison
abbrev op_rule : Parser BoundOp
op_rule = accept (λ t. bound_op_of t.token)

-- a symbol that was eaten is read as its comparison
pub op_read : (s : Symbol) (op : BoundOp) (ts us : Tokens) → bound_op_of (symbol_token s) ≡ Ok op → eat (is_symbol s) ts ≡ Ok (true, us) → op_rule ts ≡ Ok (op, us)
unfolding accept
op_read s op ts us is e =
    let k = eat_ok (is_symbol s) ts (true, us) e in
    ap op_rule k.1 ∙ ap (λ r. taken r k.0 us) (ap bound_op_of (symbol_told s k.0 k.2) ∙ is)

-- what was eaten and the tokens left
abbrev pair : Bool → Tokens → Bool × Tokens
pair b ts = (b, ts)

-- whether a token was eaten
abbrev was_eaten : ParseOutcome Bool → Bool
was_eaten (Ok p) = p.0
was_eaten (Err e) = false

-- one token that was not eaten
left_at : (t : Placed) (ts us : Tokens) (b : Bool) → eaten b t ts ≡ Ok (false, us) → (t ∷ ts ≡ us) × (b ≡ false)
left_at t ts us true e = let h : true ≡ false = ap was_eaten e in (cc, h)
left_at t ts us false e = let h : pair false (t ∷ ts) ≡ pair false us = cc in (ap (λ p. p.1) h, refl)

-- what was not eaten is no token of the test
left_over : (test : Placed → Bool) (ts us : Tokens) → eat test ts ≡ Ok (false, us) → (ts ≡ us) × IsNot test ts
unfolding eat
left_over test [] us e = let h : pair false [] ≡ pair false us = cc in (ap (λ p. p.1) h, tt)
left_over test (t ∷ ts) us e = left_at t ts us (test t) e

-- what is read where `<=` was tried before
pub still_ge : (ts us : Tokens) (o : ParseOutcome BoundOp) → eat (is_symbol Le) ts ≡ Ok (false, us) → op_rule us ≡ o → op_rule ts ≡ o
still_ge ts us o e d = ap op_rule (left_over (is_symbol Le) ts us e).0 ∙ d

-- what is read where `>=` was tried before
pub still_equals : (ts us : Tokens) (o : ParseOutcome BoundOp) → eat (is_symbol Ge) ts ≡ Ok (false, us) → op_rule us ≡ o → op_rule ts ≡ o
still_equals ts us o e d = ap op_rule (left_over (is_symbol Ge) ts us e).0 ∙ d

-- a token that is none of the three symbols
op_none : (k : Token) → is_symbol_token Le k ≡ false → is_symbol_token Ge k ≡ false → is_symbol_token Equals k ≡ false → bound_op_of k ≡ Err Syntax
op_none (symbol_token Le) a b c = absurd cc
op_none (symbol_token Ge) a b c = absurd cc
op_none (symbol_token Equals) a b c = absurd cc
op_none _ a b c = refl

-- where none of the three symbols stands
none_at : (ts : Tokens) → IsNot (is_symbol Le) ts → IsNot (is_symbol Ge) ts → IsNot (is_symbol Equals) ts → op_rule ts ≡ Err (Syntax, ts)
unfolding accept
none_at [] a b c = refl
none_at (t ∷ ts) a b c = ap (λ r. taken r t ts) (op_none t.token a b c)

-- none of the three symbols is refused
pub op_refused : (ts us vs ws : Tokens) → eat (is_symbol Le) ts ≡ Ok (false, us) → eat (is_symbol Ge) us ≡ Ok (false, vs) → eat (is_symbol Equals) vs ≡ Ok (false, ws) → op_rule ts ≡ Err (Syntax, ws)
op_refused ts us vs ws e f g =
    let a = left_over (is_symbol Le) ts us e in
    let b = left_over (is_symbol Ge) us vs f in
    let c = left_over (is_symbol Equals) vs ws g in
    let same : ts ≡ vs = a.0 ∙ b.0 in
    none_at ts a.1 (subst (IsNot (is_symbol Ge)) (sym a.0) b.1) (subst (IsNot (is_symbol Equals)) (sym same) c.1) ∙ ap (λ x. Err (Syntax, x)) (same ∙ c.0)
