-- The rule for offsets: complete, sound, viable and local.
use Rattle.std.proofs.Common.{◌≡◌, ◌≤◌, Bool, true, false, List, [], ◌∷◌, refl, sym, subst, Ok, Err, if◌then◌else◌}
use Rattle.lrp_model.specs.declared.tokens.Symbol.TheVariants.{Plus, Minus}
use Rattle.lrp_model.specs.declared.tokens.Fault.{Fault}
use Rattle.lrp_model.specs.Tokens.{Placed, Tokens, Part, IsPart, Takes}
use Rattle.lrp_model.specs.Tokens.Token.{number_token, symbol_token}
use Rattle.lrp_model.specs.Tokens.Part.{any}
use Rattle.lrp_model.specs.Limits.{greatest_number}
use Rattle.lrp_model.specs.Refused.{Stops, TextOf}
use Rattle.lrp_model.specs.Databases.{shift}
use Rattle.lrp_text.specs.Parsers.{◌>>=◌, pure, eat}
use Rattle.lrp_text.specs.Taking.{is_symbol, is_symbol_token, number}
use Rattle.lrp_text.specs.OffsetRule.{Offset, unmoved, moved_by, offset}
use Rattle.lrp_text.proofs.Complete.{ReadsBack, IsNot, bind_back, then_back, pure_back, eat_back, eat_none, first_is_not, same_next}
use Rattle.lrp_text.proofs.Sound.{Sound, bind_ok, eat_sound, eaten_parts, takes_join}
use Rattle.lrp_text.proofs.Viable.{Viable, One, sub_step, eat_step, spells_join}
use Rattle.lrp_text.proofs.Local.{Local, bind_local, accept_local, pure_local, eat_local, if_local}
use Rattle.lrp_text.proofs.TokenTests.{symbol_told, symbol_seen, number_part}
use Rattle.lrp_text.proofs.IntegerRule.{number_back, number_sound, number_viable}

-- neither a plus nor a minus comes next
abbrev pub NoShift : Tokens → Type 0
NoShift ts = IsNot (is_symbol Plus) ts × IsNot (is_symbol Minus) ts

-- what spells an offset
abbrev pub offset_text : Offset → List Part
offset_text unmoved = []
offset_text (moved_by down k) = any (symbol_token (shift down)) ∷ any (number_token k) ∷ []

-- an offset is at most the limit
abbrev pub FitsOffset : Offset → Type 0
FitsOffset unmoved = Unit {0}
FitsOffset (moved_by down k) = k ≤ greatest_number

-- the tokens of an offset are read back
pub offset_back : (o : Offset) → ReadsBack offset (offset_text o) o (FitsOffset o) NoShift
unfolding offset
offset_back unmoved =
    bind_back _ {G = NoShift} (eat_none (is_symbol Plus) (Unit {0}))
    (bind_back _ {G = NoShift} (eat_none (is_symbol Minus) (Unit {0})) (pure_back unmoved (Unit {0}) NoShift) (λ ts left h g. (same_next NoShift ts left h g).1))
    (λ ts left h g. (same_next NoShift ts left h g).0)
offset_back (moved_by false k) =
    then_back _ (eat_back (is_symbol Plus) (any (symbol_token Plus)) (k ≤ greatest_number) (symbol_seen Plus))
    (then_back _ (number_back k (k ≤ greatest_number) (λ l. l)) (pure_back _ _ NoShift))
offset_back (moved_by true k) =
    bind_back _ (eat_none (is_symbol Plus) (k ≤ greatest_number))
    (then_back _ (eat_back (is_symbol Minus) (any (symbol_token Minus)) (k ≤ greatest_number) (symbol_seen Minus))
    (then_back _ (number_back k (k ≤ greatest_number) (λ l. l)) (pure_back _ _ NoShift)))
    (λ ts left h g. first_is_not (is_symbol_token Plus) (symbol_token Minus) (number_part k ∷ []) ts left refl h)

-- a number after a sign
shift_sound : (is_down : Bool) (us vs : Tokens) (q : Offset × Tokens) → (number >>= (λ k. pure (moved_by is_down k))) vs ≡ Ok q → Takes (any (symbol_token (shift is_down)) ∷ []) us vs → Takes (offset_text q.0) us q.1 × FitsOffset q.0
shift_sound is_down us vs q e taken =
    let k = bind_ok (number vs) _ q e in
    let h : (moved_by is_down k.0.0, k.0.1) ≡ q = cc in
    let sized = number_sound vs k.0 k.1 in
    subst (λ y. Takes (offset_text y.0) us y.1 × FitsOffset y.0) h (takes_join (any (symbol_token (shift is_down)) ∷ []) (number_part k.0.0 ∷ []) us vs k.0.1 taken sized.0, sized.1)

-- with or without a minus
minus_sound : (down : Bool) (us vs : Tokens) (q : Offset × Tokens) → (if down then (number >>= (λ k. pure (moved_by true k))) else pure unmoved) vs ≡ Ok q → Takes (eaten_parts (any (symbol_token Minus)) down) us vs → Takes (offset_text q.0) us q.1 × FitsOffset q.0
minus_sound true us vs q e eaten = shift_sound true us vs q e eaten
minus_sound false us vs q e eaten =
    let h : (unmoved, vs) ≡ q = cc in
    subst (λ y. Takes (offset_text y.0) us y.1 × FitsOffset y.0) h (eaten, tt)

-- with or without a plus
plus_sound : (up : Bool) (us vs : Tokens) (q : Offset × Tokens) → (if up then (number >>= (λ k. pure (moved_by false k))) else (eat (is_symbol Minus) >>= (λ down. if down then (number >>= (λ k. pure (moved_by true k))) else pure unmoved))) vs ≡ Ok q → Takes (eaten_parts (any (symbol_token Plus)) up) us vs → Takes (offset_text q.0) us q.1 × FitsOffset q.0
plus_sound true us vs q e eaten = shift_sound false us vs q e eaten
plus_sound false us vs q e eaten =
    let m = bind_ok (eat (is_symbol Minus) vs) _ q e in
    let read = minus_sound m.0.0 vs m.0.1 q m.2 (eat_sound (is_symbol Minus) (any (symbol_token Minus)) (symbol_told Minus) vs m.0 m.1) in
    subst (λ x. Takes (offset_text q.0) x q.1 × FitsOffset q.0) (sym eaten) read

-- an offset that is read is spelled so, and is lawful
pub offset_sound : Sound offset offset_text FitsOffset
unfolding offset
offset_sound ts q e =
    let u = bind_ok (eat (is_symbol Plus) ts) _ q e in
    plus_sound u.0.0 ts u.0.1 q u.2 (eat_sound (is_symbol Plus) (any (symbol_token Plus)) (symbol_told Plus) ts u.0 u.1)

-- after a sign stands a number
shift_viable : (is_down : Bool) (t : Placed) (vs : Tokens) (e : Fault × Tokens) → IsPart (any (symbol_token (shift is_down))) t → (number >>= (λ k. pure (moved_by is_down k))) vs ≡ Err e → Stops (λ c x. TextOf offset_text FitsOffset c (t ∷ x)) vs e
shift_viable is_down t vs e is d =
    sub_step number _ (One number_part) (λ k. k ≤ greatest_number) (λ c x. TextOf offset_text FitsOffset c (t ∷ x)) vs e number_sound number_viable d
    (λ c k x spelled fit. ([], (moved_by is_down k, fit, (is, spells_join (One number_part k) [] x [] spelled refl))))
    (λ k h3 ws s3 f3 d3. absurd cc)

-- the tokens before a fault of an offset begin one
pub offset_viable : Viable offset offset_text FitsOffset
unfolding offset
offset_viable ts e h =
    let R : Bool → Tokens → Type 0 = TextOf offset_text FitsOffset in
    eat_step (is_symbol Plus) _ R ts e h
    (λ t vs told d. shift_viable false t vs e (symbol_told Plus t told) d)
    (λ d. eat_step (is_symbol Minus) _ R ts e d
    (λ t vs told d2. shift_viable true t vs e (symbol_told Minus t told) d2)
    (λ d2. absurd cc))

-- an offset depends on its tokens and on the next one alone
pub offset_local : Local offset
unfolding offset
offset_local =
    bind_local (eat (is_symbol Plus)) _ (eat_local _) (λ up.
    if_local up _ _ (bind_local number _ (accept_local _) (λ k. pure_local _))
    (bind_local (eat (is_symbol Minus)) _ (eat_local _) (λ down.
    if_local down _ _ (bind_local number _ (accept_local _) (λ k. pure_local _)) (pure_local _))))
