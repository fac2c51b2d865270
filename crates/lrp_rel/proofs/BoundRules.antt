-- The rule for bounds: complete, sound and viable.
use Rattle.lrp_model.specs.declared.written.Located.{Located}
use Rattle.lrp_model.specs.declared.written.Side.{Side}
use Rattle.lrp_model.specs.declared.written.Side.TheVariants.{Alone, Column, Shifted}
use Rattle.lrp_model.specs.declared.written.RawBound.{RawBound}
use Rattle.lrp_model.specs.Texts.{Identifier}
use Rattle.lrp_model.specs.Lexing.{start}
use Rattle.lrp_model.specs.Databases.{integer_text, shift, name_part, side_text, bound_symbol, bound_text, FitsSide, FitsBound}
use Rattle.std.proofs.Common.{◌≡◌, inl, ◌≤◌, Bool, true, false, [], ◌∷◌, ◌++◌, refl, ap, ◌∙◌, sym, subst, Ok, Err, if◌then◌else◌, arith, append-nil}
use Rattle.lrp_model.specs.declared.tokens.Symbol.TheVariants.{Le, Ge, Equals}
use Rattle.lrp_model.specs.declared.tokens.Fault.{Fault}
use Rattle.lrp_model.specs.declared.tokens.Fault.TheVariants.{Syntax}
use Rattle.lrp_model.specs.Tokens.{Token, Placed, Tokens, Part, IsPart, Takes, Spells}
use Rattle.lrp_model.specs.Tokens.Token.{name_token, number_token, symbol_token}
use Rattle.lrp_model.specs.Tokens.Part.{any}
use Rattle.lrp_text.specs.Parsers.{◌>>=◌, pure, accept, look}
use Rattle.lrp_model.specs.Refused.{TextOf}
use Rattle.lrp_model.specs.Limits.{greatest_number}
use Rattle.lrp_text.specs.Taking.{is_name, is_name_token}
use Rattle.lrp_text.proofs.Complete.{ReadsBack, bind_back, then_back, accepts_back, look_back, first_sees_at, last_back}
use Rattle.lrp_text.proofs.Sound.{Sound, bind_ok, accept_sound, takes_join, look_ok}
use Rattle.lrp_text.proofs.Viable.{Viable, One, TestStops, accept_viable, sub_step, look_step, spells_join, always, fits_as}
use Rattle.lrp_text.proofs.TokenTests.{number_part}
use Rattle.lrp_model.specs.declared.written.BoundOp.{BoundOp}
use Rattle.lrp_model.specs.declared.written.BoundOp.TheVariants.{AtMost, AtLeast, Equal}
use Rattle.lrp_rel.proofs.Labels.{label_back, label_sound, label_viable}
use Rattle.lrp_text.specs.IntegerRule.{integer}
use Rattle.lrp_text.specs.OffsetRule.{Offset, unmoved, moved_by, offset}
use Rattle.lrp_text.proofs.OffsetRule.{NoShift, offset_text, FitsOffset, offset_back, offset_sound, offset_viable}
use Rattle.lrp_rel.specs.Rules.{label, side_of, named_side, side, bound_op_of, bound}
use Rattle.lrp_text.proofs.IntegerRule.{integer_back, integer_sound, integer_viable, no_name}

-- a side with an offset is spelled by its column and the offset
side_parts : (n : Located Identifier) (o : Offset) → side_text (side_of n o) ≡ name_part n ∷ offset_text o
side_parts n unmoved = refl
side_parts n (moved_by down k) = refl

-- and it is lawful where the offset is
side_fits : (n : Located Identifier) (o : Offset) → FitsOffset o → FitsSide (side_of n o)
side_fits n unmoved f = f
side_fits n (moved_by down k) f = f

-- the tokens of a column, alone or with an offset, are read back
pub column_side_back : (n : Located Identifier) (o : Offset) → ReadsBack named_side (name_part n ∷ offset_text o) (side_of n o) (FitsOffset o) NoShift
unfolding named_side
column_side_back n o = then_back _ (label_back n (FitsOffset o)) (last_back offset (side_of n) (offset_text o) o (FitsOffset o) NoShift (offset_back o))

-- the tokens of a side are read back
pub side_back : (s : Side) → ReadsBack side (side_text s) s (FitsSide s) NoShift
unfolding side
side_back (Alone i) =
    bind_back _ {G = NoShift} (look_back false is_name false (i.size ≤ greatest_number))
    (last_back integer Alone (integer_text i) i (i.size ≤ greatest_number) NoShift (record { reads = λ ts left h g. (integer_back i).reads ts left h tt }))
    (λ ts left h g. no_name i.negative i.size ts left h)
side_back (Column n) =
    bind_back _ {G = NoShift} (look_back false is_name true (Unit {0})) (column_side_back n unmoved)
    (λ ts left h g. first_sees_at false is_name_token n.place (name_token n.item) [] ts left h)
side_back (Shifted n down k) =
    bind_back _ {G = NoShift} (look_back false is_name true (k ≤ greatest_number)) (column_side_back n (moved_by down k))
    (λ ts left h g. first_sees_at false is_name_token n.place (name_token n.item) (any (symbol_token (shift down)) ∷ number_part k ∷ []) ts left h)

-- the symbols of bounds
abbrev pub op_part : BoundOp → Part
op_part op = any (symbol_token (bound_symbol op))

-- the token of a comparison that was read
op_is : (k : Token) (op : BoundOp) → bound_op_of k ≡ Ok op → k ≡ symbol_token (bound_symbol op)
op_is (symbol_token Le) op e = let h : AtMost ≡ op = cc in ap (λ x. symbol_token (bound_symbol x)) h
op_is (symbol_token Ge) op e = let h : AtLeast ≡ op = cc in ap (λ x. symbol_token (bound_symbol x)) h
op_is (symbol_token Equals) op e = let h : Equal ≡ op = cc in ap (λ x. symbol_token (bound_symbol x)) h
op_is _ op e = absurd cc

-- a comparison is read from its symbol
op_again : (op : BoundOp) → bound_op_of (symbol_token (bound_symbol op)) ≡ Ok op
op_again AtMost = refl
op_again AtLeast = refl
op_again Equal = refl

-- a token that is no comparison is a syntax fault
op_err : (t : Token) (k : Fault) → bound_op_of t ≡ Err k → k ≡ Syntax
op_err (symbol_token Le) k e = absurd cc
op_err (symbol_token Ge) k e = absurd cc
op_err (symbol_token Equals) k e = absurd cc
op_err _ k e = cc

-- the part of a comparison that was read
op_told : (t : Placed) (op : BoundOp) → bound_op_of t.token ≡ Ok op → IsPart (op_part op) t
op_told t op e = op_is t.token op e

-- the comparison of a part
op_seen : (op : BoundOp) (t : Placed) → IsPart (op_part op) t → bound_op_of t.token ≡ Ok op
op_seen op t h = ap bound_op_of h ∙ op_again op

-- a comparison stops for its syntax alone
op_stops : TestStops (λ t. bound_op_of t.token) op_part (λ op. Unit {0})
op_stops = record { token = record { token = symbol_token Le; place = start }; value = AtMost; fits = tt; is = refl; fault = λ t k e. inl (op_err t.token k e) }

-- the tokens of a bound are read back
pub bound_back : (b : RawBound) → ReadsBack bound (bound_text b) b (FitsBound b) NoShift
unfolding bound
bound_back b =
    then_back _ (label_back b.left (FitsBound b))
    (then_back _ (accepts_back (λ t. bound_op_of t.token) (op_part b.op) b.op (FitsBound b) (op_seen b.op))
    (last_back side (λ s. record { left = b.left; op = b.op; side = s }) (side_text b.side) b.side (FitsBound b) NoShift (side_back b.side)))

-- soundness

-- a side that names a column that is read is spelled so, and is lawful
pub named_side_sound : Sound named_side side_text FitsSide
unfolding named_side
named_side_sound ts q e =
    let n = bind_ok (label ts) _ q e in
    let o = bind_ok (offset n.0.1) _ q n.2 in
    let read = offset_sound n.0.1 o.0 o.1 in
    let h : (side_of n.0.0 o.0.0, o.0.1) ≡ q = cc in
    subst (λ y. Takes (side_text y.0) ts y.1 × FitsSide y.0) h (
      subst (λ ps. Takes ps ts o.0.1) (sym (side_parts n.0.0 o.0.0)) (takes_join (name_part n.0.0 ∷ []) (offset_text o.0.0) ts n.0.1 o.0.1 (label_sound ts n.0 n.1).0 read.0),
      side_fits n.0.0 o.0.0 read.1,
    )

-- a side that names a column or an integer alone
either_side_sound : (named : Bool) → Sound (if named then named_side else (integer >>= (λ i. pure (Alone i)))) side_text FitsSide
either_side_sound true = named_side_sound
either_side_sound false = λ ts q e.
    let i = bind_ok (integer ts) _ q e in
    let h : (Alone i.0.0, i.0.1) ≡ q = cc in
    subst (λ y. Takes (side_text y.0) ts y.1 × FitsSide y.0) h (integer_sound ts i.0 i.1)

-- a side that is read is spelled so, and is lawful
pub side_sound : Sound side side_text FitsSide
unfolding side
side_sound ts q e =
    let s = bind_ok (look false is_name ts) _ q e in
    subst (λ x. Takes (side_text q.0) x q.1 × FitsSide q.0) (sym (look_ok false is_name ts s.0 s.1)) (either_side_sound s.0.0 s.0.1 q s.2)

-- a bound that is read is spelled so, and is lawful
pub bound_sound : Sound bound bound_text FitsBound
unfolding bound
bound_sound ts q e =
    let n = bind_ok (label ts) _ q e in
    let o = bind_ok (accept (λ t. bound_op_of t.token) n.0.1) _ q n.2 in
    let s = bind_ok (side o.0.1) _ q o.2 in
    let made : RawBound = record { left = n.0.0; op = o.0.0; side = s.0.0 } in
    let h : (made, s.0.1) ≡ q = cc in
    let one = side_sound o.0.1 s.0 s.1 in
    subst (λ y. Takes (bound_text y.0) ts y.1 × FitsBound y.0) h (
      takes_join (name_part n.0.0 ∷ []) (op_part o.0.0 ∷ side_text s.0.0) ts n.0.1 s.0.1 (label_sound ts n.0 n.1).0
          (takes_join (op_part o.0.0 ∷ []) (side_text s.0.0) n.0.1 o.0.1 s.0.1 (accept_sound _ op_part op_told n.0.1 o.0 o.1) one.0),
      one.1,
    )

-- viability
abbrev Sides : Bool → Tokens → Type 0
Sides = TextOf side_text FitsSide

-- a side after its column
side_spelled : (n : Located Identifier) (o : Offset) (head x : Tokens) → Spells (name_part n ∷ []) head → Spells (offset_text o) x → Spells (side_text (side_of n o)) (head ++ (x ++ []))
side_spelled n o head x one two =
    subst (λ ps. Spells ps (head ++ (x ++ []))) (sym (side_parts n o)) (spells_join (name_part n ∷ []) (offset_text o) head (x ++ []) one (subst (λ y. Spells (offset_text o) y) (sym (append-nil x)) two))

-- the tokens before a fault of a side that names a column begin one
pub named_side_viable : Viable named_side side_text FitsSide
unfolding named_side
named_side_viable ts e h =
    sub_step label _ (One name_part) (λ n. Unit {0}) Sides ts e label_sound label_viable h
    (λ c n x spelled fit. ([], (Column n, always (Unit {0}) c tt, subst (λ y. Spells (name_part n ∷ []) y) (sym (append-nil x)) spelled)))
    (λ n head us one fit d. sub_step offset _ offset_text FitsOffset (λ c x. Sides c (head ++ x)) us e offset_sound offset_viable d
    (λ c o x spelled fits. ([], (side_of n o, fits_as (FitsOffset o) (FitsSide (side_of n o)) c (side_fits n o) fits, side_spelled n o head x one spelled)))
    (λ o h2 vs s2 f2 d2. absurd cc))

-- a side that names a column, or an integer alone, stops where it says
either_side_viable : (named : Bool) → Viable (if named then named_side else (integer >>= (λ i. pure (Alone i)))) side_text FitsSide
either_side_viable true = named_side_viable
either_side_viable false = λ ts e h.
    sub_step integer _ integer_text (λ i. i.size ≤ greatest_number) Sides ts e integer_sound integer_viable h
    (λ c i x spelled fit. ([], (Alone i, fit, subst (λ y. Spells (integer_text i) y) (sym (append-nil x)) spelled)))
    (λ i h2 us s2 f2 d2. absurd cc)

-- the tokens before a fault of a side begin one
pub side_viable : Viable side side_text FitsSide
unfolding side
side_viable ts e h = look_step false is_name _ Sides ts e h (λ named seen d. either_side_viable named ts e d)

-- a side for what is not written yet
abbrev zero_side : Side
zero_side = Alone (record { negative = false; size = 0 })

-- the tokens of that side
abbrev zero_tokens : Tokens
zero_tokens = record { token = number_token 0; place = start } ∷ []

-- a comparison and that side
abbrev least_tokens : Tokens
least_tokens = record { token = symbol_token Le; place = start } ∷ zero_tokens

-- the tokens before a fault of a bound begin one
pub bound_viable : Viable bound bound_text FitsBound
unfolding bound
bound_viable ts e h =
    let R : Bool → Tokens → Type 0 = TextOf bound_text FitsBound in
    sub_step label _ (One name_part) (λ n. Unit {0}) R ts e label_sound label_viable h
    (λ c n x spelled fit. (least_tokens, (record { left = n; op = AtMost; side = zero_side }, always (0 ≤ greatest_number) c (omega arith), spells_join (One name_part n) (op_part AtMost ∷ side_text zero_side) x least_tokens spelled (refl, (refl, refl)))))
    (λ n h1 us s1 f1 d1. sub_step (accept (λ t. bound_op_of t.token)) _ (One op_part) (λ op. Unit {0}) (λ c x. R c (h1 ++ x)) us e (λ vs q r. (accept_sound _ op_part op_told vs q r, tt)) (accept_viable _ op_part (λ op. Unit {0}) op_stops) d1
    (λ c op x spelled fit. (zero_tokens, (record { left = n; op = op; side = zero_side }, always (0 ≤ greatest_number) c (omega arith), spells_join (One name_part n) (op_part op ∷ side_text zero_side) h1 (x ++ zero_tokens) s1 (spells_join (One op_part op) (side_text zero_side) x zero_tokens spelled (refl, refl)))))
    (λ op h2 vs s2 f2 d2. sub_step side _ side_text FitsSide (λ c x. R c (h1 ++ (h2 ++ x))) vs e side_sound side_viable d2
    (λ c s x spelled fit. ([], (record { left = n; op = op; side = s }, fit, spells_join (One name_part n) (op_part op ∷ side_text s) h1 (h2 ++ (x ++ [])) s1 (spells_join (One op_part op) (side_text s) h2 (x ++ []) s2 (subst (λ y. Spells (side_text s) y) (sym (append-nil x)) spelled)))))
    (λ s h3 ws s3 f3 d3. absurd cc)))
