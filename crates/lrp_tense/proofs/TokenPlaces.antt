-- The tokens of a text stand at places that rise, so that operators stand at different ones; and names have no `~`.
use Rattle.std.proofs.Common.{◌≡◌, ◌≢◌, ◌⊎◌, inl, inr, ◌+◌, ℕ, zero, suc, Bool, true, false, ◌||◌, ◌&&◌, ◌==◌, if◌then◌else◌, List, [], ◌∷◌, ◌++◌, map, length, refl, sym, ap, subst, Ok, Err, Result, arith}
use Rattle.std.specs.List.{AllByRecursion}
use Rattle.lrp_model.specs.declared.tokens.Place.{Place}
use Rattle.lrp_model.specs.declared.tokens.Symbol.{Symbol}
use Rattle.lrp_model.specs.declared.tokens.Symbol.TheVariants.{Open, Close, OpenBrace, CloseBrace, Comma, Colon, Semicolon, Bar, Plus, Minus, Le, Ge, Lt, Gt, Equals, Star}
use Rattle.lrp_model.specs.Texts.{Identifier}
use Rattle.lrp_model.specs.Tokens.{Token, Placed, Tokens}
use Rattle.lrp_model.specs.Tokens.Token.{name_token, word_token, number_token, text_token, symbol_token, end_token, bad_token, hole_token}
use Rattle.std.specs.Str.Parse.{digits_value}
use Rattle.lrp_model.specs.Lexing.{Scanned, QuotedText as TextRead, run, is_letter, is_blank, is_name_byte, word_or_name, one, one_or_two, symbol_from, text_from, text_scanned, skip, after, moved, further_symbol, headed, no_symbol, tokens, tokens_in, start, scan_in, symbol_in, tokens_in_from}
use Rattle.std.specs.Char.{is_ascii_digit}
use Rattle.lrp_model.specs.Names.{IsName}
use Rattle.lrp_text.specs.Sources.{HasTokensAfter}
use Rattle.lrp_text.proofs.Scans.{chosen}
use Rattle.lrp_tense.specs.Expanding.{IsPlain, AllDiffer}
use Rattle.lrp_tense.proofs.Numbering.{IsEarlier, through, not_itself}

-- ---- names

-- a byte that a run takes meets its test
plain_run : (bs : List ℕ) → run is_name_byte bs ≡ bs → IsPlain bs
unfolding run
plain_run [] e = tt
plain_run (b ∷ bs) e = by (is_name_byte b) refl e (plain_run bs)
  where
    by : (c : Bool) → is_name_byte b ≡ c → (if c then b ∷ run is_name_byte bs else []) ≡ b ∷ bs → (run is_name_byte bs ≡ bs → IsPlain bs) → IsPlain (b ∷ bs)
    by true t d again = let rest : run is_name_byte bs ≡ bs = cc in ((λ same. let u : is_name_byte 126 ≡ true = subst (λ x. is_name_byte x ≡ true) same t in cc), again rest)
    by false t d again = cc

-- what is no name
text_no : (r : Result TextRead Scanned) (m : List ℕ) → (text_scanned r).token ≡ name_token m → ⊥
text_no (Ok t) m e = cc
text_no (Err s) m e = cc

two_no : (s r : Symbol) (b : ℕ) (bs m : List ℕ) → (one_or_two s r b bs).token ≡ name_token m → ⊥
two_no s r b [] m = λ e. cc
two_no s r b (c ∷ bs) m = chosen (λ x. x.token ≡ name_token m → ⊥) (c == 61) _ (one s b (c ∷ bs)) (λ e d. cc) (λ e d. cc)

symbol_no : (b : ℕ) (bs m : List ℕ) → (symbol_from b bs).token ≡ name_token m → ⊥
unfolding symbol_in
symbol_no b bs m =
    let P : Scanned → Type 0 = λ s. s.token ≡ name_token m → ⊥ in
    chosen P (b == 40) (one Open b bs) _ (λ e d. cc) (λ e. chosen P (b == 41) (one Close b bs) _ (λ e d. cc) (λ e. chosen P (b == 123) (one OpenBrace b bs) _ (λ e d. cc) (λ e.
    chosen P (b == 125) (one CloseBrace b bs) _ (λ e d. cc) (λ e. chosen P (b == 44) (one Comma b bs) _ (λ e d. cc) (λ e. chosen P (b == 58) (one Colon b bs) _ (λ e d. cc) (λ e.
    chosen P (b == 59) (one Semicolon b bs) _ (λ e d. cc) (λ e. chosen P (b == 124) (one Bar b bs) _ (λ e d. cc) (λ e. chosen P (b == 43) (one Plus b bs) _ (λ e d. cc) (λ e.
    chosen P (b == 45) (one Minus b bs) _ (λ e d. cc) (λ e. chosen P (b == 61) (one Equals b bs) _ (λ e d. cc) (λ e. chosen P (b == 60) _ _ (λ e. two_no Lt Le b bs m) (λ e.
    chosen P (b == 62) _ _ (λ e. two_no Gt Ge b bs m) (λ e d. cc)))))))))))))

-- a name has no `~`
pub plain_name : (n : Identifier) → IsName n → IsPlain n
unfolding scan_in
plain_name [] e = tt
plain_name (b ∷ bs) name =
    let n : List ℕ = b ∷ bs in
    let P : Scanned → Type 0 = λ s. s ≡ record { token = name_token n; taken = n; left = [] } → IsPlain n in
    chosen P (is_letter b) _ _ (λ l d. plain_run n (ap (λ s. s.taken) d)) (λ l.
    chosen P (is_ascii_digit b) _ _ (λ e d. let h = ap (λ s. s.token) d in absurd cc) (λ e.
    chosen P (b == 34) (text_scanned (text_from false bs)) (symbol_from b bs) (λ f d. absurd (text_no (text_from false bs) n (ap (λ s. s.token) d))) (λ f d. absurd (symbol_no b bs n (ap (λ s. s.token) d))))) name

-- ---- places

-- at a place or after it
abbrev pub IsReached : Place → Place → Type 0
IsReached p q = (p ≡ q) ⊎ IsEarlier p q

reached_through : (p q r : Place) → IsReached p q → IsReached q r → IsReached p r
reached_through p q r (inl e) h = subst (λ x. IsReached x r) (sym e) h
reached_through p q r (inr a) (inl e) = inr (subst (IsEarlier p) e a)
reached_through p q r (inr a) (inr b) = inr (through p q r a b)

earlier_through : (p q r : Place) → IsEarlier p q → IsReached q r → IsEarlier p r
earlier_through p q r a (inl e) = subst (IsEarlier p) e a
earlier_through p q r a (inr b) = through p q r a b

reached_earlier : (p q r : Place) → IsReached p q → IsEarlier q r → IsEarlier p r
reached_earlier p q r (inl e) b = subst (λ x. IsEarlier x r) (sym e) b
reached_earlier p q r (inr a) b = through p q r a b

-- a byte moves a place
one_moves : (p : Place) (b : ℕ) → IsEarlier p (moved p b)
one_moves p b = by (b == 10)
  where
    by : (c : Bool) → IsEarlier p (if c then record { line = p.line + 1; column = 1 } else record { line = p.line; column = p.column + 1 })
    by true = inl (omega arith)
    by false = inr (refl, omega arith)

all_reached : (p : Place) (bs : List ℕ) → IsReached p (after p bs)
unfolding after
all_reached p [] = inl refl
all_reached p (b ∷ bs) = reached_through p (moved p b) (after (moved p b) bs) (inr (one_moves p b)) (all_reached (moved p b) bs)

skip_reached : (c : Bool) (p : Place) (bs : List ℕ) → IsReached p (skip c p bs).place
unfolding skip
skip_reached c p [] = inl refl
skip_reached true p (b ∷ bs) = by (b == 10) (skip_reached false (moved p b) bs) (skip_reached true (moved p b) bs)
  where
    by : (d : Bool) → IsReached (moved p b) (skip false (moved p b) bs).place → IsReached (moved p b) (skip true (moved p b) bs).place → IsReached p (if d then skip false (moved p b) bs else skip true (moved p b) bs).place
    by true f g = reached_through p (moved p b) (skip false (moved p b) bs).place (inr (one_moves p b)) f
    by false f g = reached_through p (moved p b) (skip true (moved p b) bs).place (inr (one_moves p b)) g
skip_reached false p (b ∷ bs) = by (b == 35) (is_blank b) (skip_reached false (moved p b) bs) (skip_reached true (moved p b) bs)
  where
    by : (d e : Bool) → IsReached (moved p b) (skip false (moved p b) bs).place → IsReached (moved p b) (skip true (moved p b) bs).place → IsReached p (if d then skip true (moved p b) bs else if e then skip false (moved p b) bs else record { place = p; bytes = b ∷ bs }).place
    by true e f g = reached_through p (moved p b) (skip true (moved p b) bs).place (inr (one_moves p b)) g
    by false true f g = reached_through p (moved p b) (skip false (moved p b) bs).place (inr (one_moves p b)) f
    by false false f g = inl refl

-- a token that others follow has bytes
abbrev HasBytes : Token → List ℕ → Type 0
HasBytes end_token bs = Unit {0}
HasBytes bad_token bs = Unit {0}
HasBytes k [] = ⊥
HasBytes k (b ∷ bs) = Unit {0}

some_bytes : (k : Token) (b : ℕ) (bs : List ℕ) → HasBytes k (b ∷ bs)
some_bytes end_token b bs = tt
some_bytes bad_token b bs = tt
some_bytes (name_token n) b bs = tt
some_bytes (word_token w) b bs = tt
some_bytes (number_token n) b bs = tt
some_bytes (text_token t) b bs = tt
some_bytes (symbol_token s) b bs = tt
some_bytes hole_token b bs = tt

run_bytes : (test : ℕ → Bool) (k : Token) (b : ℕ) (bs : List ℕ) → test b ≡ true → HasBytes k (run test (b ∷ bs))
unfolding run
run_bytes test k b bs t = subst (λ c. HasBytes k (if c then b ∷ run test bs else [])) (sym t) (some_bytes k b (run test bs))

text_bytes : (r : Result TextRead Scanned) → HasBytes (text_scanned r).token (text_scanned r).taken
text_bytes (Ok t) = tt
text_bytes (Err s) = tt

two_bytes : (s r : Symbol) (b : ℕ) (bs : List ℕ) → HasBytes (one_or_two s r b bs).token (one_or_two s r b bs).taken
two_bytes s r b [] = tt
two_bytes s r b (c ∷ bs) = chosen (λ x. HasBytes x.token x.taken) (c == 61) _ (one s b (c ∷ bs)) (λ e. tt) (λ e. tt)

further_bytes : (b : ℕ) (bs : List ℕ) → HasBytes (further_symbol b bs).token (further_symbol b bs).taken
further_bytes b [] = chosen (λ x. HasBytes x.token x.taken) (b == 42) (one Star b []) (no_symbol b []) (λ e. tt) (λ e. tt)
further_bytes b (c ∷ bs) =
    let P : Scanned → Type 0 = λ s. HasBytes s.token s.taken in
    chosen P (b == 42) (one Star b (c ∷ bs)) _ (λ e. tt) (λ e. chosen P ((b == 33) && (c == 61)) _ (no_symbol b (c ∷ bs)) (λ e. tt) (λ e. tt))

symbol_bytes : (wide : Bool) (b : ℕ) (bs : List ℕ) → HasBytes (symbol_in wide b bs).token (symbol_in wide b bs).taken
unfolding symbol_in
symbol_bytes wide b bs =
    let P : Scanned → Type 0 = λ s. HasBytes s.token s.taken in
    chosen P (b == 40) (one Open b bs) _ (λ e. tt) (λ e. chosen P (b == 41) (one Close b bs) _ (λ e. tt) (λ e. chosen P (b == 123) (one OpenBrace b bs) _ (λ e. tt) (λ e.
    chosen P (b == 125) (one CloseBrace b bs) _ (λ e. tt) (λ e. chosen P (b == 44) (one Comma b bs) _ (λ e. tt) (λ e. chosen P (b == 58) (one Colon b bs) _ (λ e. tt) (λ e.
    chosen P (b == 59) (one Semicolon b bs) _ (λ e. tt) (λ e. chosen P (b == 124) (one Bar b bs) _ (λ e. tt) (λ e. chosen P (b == 43) (one Plus b bs) _ (λ e. tt) (λ e.
    chosen P (b == 45) (one Minus b bs) _ (λ e. tt) (λ e. chosen P (b == 61) (one Equals b bs) _ (λ e. tt) (λ e. chosen P (b == 60) _ _ (λ e. two_bytes Lt Le b bs) (λ e.
    chosen P (b == 62) _ _ (λ e. two_bytes Gt Ge b bs) (λ e. chosen P wide (further_symbol b bs) (no_symbol b bs) (λ e. further_bytes b bs) (λ e. tt))))))))))))))

scan_bytes : (wide : Bool) (bs : List ℕ) → HasBytes (scan_in wide bs).token (scan_in wide bs).taken
unfolding scan_in
scan_bytes wide [] = tt
scan_bytes wide (b ∷ bs) =
    let P : Scanned → Type 0 = λ s. HasBytes s.token s.taken in
    chosen P (is_letter b) _ _ (λ e. run_bytes is_name_byte (word_or_name (run is_name_byte (b ∷ bs))) b bs (ap (λ c. c || is_ascii_digit b) e)) (λ n.
    chosen P (is_ascii_digit b) _ _ (λ e. run_bytes is_ascii_digit (number_token (digits_value 10 (run is_ascii_digit (b ∷ bs)))) b bs e) (λ m.
    chosen P (b == 34) (text_scanned (text_from false bs)) (symbol_in wide b bs) (λ e. text_bytes (text_from false bs)) (λ o. symbol_bytes wide b bs)))

-- each place stands before all that follow
abbrev pub Rises : List Place → Type 0
Rises [] = Unit {0}
Rises (p ∷ ps) = AllByRecursion (IsEarlier p) ps × Rises ps

-- the places rise, and none stands before this one
abbrev RisesFrom : Place → List Place → Type 0
RisesFrom p ps = AllByRecursion (IsReached p) ps × Rises ps

abbrev pub place_at : Placed → Place
place_at t = t.place

reached_all : (p q : Place) (ps : List Place) → IsReached p q → AllByRecursion (IsReached q) ps → AllByRecursion (IsReached p) ps
reached_all p q [] r a = tt
reached_all p q (x ∷ ps) r a = (reached_through p q x r a.0, reached_all p q ps r a.1)

earlier_all : (p q : Place) (ps : List Place) → IsEarlier p q → AllByRecursion (IsReached q) ps → AllByRecursion (IsEarlier p) ps
earlier_all p q [] r a = tt
earlier_all p q (x ∷ ps) r a = (earlier_through p q x r a.0, earlier_all p q ps r a.1)

-- whatever the token
same_bytes : (k : Token) (bs : List ℕ) → HasTokensAfter k → HasBytes k bs → HasBytes hole_token bs
same_bytes (name_token n) [] g h = h
same_bytes (word_token w) [] g h = h
same_bytes (number_token n) [] g h = h
same_bytes (text_token t) [] g h = h
same_bytes (symbol_token s) [] g h = h
same_bytes hole_token [] g h = h
same_bytes end_token [] g h = absurd g
same_bytes bad_token [] g h = absurd g
same_bytes k (b ∷ bs) g h = tt

-- a token with bytes, and those after it
follow : (p q : Place) (taken : List ℕ) (rest : List Place) → IsReached p q → HasBytes hole_token taken → RisesFrom (after q taken) rest → RisesFrom p (q ∷ rest)
unfolding after
follow p q [] rest r h a = absurd h
follow p q (b ∷ bs) rest r h a =
    let later : IsEarlier q (after (moved q b) bs) = earlier_through q (moved q b) (after (moved q b) bs) (one_moves q b) (all_reached (moved q b) bs) in
    ((r, reached_all p (after (moved q b) bs) rest (inr (reached_earlier p q (after (moved q b) bs) r later)) a.0), (earlier_all q (after (moved q b) bs) rest later a.0, a.1))

-- a token and those after it
headed_rises : (p q : Place) (s : Scanned) (k : Token) (rest : Tokens) → IsReached p q → HasBytes k s.taken → RisesFrom (after q s.taken) (map place_at rest) → RisesFrom p (map place_at (headed q s k rest))
headed_rises p q s end_token rest r h a = ((r, tt), (tt, tt))
headed_rises p q s bad_token rest r h a = ((reached_through p q (after q s.taken) r (all_reached q s.taken), tt), (tt, tt))
headed_rises p q s (name_token n) rest r h a = follow p q s.taken (map place_at rest) r (same_bytes (name_token n) s.taken tt h) a
headed_rises p q s (word_token w) rest r h a = follow p q s.taken (map place_at rest) r (same_bytes (word_token w) s.taken tt h) a
headed_rises p q s (number_token n) rest r h a = follow p q s.taken (map place_at rest) r (same_bytes (number_token n) s.taken tt h) a
headed_rises p q s (text_token t) rest r h a = follow p q s.taken (map place_at rest) r (same_bytes (text_token t) s.taken tt h) a
headed_rises p q s (symbol_token x) rest r h a = follow p q s.taken (map place_at rest) r (same_bytes (symbol_token x) s.taken tt h) a
headed_rises p q s hole_token rest r h a = follow p q s.taken (map place_at rest) r (same_bytes hole_token s.taken tt h) a

-- all tokens of bytes
from_rises : (wide : Bool) (n : ℕ) (p : Place) (bs : List ℕ) → RisesFrom p (map place_at (tokens_in_from wide n p bs))
unfolding tokens_in_from
from_rises wide zero p bs = (tt, tt)
from_rises wide (suc n) p bs =
    let a = skip false p bs in
    let s = scan_in wide a.bytes in
    headed_rises p a.place s s.token (tokens_in_from wide n (after a.place s.taken) s.left) (skip_reached false p bs) (scan_bytes wide a.bytes) (from_rises wide n (after a.place s.taken) s.left)

pub tokens_rise_in : (wide : Bool) (bytes : List ℕ) → Rises (map place_at (tokens_in wide bytes))
tokens_rise_in wide bytes = (from_rises wide (suc (length bytes)) start bytes).1

pub tokens_rise : (bytes : List ℕ) → Rises (map place_at (tokens bytes))
tokens_rise bytes = tokens_rise_in false bytes

-- ---- places in order differ

all_differ : (p : Place) (ps : List Place) → AllByRecursion (IsEarlier p) ps → AllByRecursion (λ q. p ≢ q) ps
all_differ p [] a = tt
all_differ p (q ∷ ps) a = ((λ e. not_itself p (subst (IsEarlier p) (sym e) a.0)), all_differ p ps a.1)

pub risen_differ : (ps : List Place) → Rises ps → AllDiffer ps
risen_differ [] r = tt
risen_differ (p ∷ ps) r = (all_differ p ps r.0, risen_differ ps r.1)

-- some of the places, in their order
pub data Some : List Place → List Place → Type 0 where
  none : Some [] []
  past : (y : Place) (xs ys : List Place) → Some xs ys → Some xs (y ∷ ys)
  kept : (x : Place) (xs ys : List Place) → Some xs ys → Some (x ∷ xs) (x ∷ ys)

some_all : (P : Place → Type 0) (xs ys : List Place) → Some xs ys → AllByRecursion P ys → AllByRecursion P xs
some_all P _ _ none a = a
some_all P _ _ (past y xs ys s) a = some_all P xs ys s a.1
some_all P _ _ (kept x xs ys s) a = (a.0, some_all P xs ys s a.1)

pub some_rise : (xs ys : List Place) → Some xs ys → Rises ys → Rises xs
some_rise _ _ none r = r
some_rise _ _ (past y xs ys s) r = some_rise xs ys s r.1
some_rise _ _ (kept x xs ys s) r = (some_all (IsEarlier x) xs ys s r.0, some_rise xs ys s r.1)

-- none of them
pub some_none : (ys : List Place) → Some [] ys
some_none [] = none
some_none (y ∷ ys) = past y [] ys (some_none ys)

-- of one list and of another after it
pub some_join : (xs ys us vs : List Place) → Some xs ys → Some us vs → Some (xs ++ us) (ys ++ vs)
some_join _ _ us vs none t = t
some_join _ _ us vs (past y xs ys s) t = past y (xs ++ us) (ys ++ vs) (some_join xs ys us vs s t)
some_join _ _ us vs (kept x xs ys s) t = kept x (xs ++ us) (ys ++ vs) (some_join xs ys us vs s t)
