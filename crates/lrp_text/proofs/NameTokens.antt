-- The names among the tokens of bytes are names, and so are those of the columns that tokens spell.
use Rattle.std.proofs.Common.{◌≡◌, ℕ, zero, suc, Bool, true, false, ◌||◌, ◌&&◌, ◌==◌, if◌then◌else◌, List, [], ◌∷◌, ◌++◌, map, length, refl, sym, ap, subst, ◌∙◌, codes, Result, Ok, Err}
use Rattle.std.specs.List.{AllByRecursion}
use Rattle.std.specs.Str.{bytes_eq}
use Rattle.lrp_model.specs.declared.tokens.Place.{Place}
use Rattle.lrp_model.specs.declared.tokens.Symbol.{Symbol}
use Rattle.lrp_model.specs.declared.tokens.Symbol.TheVariants.{Open, Close, OpenBrace, CloseBrace, Comma, Colon, Semicolon, Bar, Plus, Minus, Le, Ge, Lt, Gt, Equals, Star}
use Rattle.lrp_model.specs.declared.relations.Sort.{Sort}
use Rattle.lrp_model.specs.declared.relations.Sort.TheVariants.{Time, Data, Named}
use Rattle.lrp_model.specs.declared.raw.RawColumn.{RawColumn}
use Rattle.lrp_model.specs.Tokens.{Token, Tokens, Part, Takes, Spells, separated}
use Rattle.lrp_model.specs.Tokens.Token.{name_token, word_token, number_token, text_token, symbol_token, end_token, bad_token, hole_token}
use Rattle.lrp_model.specs.Tokens.Part.{at, any}
use Rattle.std.specs.Str.Parse.{digits_value}
use Rattle.lrp_model.specs.Lexing.{Scanned, QuotedText as TextRead, scan, run, after_run, is_letter, is_name_byte, word_or_name, one, one_or_two, symbol_from, text_from, text_scanned, skip, after, headed, tokens, start, scan_in, symbol_in, further_symbol, no_symbol, tokens_in_from, tokens_in}
use Rattle.std.specs.Char.{is_ascii_digit}
use Rattle.lrp_model.specs.Columns.{column_text, sort_token}
use Rattle.lrp_model.specs.Databases.{comma}
use Rattle.lrp_model.specs.DatabaseMeaning.{column_of}
use Rattle.lrp_model.specs.Names.{IsName, IsNamedSort, AreNamed}
use Rattle.lrp_text.proofs.Scans.{chosen}

-- a run of a run is the run, and nothing is after it
run_again : (test : ℕ → Bool) (bs : List ℕ) → (run test (run test bs) ≡ run test bs) × (after_run test (run test bs) ≡ [])
unfolding run after_run
run_again test [] = (refl, refl)
run_again test (b ∷ bs) = by (test b) refl (run_again test bs)
  where
    by : (c : Bool) → test b ≡ c → (run test (run test bs) ≡ run test bs) × (after_run test (run test bs) ≡ [])
        → (run test (if c then b ∷ run test bs else []) ≡ (if c then b ∷ run test bs else [])) × (after_run test (if c then b ∷ run test bs else []) ≡ [])
    by true e h = (ap (λ c. if c then b ∷ run test (run test bs) else []) e ∙ ap (λ l. b ∷ l) h.0, ap (λ c. if c then after_run test (run test bs) else b ∷ run test bs) e ∙ h.1)
    by false e h = (refl, refl)

-- the bytes that a scan of a name takes
abbrev word_scanned : List ℕ → Scanned
word_scanned r = record { token = word_or_name r; taken = r; left = [] }

-- a run of a name's bytes that begins with a letter is taken whole
scan_word : (b : ℕ) (r : List ℕ) → is_letter b ≡ true → run is_name_byte r ≡ r → after_run is_name_byte r ≡ [] → scan (b ∷ r) ≡ word_scanned (b ∷ r)
unfolding scan_in run after_run
scan_word b r e whole none =
    let letter : is_name_byte b ≡ true = ap (λ c. c || is_ascii_digit b) e in
    let one_run : (if is_name_byte b then b ∷ run is_name_byte r else []) ≡ b ∷ r = ap (λ c. if c then b ∷ run is_name_byte r else []) letter ∙ ap (λ l. b ∷ l) whole in
    let left : (if is_name_byte b then after_run is_name_byte r else b ∷ r) ≡ [] = ap (λ c. if c then after_run is_name_byte r else b ∷ r) letter ∙ none in
    ap (λ c. if c then scanned_word (if is_name_byte b then b ∷ run is_name_byte r else []) (if is_name_byte b then after_run is_name_byte r else b ∷ r) else
    (if is_ascii_digit b then record { token = number_token (digits_value 10 (run is_ascii_digit (b ∷ r))); taken = run is_ascii_digit (b ∷ r); left = after_run is_ascii_digit (b ∷ r) } else
    (if b == 34 then text_scanned (text_from false r) else symbol_from b r))) e
    ∙ ap (λ l. scanned_word l (if is_name_byte b then after_run is_name_byte r else b ∷ r)) one_run ∙ ap (scanned_word (b ∷ r)) left
  where
    scanned_word : List ℕ → List ℕ → Scanned
    scanned_word w l = record { token = word_or_name w; taken = w; left = l }

-- a word that is a name is itself that name
word_is : (r n : List ℕ) → word_or_name r ≡ name_token n → r ≡ n
unfolding word_or_name
word_is r n =
    let P : Token → Type 0 = λ w. w ≡ name_token n → r ≡ n in
    chosen P (bytes_eq r (codes "relation")) _ _ (λ e d. absurd cc) (λ e. chosen P (bytes_eq r (codes "where")) _ _ (λ e d. absurd cc) (λ e. chosen P (bytes_eq r (codes "time")) _ _ (λ e d. absurd cc) (λ e.
    chosen P (bytes_eq r (codes "data")) _ _ (λ e d. absurd cc) (λ e. chosen P (bytes_eq r (codes "n")) _ _ (λ e d. absurd cc) (λ e. chosen P (bytes_eq r (codes "exists")) _ _ (λ e d. absurd cc) (λ e.
    chosen P (bytes_eq r (codes "forall")) _ _ (λ e d. absurd cc) (λ e. chosen P (bytes_eq r (codes "not")) _ _ (λ e d. absurd cc) (λ e. chosen P (bytes_eq r (codes "and")) _ _ (λ e d. absurd cc) (λ e.
    chosen P (bytes_eq r (codes "or")) _ _ (λ e d. absurd cc) (λ e. chosen P (bytes_eq r (codes "implies")) _ _ (λ e d. absurd cc) (λ e. chosen P (bytes_eq r (codes "in")) _ _ (λ e d. absurd cc) (λ e d. ap name_in d))))))))))))
  where
    name_in : Token → List ℕ
    name_in (name_token m) = m
    name_in _ = []

-- a token of a name has a name
abbrev pub NamedToken : Token → Type 0
NamedToken (name_token n) = IsName n
NamedToken _ = Unit {0}

-- a word or a name, scanned alone
word_named : (r : List ℕ) (w : Token) → scan r ≡ word_scanned r → word_or_name r ≡ w → NamedToken w
word_named r (name_token n) e d =
    let same : r ≡ n = word_is r n d in
    let P : List ℕ → Type 0 = λ x. scan x ≡ record { token = name_token n; taken = x; left = [] } in
    subst P same (e ∙ ap (λ k. record { token = k; taken = r; left = [] }) d)
word_named r (word_token w) e d = tt
word_named r (number_token n) e d = tt
word_named r (text_token t) e d = tt
word_named r (symbol_token s) e d = tt
word_named r end_token e d = tt
word_named r bad_token e d = tt
word_named r hole_token e d = tt

-- the first bytes of a name, where a letter stands first
first_word : (b : ℕ) (bs : List ℕ) → is_letter b ≡ true → NamedToken (word_or_name (run is_name_byte (b ∷ bs)))
unfolding run
first_word b bs e =
    let letter : is_name_byte b ≡ true = ap (λ c. c || is_ascii_digit b) e in
    let begins : (if is_name_byte b then b ∷ run is_name_byte bs else []) ≡ b ∷ run is_name_byte bs = ap (λ c. if c then b ∷ run is_name_byte bs else []) letter in
    let again = run_again is_name_byte bs in
    let P : List ℕ → Type 0 = λ r. NamedToken (word_or_name r) in
    subst P (sym begins) (word_named (b ∷ run is_name_byte bs) (word_or_name (b ∷ run is_name_byte bs)) (scan_word b (run is_name_byte bs) e again.0 again.1) refl)

-- a symbol has no name
two_named : (s r : Symbol) (b : ℕ) (bs : List ℕ) → NamedToken (one_or_two s r b bs).token
two_named s r b [] = tt
two_named s r b (c ∷ bs) = chosen (λ x. NamedToken x.token) (c == 61) _ (one s b (c ∷ bs)) (λ e. tt) (λ e. tt)

further_named : (b : ℕ) (bs : List ℕ) → NamedToken (further_symbol b bs).token
further_named b [] = chosen (λ x. NamedToken x.token) (b == 42) (one Star b []) (no_symbol b []) (λ e. tt) (λ e. tt)
further_named b (c ∷ bs) = chosen (λ x. NamedToken x.token) (b == 42) (one Star b (c ∷ bs)) _ (λ e. tt) (λ e. chosen (λ x. NamedToken x.token) ((b == 33) && (c == 61)) _ (no_symbol b (c ∷ bs)) (λ d. tt) (λ d. tt))

symbol_named : (wide : Bool) (b : ℕ) (bs : List ℕ) → NamedToken (symbol_in wide b bs).token
unfolding symbol_in
symbol_named wide b bs =
    let P : Scanned → Type 0 = λ s. NamedToken s.token in
    chosen P (b == 40) (one Open b bs) _ (λ e. tt) (λ e. chosen P (b == 41) (one Close b bs) _ (λ e. tt) (λ e. chosen P (b == 123) (one OpenBrace b bs) _ (λ e. tt) (λ e.
    chosen P (b == 125) (one CloseBrace b bs) _ (λ e. tt) (λ e. chosen P (b == 44) (one Comma b bs) _ (λ e. tt) (λ e. chosen P (b == 58) (one Colon b bs) _ (λ e. tt) (λ e.
    chosen P (b == 59) (one Semicolon b bs) _ (λ e. tt) (λ e. chosen P (b == 124) (one Bar b bs) _ (λ e. tt) (λ e. chosen P (b == 43) (one Plus b bs) _ (λ e. tt) (λ e.
    chosen P (b == 45) (one Minus b bs) _ (λ e. tt) (λ e. chosen P (b == 61) (one Equals b bs) _ (λ e. tt) (λ e. chosen P (b == 60) _ _ (λ e. two_named Lt Le b bs) (λ e.
    chosen P (b == 62) _ _ (λ e. two_named Gt Ge b bs) (λ e. chosen P wide _ _ (λ w. further_named b bs) (λ w. tt))))))))))))))

-- a text has no name
text_named : (r : Result TextRead Scanned) → NamedToken (text_scanned r).token
text_named (Ok t) = tt
text_named (Err s) = tt

-- the first token of bytes has a name, if it is one
scan_named : (wide : Bool) (bs : List ℕ) → NamedToken (scan_in wide bs).token
unfolding scan_in
scan_named wide [] = tt
scan_named wide (b ∷ bs) =
    let P : Scanned → Type 0 = λ s. NamedToken s.token in
    chosen P (is_letter b) _ _ (λ e. first_word b bs e) (λ n. chosen P (is_ascii_digit b) _ _ (λ e. tt) (λ m. chosen P (b == 34) (text_scanned (text_from false bs)) (symbol_in wide b bs) (λ e. text_named (text_from false bs)) (λ o. symbol_named wide b bs)))

-- a token with those after it
headed_named : (p : Place) (s : Scanned) (k : Token) (rest : Tokens) → NamedToken k → AllByRecursion (λ t. NamedToken t.token) rest → AllByRecursion (λ t. NamedToken t.token) (headed p s k rest)
headed_named p s (name_token n) rest h r = (h, r)
headed_named p s (word_token w) rest h r = (tt, r)
headed_named p s (number_token n) rest h r = (tt, r)
headed_named p s (text_token t) rest h r = (tt, r)
headed_named p s (symbol_token x) rest h r = (tt, r)
headed_named p s end_token rest h r = (tt, tt)
headed_named p s bad_token rest h r = (tt, tt)
headed_named p s hole_token rest h r = (tt, r)

-- all tokens of bytes
pub tokens_named : (wide : Bool) (n : ℕ) (p : Place) (bs : List ℕ) → AllByRecursion (λ t. NamedToken t.token) (tokens_in_from wide n p bs)
unfolding tokens_in_from
tokens_named wide zero p bs = tt
tokens_named wide (suc n) p bs =
    let a = skip false p bs in
    let s = scan_in wide a.bytes in
    headed_named a.place s s.token (tokens_in_from wide n (after a.place s.taken) s.left) (scan_named wide a.bytes) (tokens_named wide n (after a.place s.taken) s.left)

-- a part of a tree's text has a name, if it is one
abbrev pub NamedPart : Part → Type 0
NamedPart (at p k) = NamedToken k
NamedPart (any k) = NamedToken k

-- parts that are spelled by such tokens
pub takes_named : (ps : List Part) (ts left : Tokens) → Takes ps ts left → AllByRecursion (λ t. NamedToken t.token) ts → AllByRecursion NamedPart ps
takes_named [] ts left h named = tt
takes_named (p ∷ ps) [] left h named = absurd h
takes_named (at p k ∷ ps) (t ∷ ts) left h named = (subst NamedToken h.0.0 named.0, takes_named ps ts left h.1 named.1)
takes_named (any k ∷ ps) (t ∷ ts) left h named = (subst NamedToken h.0 named.0, takes_named ps ts left h.1 named.1)

-- what holds of both of two lists' elements
pub all_front : {A : Type 0} (P : A → Type 0) (xs ys : List A) → AllByRecursion P (xs ++ ys) → AllByRecursion P xs
all_front P [] ys h = tt
all_front P (x ∷ xs) ys h = (h.0, all_front P xs ys h.1)

pub all_after : {A : Type 0} (P : A → Type 0) (xs ys : List A) → AllByRecursion P (xs ++ ys) → AllByRecursion P ys
all_after P [] ys h = h
all_after P (x ∷ xs) ys h = all_after P xs ys h.1

pub all_tail : {A : Type 0} (P : A → Type 0) (x : A) (xs : List A) → AllByRecursion P (x ∷ xs) → AllByRecursion P xs
all_tail P x xs h = h.1

pub all_head : {A : Type 0} (P : A → Type 0) (x : A) (xs : List A) → AllByRecursion P (x ∷ xs) → P x
all_head P x xs h = h.0

-- a sort that a text names has a name
sort_named : (s : Sort) → NamedToken (sort_token s) → IsNamedSort s
sort_named Time h = tt
sort_named Data h = tt
sort_named (Named n) h = h

-- the names of a column are names
column_named : (c : RawColumn) → AllByRecursion NamedPart (column_text c) → IsName c.name × IsNamedSort c.sort
column_named c h =
    let who = at c.place (name_token c.name) in
    let colon = any (symbol_token Colon) in
    let what = at c.sort_place (sort_token c.sort) in
    (all_head NamedPart who (colon ∷ what ∷ []) h, sort_named c.sort (all_head NamedPart what [] (all_tail NamedPart colon (what ∷ []) (all_tail NamedPart who (colon ∷ what ∷ []) h))))

pub columns_named : (cs : List RawColumn) → AllByRecursion NamedPart (separated comma column_text cs) → AreNamed (map column_of cs)
columns_named [] h = tt
columns_named (c ∷ []) h = (column_named c h, tt)
columns_named (c ∷ d ∷ cs) h =
    (column_named c (all_front NamedPart (column_text c) (comma ∷ separated comma column_text (d ∷ cs)) h), columns_named (d ∷ cs) (all_tail NamedPart comma (separated comma column_text (d ∷ cs)) (all_after NamedPart (column_text c) (comma ∷ separated comma column_text (d ∷ cs)) h)))

-- the names in parts that bytes spell are names
pub spelled_named_in : (wide : Bool) (bytes : List ℕ) (ps : List Part) → Spells ps (tokens_in wide bytes) → AllByRecursion NamedPart ps
spelled_named_in wide bytes ps h = takes_named ps (tokens_in wide bytes) [] h (tokens_named wide (suc (length bytes)) start bytes)

pub spelled_named : (bytes : List ℕ) (ps : List Part) → Spells ps (tokens bytes) → AllByRecursion NamedPart ps
spelled_named = spelled_named_in false
