-- The plain text, token by token.
use Rattle.std.proofs.Common.{◌≡◌, ◌≤◌, ◌<◌, ◌+◌, ◌-◌, inl, inr, ℕ, zero, suc, Bool, true, false, List, [], ◌++◌, length, take, take_all, drop, Option, None, Some, refl, sym, ap, ◌∙◌, subst, if◌then◌else◌, append_assoc, codes, arith}
use Rattle.std.proofs.lemmas.Bool.{false≢true}
use Rattle.std.proofs.lemmas.List.{length-append, length-drop, take-append-drop}
use Rattle.std.proofs.Math.Seq.{take-append_seam, drop-append_seam}
use Rattle.lrp_model.specs.Lexing.{scan_in, start}
use Rattle.lrp_text.proofs.Cuts.{skip_rest, skip_shorter}
use Rattle.lrp_text.proofs.Scans.{ends_some, scan_taken_in}
use Rattle.lrp_civil.specs.declared.values.CivilValue.{CivilValue}
use Rattle.lrp_civil.specs.declared.values.CivilValue.TheVariants.{Daily, Weekly, On, Every}
use Rattle.lrp_civil.specs.declared.values.CivilText.{CivilText}
use Rattle.lrp_calendar.specs.Moments.{clock_bytes, date_bytes}
use Rattle.lrp_civil.specs.CivilValues.{pace_bytes, padded_bytes, spelled}
use Rattle.lrp_civil.specs.Tokens.{IsAfterToken, after_blanks, is_last}
use Rattle.lrp_civil.specs.PlainText.{IsFirstCivilValue, IsSpelledAt, IsSpelledIn, blanks, plain_as, plain_bytes_of, plain_from, plain_value, signs_of, value_in}
use Rattle.std.specs.Str.{IsUtf8, is_utf8}
use Rattle.std.proofs.lemmas.Str.{IsUtf8-from_is_utf8, is_utf8-from_IsUtf8}
use Rattle.lrp_calendar.proofs.Counts.{either}
use Rattle.lrp_civil.proofs.Spelled.{value_is, value_spelled}
use Rattle.lrp_civil.proofs.ValueLemmas.{as_civil}

-- ---- what is taken

-- blanks and comments, and what stands after them
pub blanks_whole : (bytes : List ℕ) → blanks bytes ++ after_blanks bytes ≡ bytes
blanks_whole bytes =
    let n = length bytes - length (after_blanks bytes) in
    ap (λ rest. take n bytes ++ rest) (sym (skip_rest start bytes)) ∙ take-append-drop n bytes

pub blanks_shorter : (bytes : List ℕ) → length (after_blanks bytes) ≤ length bytes
blanks_shorter bytes = skip_shorter start bytes

spelled_some : (v : CivilValue) → 0 < length (spelled v)
spelled_some (Daily time) = omega arith
spelled_some (Weekly day time) = omega arith
spelled_some (On date time) = omega arith
spelled_some (Every pace date time) = omega (arith, length-append (codes "every ") (pace_bytes pace ++ (codes " from " ++ (date_bytes date ++ (codes " " ++ clock_bytes time)))))

-- after a value less is left
pub value_shorter : (here : List ℕ) (v : CivilValue) → IsSpelledAt here v → length (drop (length (spelled v)) here) < length here
value_shorter here v s =
    let size : length here ≡ length (spelled v) + length s.rest = ap length s.read.whole ∙ length-append (spelled v) s.rest in
    let left : length (drop (length (spelled v)) here) ≡ length s.rest = ap length (ap (drop (length (spelled v))) s.read.whole ∙ drop-append_seam (spelled v) s.rest) in
    omega (arith, spelled_some v)

-- a token that others follow takes some bytes
token_some : (wide : Bool) (here : List ℕ) → is_last (scan_in wide here).token ≡ false → 0 < length (scan_in wide here).taken
token_some wide here e =
    elim (scan_taken_in wide here).ends [
      | inl bad ↦ absurd (false≢true (sym e ∙ ap is_last bad.0))
      | inr (inl end) ↦ absurd (false≢true (sym e ∙ ap is_last end.0))
      | inr (inr k) ↦ ends_some (scan_in wide here).taken k
    ]

pub token_shorter : (wide : Bool) (here : List ℕ) → is_last (scan_in wide here).token ≡ false → length (scan_in wide here).left < length here
token_shorter wide here e =
    let size : length here ≡ length (scan_in wide here).taken + length (scan_in wide here).left = sym (ap length (scan_taken_in wide here).whole) ∙ length-append (scan_in wide here).taken (scan_in wide here).left in
    omega (arith, token_some wide here e)

-- ---- as many turns as there may be

-- two rewritings of the rest that agree on all that is shorter
abbrev Agree : ℕ → (List ℕ → List ℕ) → (List ℕ → List ℕ) → Type 0
Agree n f g = (rest : List ℕ) → length rest < n → f rest ≡ g rest

token_same : (kind : CivilText) (f g : List ℕ → List ℕ) (here : List ℕ) (last : Bool) → last ≡ is_last (scan_in (signs_of kind) here).token → Agree (length here) f g
    → (if last then here else (scan_in (signs_of kind) here).taken ++ f (scan_in (signs_of kind) here).left) ≡ (if last then here else (scan_in (signs_of kind) here).taken ++ g (scan_in (signs_of kind) here).left)
token_same kind f g here true e same = refl
token_same kind f g here false e same = ap (λ rest. (scan_in (signs_of kind) here).taken ++ rest) (same (scan_in (signs_of kind) here).left (token_shorter (signs_of kind) here (sym e)))

value_same : (kind : CivilText) (f g : List ℕ → List ℕ) (here : List ℕ) (o : Option CivilValue) → value_in kind here ≡ o → Agree (length here) f g → plain_value kind f here o ≡ plain_value kind g here o
value_same kind f g here (Some v) e same = ap (λ rest. padded_bytes v ++ rest) (same (drop (length (spelled v)) here) (value_shorter here v (as_civil kind here v (value_spelled kind here v e))))
value_same kind f g here None e same = token_same kind f g here (is_last (scan_in (signs_of kind) here).token) refl same

one_turn : (kind : CivilText) (n : ℕ) (bytes : List ℕ) → plain_from kind (suc n) bytes ≡ blanks bytes ++ plain_value kind (plain_from kind n) (after_blanks bytes) (value_in kind (after_blanks bytes))
unfolding plain_from
one_turn kind n bytes = refl

turns_same : (kind : CivilText) (n m : ℕ) (bytes : List ℕ) → length bytes < n → length bytes < m → plain_from kind n bytes ≡ plain_from kind m bytes
turns_same kind zero m bytes h k = absurd (omega arith)
turns_same kind (suc n) zero bytes h k = absurd (omega arith)
turns_same kind (suc n) (suc m) bytes h k =
    let here = after_blanks bytes in
    let short = blanks_shorter bytes in
    let same : Agree (length here) (plain_from kind n) (plain_from kind m) = λ rest lt. turns_same kind n m rest (omega arith) (omega arith) in
    one_turn kind n bytes ∙ ap (λ rest. blanks bytes ++ rest) (value_same kind (plain_from kind n) (plain_from kind m) here (value_in kind here) refl same) ∙ sym (one_turn kind m bytes)

plain_is : (kind : CivilText) (bytes : List ℕ) → plain_bytes_of kind bytes ≡ plain_from kind (suc (length bytes)) bytes
unfolding plain_bytes_of
plain_is kind bytes = refl

-- the plain text by its first token
pub turn : (kind : CivilText) (bytes : List ℕ) → plain_bytes_of kind bytes ≡ blanks bytes ++ plain_value kind (plain_bytes_of kind) (after_blanks bytes) (value_in kind (after_blanks bytes))
turn kind bytes =
    let here = after_blanks bytes in
    let short = blanks_shorter bytes in
    let same : Agree (length here) (plain_from kind (length bytes)) (plain_bytes_of kind) = λ rest lt. turns_same kind (length bytes) (suc (length rest)) rest (omega arith) (omega arith) ∙ sym (plain_is kind rest) in
    plain_is kind bytes ∙ one_turn kind (length bytes) bytes ∙ ap (λ rest. blanks bytes ++ rest) (value_same kind (plain_from kind (length bytes)) (plain_bytes_of kind) here (value_in kind here) refl same)

-- ---- on the way to the first value

-- of the bytes before the rest all stays
pub record IsOnTheWay (kind : CivilText) (bytes rest : List ℕ) : Type 0 where
  pub front : List ℕ
  pub whole : bytes ≡ front ++ rest
  pub same : plain_bytes_of kind bytes ≡ front ++ plain_bytes_of kind rest

pub begins_way : (kind : CivilText) (bytes : List ℕ) → IsOnTheWay kind bytes bytes
begins_way kind bytes = record { front = []; whole = refl; same = refl }

-- the three cases of a turn
value_turn : (kind : CivilText) (rest : List ℕ) (v : CivilValue) → value_in kind (after_blanks rest) ≡ Some v → plain_bytes_of kind rest ≡ blanks rest ++ (padded_bytes v ++ plain_bytes_of kind (drop (length (spelled v)) (after_blanks rest)))
value_turn kind rest v e = turn kind rest ∙ ap (λ o. blanks rest ++ plain_value kind (plain_bytes_of kind) (after_blanks rest) o) e

chosen_false : (b : Bool) (x y : List ℕ) → b ≡ false → (if b then x else y) ≡ y
chosen_false b x y e = ap (λ c. if c then x else y) e

chosen_true : (b : Bool) (x y : List ℕ) → b ≡ true → (if b then x else y) ≡ x
chosen_true b x y e = ap (λ c. if c then x else y) e

token_turn : (kind : CivilText) (rest : List ℕ) → value_in kind (after_blanks rest) ≡ None → is_last (scan_in (signs_of kind) (after_blanks rest)).token ≡ false → plain_bytes_of kind rest ≡ blanks rest ++ ((scan_in (signs_of kind) (after_blanks rest)).taken ++ plain_bytes_of kind (scan_in (signs_of kind) (after_blanks rest)).left)
token_turn kind rest e f =
    let here = after_blanks rest in
    turn kind rest ∙ ap (λ o. blanks rest ++ plain_value kind (plain_bytes_of kind) here o) e ∙ ap (λ x. blanks rest ++ x) (chosen_false (is_last (scan_in (signs_of kind) here).token) here ((scan_in (signs_of kind) here).taken ++ plain_bytes_of kind (scan_in (signs_of kind) here).left) f)

last_turn : (kind : CivilText) (rest : List ℕ) → value_in kind (after_blanks rest) ≡ None → is_last (scan_in (signs_of kind) (after_blanks rest)).token ≡ true → plain_bytes_of kind rest ≡ rest
last_turn kind rest e f =
    let here = after_blanks rest in
    turn kind rest ∙ ap (λ o. blanks rest ++ plain_value kind (plain_bytes_of kind) here o) e ∙ ap (λ x. blanks rest ++ x) (chosen_true (is_last (scan_in (signs_of kind) here).token) here ((scan_in (signs_of kind) here).taken ++ plain_bytes_of kind (scan_in (signs_of kind) here).left) f) ∙ blanks_whole rest

-- after a token
pub way_on : (kind : CivilText) (bytes rest here left : List ℕ) → IsOnTheWay kind bytes rest → here ≡ after_blanks rest → value_in kind here ≡ None → IsAfterToken (signs_of kind) here left → IsOnTheWay kind bytes left
way_on kind bytes rest here left w e f k =
    let s = scan_in (signs_of kind) (after_blanks rest) in
    let goes : is_last s.token ≡ false = ap (λ x. is_last (scan_in (signs_of kind) x).token) (sym e) ∙ k.goes_on in
    let after : s.left ≡ left = ap (λ x. (scan_in (signs_of kind) x).left) (sym e) ∙ k.left in
    let more = w.front ++ (blanks rest ++ s.taken) in
    let rest_is : rest ≡ (blanks rest ++ s.taken) ++ left =
    sym (blanks_whole rest) ∙ ap (λ x. blanks rest ++ x) (sym (scan_taken_in (signs_of kind) (after_blanks rest)).whole) ∙ sym (append_assoc (blanks rest) s.taken s.left) ∙ ap (λ x. (blanks rest ++ s.taken) ++ x) after in
    let plain_rest : plain_bytes_of kind rest ≡ (blanks rest ++ s.taken) ++ plain_bytes_of kind left =
    token_turn kind rest (ap (value_in kind) (sym e) ∙ f) goes ∙ sym (append_assoc (blanks rest) s.taken (plain_bytes_of kind s.left)) ∙ ap (λ x. (blanks rest ++ s.taken) ++ plain_bytes_of kind x) after in
    record {
      front = more;
      whole = w.whole ∙ ap (λ x. w.front ++ x) rest_is ∙ sym (append_assoc w.front (blanks rest ++ s.taken) left);
      same = w.same ∙ ap (λ x. w.front ++ x) plain_rest ∙ sym (append_assoc w.front (blanks rest ++ s.taken) (plain_bytes_of kind left));
    }

-- at a value
pub way_value : (kind : CivilText) (bytes rest here : List ℕ) (v : CivilValue) → IsOnTheWay kind bytes rest → here ≡ after_blanks rest → IsSpelledAt here v → value_in kind here ≡ Some v
    → IsFirstCivilValue kind bytes (take (length bytes - length here) bytes) v (drop (length (spelled v)) here)
way_value kind bytes rest here v w e s f =
    let before = w.front ++ blanks rest in
    let after = drop (length (spelled v)) here in
    let whole : bytes ≡ before ++ here =
    w.whole ∙ ap (λ x. w.front ++ x) (sym (blanks_whole rest) ∙ ap (λ x. blanks rest ++ x) (sym e)) ∙ sym (append_assoc w.front (blanks rest) here) in
    let size : length bytes - length here ≡ length before = omega (arith, ap length whole, length-append before here) in
    let front : take (length bytes - length here) bytes ≡ before = ap (λ n. take n bytes) size ∙ ap (take (length before)) whole ∙ take-append_seam before here in
    let made : plain_bytes_of kind rest ≡ blanks rest ++ (padded_bytes v ++ plain_bytes_of kind after) = value_turn kind rest v (ap (value_in kind) (sym e) ∙ f) ∙ ap (λ x. blanks rest ++ (padded_bytes v ++ plain_bytes_of kind (drop (length (spelled v)) x))) (sym e) in
    record {
      civil = s.read.is;
      is = w.same ∙ ap (λ x. w.front ++ x) made ∙ sym (append_assoc w.front (blanks rest) (padded_bytes v ++ plain_bytes_of kind after)) ∙ ap (λ x. x ++ (padded_bytes v ++ plain_bytes_of kind after)) (sym front);
    }

-- at the end
pub way_end : (kind : CivilText) (bytes rest here : List ℕ) → IsOnTheWay kind bytes rest → here ≡ after_blanks rest → value_in kind here ≡ None → is_last (scan_in (signs_of kind) here).token ≡ true → plain_bytes_of kind bytes ≡ bytes
way_end kind bytes rest here w e f last =
    w.same ∙ ap (λ x. w.front ++ x) (last_turn kind rest (ap (value_in kind) (sym e) ∙ f) (ap (λ x. is_last (scan_in (signs_of kind) x).token) (sym e) ∙ last)) ∙ sym w.whole

-- after a token less is left
pub token_left : (wide : Bool) (here left : List ℕ) → IsAfterToken wide here left → length left < length here
token_left wide here left k = omega (arith, token_shorter wide here k.goes_on, ap length k.left)

-- the same of a flag that is the same
pub after_signs : (wide signs : Bool) (here left : List ℕ) → wide ≡ signs → IsAfterToken wide here left → IsAfterToken signs here left
after_signs wide signs here left e k = subst (λ w. IsAfterToken w here left) e k

pub last_signs : (wide signs : Bool) (here : List ℕ) → wide ≡ signs → is_last (scan_in wide here).token ≡ true → is_last (scan_in signs here).token ≡ true
last_signs wide signs here e k = subst (λ w. is_last (scan_in w here).token ≡ true) e k

-- the bytes after the first n, as a slice has them
pub after_is : (n : ℕ) (bytes : List ℕ) → take (length bytes - n) (drop n bytes) ≡ drop n bytes
after_is n bytes = take_all (length bytes - n) (drop n bytes) (omega (arith, length-drop n bytes))

-- at a value, as the code has it
pub value_here : (kind : CivilText) (bytes rest here : List ℕ) (v : CivilValue) (n : ℕ) → IsOnTheWay kind bytes rest → here ≡ after_blanks rest → IsSpelledIn kind here v → n ≡ length (spelled v)
    → IsFirstCivilValue kind bytes (take (length bytes - length here) bytes) v (take (length here - n) (drop n here))
value_here kind bytes rest here v n w e s size =
    let P : List ℕ → Type 0 = λ after. IsFirstCivilValue kind bytes (take (length bytes - length here) bytes) v after in
    subst P (ap (λ m. drop m here) (sym size) ∙ sym (after_is n here)) (way_value kind bytes rest here v w e (as_civil kind here v s) (value_is kind here v s))

pub value_left : (kind : CivilText) (here : List ℕ) (v : CivilValue) (n : ℕ) → IsSpelledIn kind here v → n ≡ length (spelled v) → length (take (length here - n) (drop n here)) < length here
value_left kind here v n s size = omega (arith, ap length (after_is n here), ap (λ m. length (drop m here)) size, value_shorter here v (as_civil kind here v s))

-- ---- the text of a file

pub utf8_plain : (kind : CivilText) (bytes : List ℕ) → IsUtf8 bytes → plain_as kind bytes ≡ plain_bytes_of kind bytes
unfolding plain_as
utf8_plain kind bytes u = chosen_true (is_utf8 bytes) (plain_bytes_of kind bytes) bytes (is_utf8-from_IsUtf8 bytes u)

pub no_utf8_plain : (kind : CivilText) (bytes : List ℕ) → (IsUtf8 bytes → ⊥) → plain_as kind bytes ≡ bytes
unfolding plain_as
no_utf8_plain kind bytes none =
    elim (either (is_utf8 bytes)) [
      | inl e ↦ absurd (none (IsUtf8-from_is_utf8 bytes e))
      | inr e ↦ chosen_false (is_utf8 bytes) (plain_bytes_of kind bytes) bytes e
    ]
