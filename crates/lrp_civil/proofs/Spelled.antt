-- The civil value that could stand at the front of some bytes and does is the one that is spelled there.
use Rattle.std.proofs.Common.{◌≡◌, ◌⊎◌, ◌==◌, ◌+◌, inl, inr, ℕ, zero, suc, Bool, true, false, not, ◌&&◌, nat_eq, get_or, drop-drop, codes, List, [], ◌∷◌, ◌++◌, length, take, drop, Option, None, Some, refl, sym, ap, ap₂, ◌∙◌, subst, cond, arith}
use Rattle.std.specs.Prelude.{find}
use Rattle.std.specs.List.{starts_with}
use Rattle.std.specs.Str.{bytes_eq}
use Rattle.std.proofs.lemmas.Bool.{false≢true}
use Rattle.std.proofs.lemmas.Bool.Decides.{nat_tests}
use Rattle.std.proofs.lemmas.Slice.Eq.{bytes_eq-Decides}
use Rattle.std.proofs.lemmas.List.{take-append-drop}
use Rattle.std.proofs.Math.Seq.{take-append_seam, drop-append_seam}
use Rattle.lrp_calendar.specs.declared.dates.Date.{Date}
use Rattle.lrp_civil.specs.declared.values.CivilValue.{CivilValue}
use Rattle.lrp_civil.specs.declared.values.CivilValue.TheVariants.{Daily, Weekly, On, Every}
use Rattle.lrp_civil.specs.declared.values.CivilText.{CivilText}
use Rattle.lrp_civil.specs.declared.values.CivilText.TheVariants.{Database, WideDatabase, WideQuery}
use Rattle.lrp_civil.specs.declared.values.Pace.{Pace}
use Rattle.lrp_civil.specs.declared.values.Unit.{Unit as UnitOf}
use Rattle.lrp_civil.specs.declared.values.Unit.TheVariants.{Minutes, Hours, Days, Weeks}
use Rattle.lrp_model.specs.Lexing.{run}
use Rattle.std.specs.Char.{is_ascii_digit}
use Rattle.std.specs.Str.Parse.{digits_value}
use Rattle.lrp_calendar.specs.Dates.{is_date}
use Rattle.lrp_calendar.specs.Moments.{clock_bytes, is_time_of_day}
use Rattle.lrp_civil.specs.CivilValues.{day_name, is_civil, is_value_in, is_weekday, spelled, unit_name}
use Rattle.lrp_calendar.specs.Parts.{goes_on}
use Rattle.lrp_civil.specs.PlainText.{IsSpelledAt, IsSpelledIn, begins, paces, possible, possible_in, value_in}
use Rattle.lrp_calendar.specs.Minutes.{date_in, time_in}
use Rattle.lrp_calendar.proofs.Counts.{either}
use Rattle.lrp_calendar.proofs.Numbers.{date_in_is, time_in_is}
use Rattle.lrp_civil.proofs.EveryLemmas.{every_rest, tail, tail_date, tail_time, tests_of}
use Rattle.lrp_civil.proofs.PaceLemmas.{number_run, number_value, pace_number, pace_size, pace_unique}
use Rattle.lrp_civil.proofs.ValueLemmas.{as_civil, as_paced, first_of, first_of_value, letters_differ, read_as, week_whole}
use Rattle.lrp_civil.proofs.Weekdays.{after_name, name_unique}

-- ---- the test and the relation

not_true : (b : Bool) → not b ≡ true → b ≡ false
not_true true h = absurd (false≢true h)
not_true false h = refl

pub begins_spelled : (bytes : List ℕ) (value : CivilValue) → begins bytes value ≡ true → IsSpelledAt bytes value
begins_spelled bytes value h =
    let size = length (spelled value) in
    let k = first_of (is_civil value && starts_with nat_eq bytes (spelled value)) (not (goes_on (drop size bytes))) h in
    let m = first_of (is_civil value) (starts_with nat_eq bytes (spelled value)) k.0 in
    let front : spelled value ≡ take size bytes = (bytes_eq-Decides (spelled value) (take size bytes)).0 m.1 in
    record {
      rest = drop size bytes;
      read = record { is = m.0; whole = sym (take-append-drop size bytes) ∙ ap (λ x. x ++ drop size bytes) (sym front) };
      ends = not_true (goes_on (drop size bytes)) k.1;
    }

all_three : (a b c : Bool) → a ≡ true → b ≡ true → c ≡ false → (a && b && not c) ≡ true
all_three a b c e f g = rw (e, f, g) refl

pub spelled_begins : (bytes : List ℕ) (value : CivilValue) → IsSpelledAt bytes value → begins bytes value ≡ true
spelled_begins bytes value s =
    let size = length (spelled value) in
    let front : spelled value ≡ take size bytes = sym (take-append_seam (spelled value) s.rest) ∙ ap (take size) (sym s.read.whole) in
    let rest : drop size bytes ≡ s.rest = ap (drop size) s.read.whole ∙ drop-append_seam (spelled value) s.rest in
    all_three (is_civil value) (bytes_eq (spelled value) (take size bytes)) (goes_on (drop size bytes)) s.read.is ((bytes_eq-Decides (spelled value) (take size bytes)).1 front) (ap goes_on rest ∙ s.ends)

-- ---- the numbers of the value that is spelled

daily_time : (bytes : List ℕ) (time : ℕ) → IsSpelledAt bytes (Daily time) → time_in (drop 6 bytes) ≡ time
daily_time bytes time s = ap (λ b. time_in (drop 6 b)) s.read.whole ∙ time_in_is time s.rest s.read.is

on_date : (bytes : List ℕ) (date : Date) (time : ℕ) → IsSpelledAt bytes (On date time) → date_in (drop 3 bytes) ≡ date
on_date bytes date time s =
    let k = first_of (is_date date) (is_time_of_day time) s.read.is in
    ap (λ b. date_in (drop 3 b)) s.read.whole ∙ date_in_is date (32 ∷ (clock_bytes time ++ s.rest)) k.0

on_time : (bytes : List ℕ) (date : Date) (time : ℕ) → IsSpelledAt bytes (On date time) → time_in (drop 14 bytes) ≡ time
on_time bytes date time s =
    let k = first_of (is_date date) (is_time_of_day time) s.read.is in
    ap (λ b. time_in (drop 14 b)) s.read.whole ∙ time_in_is time s.rest k.1

-- the bytes after the word of a weekly value that is spelled
after_week : (bytes : List ℕ) (day time : ℕ) (s : IsSpelledAt bytes (Weekly day time)) → drop 7 bytes ≡ day_name day ++ (32 ∷ (clock_bytes time ++ s.rest))
after_week bytes day time s =
    let rest = (day_name day ++ (32 ∷ clock_bytes time)) ++ s.rest in
    ap (drop 7) s.read.whole ∙ week_whole bytes rest s.rest day time s.read.whole s.read.whole

drop_more : (bytes : List ℕ) → drop 11 bytes ≡ drop 4 (drop 7 bytes)
drop_more [] = refl
drop_more (a ∷ []) = refl
drop_more (a ∷ b ∷ []) = refl
drop_more (a ∷ b ∷ c ∷ []) = refl
drop_more (a ∷ b ∷ c ∷ d ∷ []) = refl
drop_more (a ∷ b ∷ c ∷ d ∷ e ∷ []) = refl
drop_more (a ∷ b ∷ c ∷ d ∷ e ∷ f ∷ []) = refl
drop_more (a ∷ b ∷ c ∷ d ∷ e ∷ f ∷ g ∷ bytes) = refl

weekly_time : (bytes : List ℕ) (day time : ℕ) → IsSpelledAt bytes (Weekly day time) → time_in (drop 11 bytes) ≡ time
weekly_time bytes day time s =
    let k = first_of (is_weekday day) (is_time_of_day time) s.read.is in
    ap time_in (drop_more bytes ∙ ap (drop 4) (after_week bytes day time s) ∙ after_name day (clock_bytes time ++ s.rest) k.0) ∙ time_in_is time s.rest k.1

-- ---- one value is spelled, and it is among the possible ones

-- two values that begin with different letters
apart : (bytes : List ℕ) (v w : CivilValue) (a b : ℕ) → a ≡ get_or bytes 0 0 → get_or bytes 0 0 ≡ b → (a == b) ≡ false → v ≡ w
apart bytes v w a b e f d = absurd (letters_differ a b d (e ∙ f))

-- the date and the time of a value of a pace
every_same : (bytes : List ℕ) (p q : Pace) (d e : Date) (t u : ℕ) (s : IsSpelledAt bytes (Every p d t)) (r : IsSpelledAt bytes (Every q e u)) → bytes ≡ codes "every " ++ drop 6 bytes → Every p d t ≡ Every q e u
every_same bytes p q d e t u s r whole =
    let same = pace_unique (drop 6 bytes) p q (tail d t s.rest) (tail e u r.rest) (every_rest bytes (drop 6 bytes) p d t whole s) (every_rest bytes (drop 6 bytes) q e u whole r) in
    let one = tests_of p d t s.read.is in
    let two = tests_of q e u r.read.is in
    let date : d ≡ e = sym (tail_date d t s.rest one.real_date) ∙ ap (λ x. date_in (drop 6 x)) same.1 ∙ tail_date e u r.rest two.real_date in
    let time : t ≡ u = sym (tail_time d t s.rest one.real_time) ∙ ap (λ x. time_in (drop 17 x)) same.1 ∙ tail_time e u r.rest two.real_time in
    ap (λ x. Every x d t) same.0 ∙ ap₂ (λ x y. Every q x y) date time

-- the word, and what stands after it
every_front : (bytes : List ℕ) (p : Pace) (d : Date) (t : ℕ) → IsSpelledAt bytes (Every p d t) → bytes ≡ codes "every " ++ drop 6 bytes
every_front bytes p d t s = s.read.whole ∙ ap (λ x. codes "every " ++ drop 6 x) (sym s.read.whole)

pub spelled_unique : (bytes : List ℕ) (v w : CivilValue) → IsSpelledAt bytes v → IsSpelledAt bytes w → v ≡ w
spelled_unique bytes (Daily t) (Daily u) s r = ap Daily (sym (daily_time bytes t s) ∙ daily_time bytes u r)
spelled_unique bytes (Weekly j t) (Weekly k u) s r =
    let p = first_of (is_weekday j) (is_time_of_day t) s.read.is in
    let q = first_of (is_weekday k) (is_time_of_day u) r.read.is in
    let day = (name_unique j k (32 ∷ (clock_bytes t ++ s.rest)) (32 ∷ (clock_bytes u ++ r.rest)) p.0 q.0 (sym (after_week bytes j t s) ∙ after_week bytes k u r)).0 in
    ap₂ Weekly day (sym (weekly_time bytes j t s) ∙ weekly_time bytes k u r)
spelled_unique bytes (On d t) (On e u) s r = ap₂ On (sym (on_date bytes d t s) ∙ on_date bytes e u r) (sym (on_time bytes d t s) ∙ on_time bytes e u r)
spelled_unique bytes (Every p d t) (Every q e u) s r = every_same bytes p q d e t u s r (every_front bytes p d t s)
spelled_unique bytes (Daily t) (Weekly k u) s r = apart bytes (Daily t) (Weekly k u) 100 119 (sym (first_of_value is_civil bytes (Daily t) s)) (first_of_value is_civil bytes (Weekly k u) r) refl
spelled_unique bytes (Daily t) (On e u) s r = apart bytes (Daily t) (On e u) 100 111 (sym (first_of_value is_civil bytes (Daily t) s)) (first_of_value is_civil bytes (On e u) r) refl
spelled_unique bytes (Daily t) (Every q e u) s r = apart bytes (Daily t) (Every q e u) 100 101 (sym (first_of_value is_civil bytes (Daily t) s)) (first_of_value is_civil bytes (Every q e u) r) refl
spelled_unique bytes (Weekly j t) (Daily u) s r = apart bytes (Weekly j t) (Daily u) 119 100 (sym (first_of_value is_civil bytes (Weekly j t) s)) (first_of_value is_civil bytes (Daily u) r) refl
spelled_unique bytes (Weekly j t) (On e u) s r = apart bytes (Weekly j t) (On e u) 119 111 (sym (first_of_value is_civil bytes (Weekly j t) s)) (first_of_value is_civil bytes (On e u) r) refl
spelled_unique bytes (Weekly j t) (Every q e u) s r = apart bytes (Weekly j t) (Every q e u) 119 101 (sym (first_of_value is_civil bytes (Weekly j t) s)) (first_of_value is_civil bytes (Every q e u) r) refl
spelled_unique bytes (On d t) (Daily u) s r = apart bytes (On d t) (Daily u) 111 100 (sym (first_of_value is_civil bytes (On d t) s)) (first_of_value is_civil bytes (Daily u) r) refl
spelled_unique bytes (On d t) (Weekly k u) s r = apart bytes (On d t) (Weekly k u) 111 119 (sym (first_of_value is_civil bytes (On d t) s)) (first_of_value is_civil bytes (Weekly k u) r) refl
spelled_unique bytes (On d t) (Every q e u) s r = apart bytes (On d t) (Every q e u) 111 101 (sym (first_of_value is_civil bytes (On d t) s)) (first_of_value is_civil bytes (Every q e u) r) refl
spelled_unique bytes (Every p d t) (Daily u) s r = apart bytes (Every p d t) (Daily u) 101 100 (sym (first_of_value is_civil bytes (Every p d t) s)) (first_of_value is_civil bytes (Daily u) r) refl
spelled_unique bytes (Every p d t) (Weekly k u) s r = apart bytes (Every p d t) (Weekly k u) 101 119 (sym (first_of_value is_civil bytes (Every p d t) s)) (first_of_value is_civil bytes (Weekly k u) r) refl
spelled_unique bytes (Every p d t) (On e u) s r = apart bytes (Every p d t) (On e u) 101 111 (sym (first_of_value is_civil bytes (Every p d t) s)) (first_of_value is_civil bytes (On e u) r) refl

-- the value is one of the list
abbrev Among : CivilValue → List CivilValue → Type 0
Among v [] = ⊥
Among v (w ∷ ws) = (v ≡ w) ⊎ Among v ws

none : (n : ℕ) → is_weekday (suc (suc (suc (suc (suc (suc (suc n))))))) ≡ true → ⊥
none n h = absurd (grind (arith, nat_tests))

-- the weekly values at a time
abbrev weeks : ℕ → List CivilValue
weeks time = Weekly 0 time ∷ Weekly 1 time ∷ Weekly 2 time ∷ Weekly 3 time ∷ Weekly 4 time ∷ Weekly 5 time ∷ Weekly 6 time ∷ []

among_weeks : (day time : ℕ) → is_weekday day ≡ true → Among (Weekly day time) (weeks time)
among_weeks zero time h = inl refl
among_weeks (suc zero) time h = inr (inl refl)
among_weeks (suc (suc zero)) time h = inr (inr (inl refl))
among_weeks (suc (suc (suc zero))) time h = inr (inr (inr (inl refl)))
among_weeks (suc (suc (suc (suc zero)))) time h = inr (inr (inr (inr (inl refl))))
among_weeks (suc (suc (suc (suc (suc zero))))) time h = inr (inr (inr (inr (inr (inl refl)))))
among_weeks (suc (suc (suc (suc (suc (suc zero)))))) time h = inr (inr (inr (inr (inr (inr (inl refl))))))
among_weeks (suc (suc (suc (suc (suc (suc (suc n))))))) time h = absurd (none n h)

among_possible : (bytes : List ℕ) (v : CivilValue) → is_value_in Database v ≡ true → IsSpelledAt bytes v → Among v (possible bytes)
among_possible bytes (Daily t) h s = inl (ap Daily (sym (daily_time bytes t s)))
among_possible bytes (On d t) h s = inr (inl (ap₂ On (sym (on_date bytes d t s)) (sym (on_time bytes d t s))))
among_possible bytes (Weekly j t) h s =
    let k = first_of (is_weekday j) (is_time_of_day t) s.read.is in
    let here : Among (Weekly j t) (weeks (time_in (drop 11 bytes))) = subst (λ u. Among (Weekly j t) (weeks u)) (sym (weekly_time bytes j t s)) (among_weeks j t k.0) in
    inr (inr here)
among_possible bytes (Every p d t) h s = absurd (false≢true h)

-- a value of a pace, with what its places have
every_at : (n m : ℕ) (u : UnitOf) (d e : Date) (t s : ℕ) → n ≡ m → e ≡ d → s ≡ t → Every (record { number = m; unit = u }) d t ≡ Every (record { number = n; unit = u }) e s
every_at n m u d e t s f g h = ap (λ (k : ℕ). Every (record { number = k; unit = u }) d t) (sym f) ∙ ap₂ (λ x y. Every (record { number = n; unit = u }) x y) (sym g) (sym h)

-- the number of digits is where the unit begins
unit_begins : (bytes digits after_number : List ℕ) → drop 6 bytes ≡ digits ++ (32 ∷ after_number) → drop (7 + length digits) bytes ≡ after_number
unit_begins bytes digits after_number e =
    let more : 7 + length digits ≡ 6 + (length digits + 1) = omega arith in
    let last : drop (length digits + 1) (digits ++ (32 ∷ after_number)) ≡ after_number = sym (drop-drop 1 (length digits) (digits ++ (32 ∷ after_number))) ∙ ap (drop 1) (drop-append_seam digits (32 ∷ after_number)) in
    ap (λ n. drop n bytes) more ∙ sym (drop-drop (length digits + 1) 6 bytes) ∙ ap (drop (length digits + 1)) e ∙ last

among_unit : (bytes : List ℕ) (n : ℕ) (u : UnitOf) (d : Date) (t : ℕ) (after : List ℕ) → digits_value 10 (run is_ascii_digit (drop 6 bytes)) ≡ n → drop (7 + length (run is_ascii_digit (drop 6 bytes))) bytes ≡ unit_name u ++ tail d t after
    → is_date d ≡ true → is_time_of_day t ≡ true → Among (Every (record { number = n; unit = u }) d t) (paces bytes)
among_unit bytes n Minutes d t after e f h k = inl (every_at _ n Minutes d _ t _ e (ap (λ x. date_in (drop 13 x)) f ∙ tail_date d t after h) (ap (λ x. time_in (drop 24 x)) f ∙ tail_time d t after k))
among_unit bytes n Hours d t after e f h k = inr (inl (every_at _ n Hours d _ t _ e (ap (λ x. date_in (drop 11 x)) f ∙ tail_date d t after h) (ap (λ x. time_in (drop 22 x)) f ∙ tail_time d t after k)))
among_unit bytes n Days d t after e f h k = inr (inr (inl (every_at _ n Days d _ t _ e (ap (λ x. date_in (drop 10 x)) f ∙ tail_date d t after h) (ap (λ x. time_in (drop 21 x)) f ∙ tail_time d t after k))))
among_unit bytes n Weeks d t after e f h k = inr (inr (inr (inl (every_at _ n Weeks d _ t _ e (ap (λ x. date_in (drop 11 x)) f ∙ tail_date d t after h) (ap (λ x. time_in (drop 22 x)) f ∙ tail_time d t after k)))))

among_paces : (bytes : List ℕ) (p : Pace) (d : Date) (t : ℕ) → IsSpelledAt bytes (Every p d t) → Among (Every p d t) (paces bytes)
among_paces bytes p d t s =
    let tests = tests_of p d t s.read.is in
    let size = pace_size p tests.real_pace in
    let number = pace_number (drop 6 bytes) p (tail d t s.rest) (every_rest bytes (drop 6 bytes) p d t (every_front bytes p d t s) s) in
    let digits = number_run (drop 6 bytes) p.number (32 ∷ (unit_name p.unit ++ tail d t s.rest)) size.small number.whole number.ends in
    let begun : drop 6 bytes ≡ run is_ascii_digit (drop 6 bytes) ++ (32 ∷ (unit_name p.unit ++ tail d t s.rest)) = number.whole ∙ ap (λ x. x ++ (32 ∷ (unit_name p.unit ++ tail d t s.rest))) (sym digits.digits) in
    among_unit bytes p.number p.unit d t s.rest (ap (digits_value 10) digits.digits ∙ number_value p.number size.small) (unit_begins bytes (run is_ascii_digit (drop 6 bytes)) (unit_name p.unit ++ tail d t s.rest) begun) tests.real_date tests.real_time

-- in two lists
among_left : (v : CivilValue) (xs ys : List CivilValue) → Among v xs → Among v (xs ++ ys)
among_left v [] ys h = absurd h
among_left v (x ∷ xs) ys (inl e) = inl e
among_left v (x ∷ xs) ys (inr h) = inr (among_left v xs ys h)

among_right : (v : CivilValue) (xs ys : List CivilValue) → Among v ys → Among v (xs ++ ys)
among_right v [] ys h = h
among_right v (x ∷ xs) ys h = inr (among_right v xs ys h)

-- the value that a text of a kind has there is one of those that it may have
among_kind : (kind : CivilText) (bytes : List ℕ) (v : CivilValue) → is_value_in kind v ≡ true → IsSpelledAt bytes v → Among v (possible_in kind bytes)
among_kind Database bytes v h s = among_possible bytes v h s
among_kind WideQuery bytes (Daily t) h s = among_possible bytes (Daily t) h s
among_kind WideQuery bytes (Weekly j t) h s = among_possible bytes (Weekly j t) h s
among_kind WideQuery bytes (On d t) h s = among_possible bytes (On d t) h s
among_kind WideQuery bytes (Every p d t) h s = absurd (false≢true h)
among_kind WideDatabase bytes (Daily t) h s = among_left (Daily t) (possible bytes) (paces bytes) (among_possible bytes (Daily t) h s)
among_kind WideDatabase bytes (Weekly j t) h s = among_left (Weekly j t) (possible bytes) (paces bytes) (among_possible bytes (Weekly j t) h s)
among_kind WideDatabase bytes (On d t) h s = among_left (On d t) (possible bytes) (paces bytes) (among_possible bytes (On d t) h s)
among_kind WideDatabase bytes (Every p d t) h s = among_right (Every p d t) (possible bytes) (paces bytes) (among_paces bytes p d t s)

-- and those that it may have are values of the kind
no_pace_possible : (bytes : List ℕ) (p : Pace) (d : Date) (t : ℕ) → Among (Every p d t) (possible bytes) → ⊥
no_pace_possible bytes p d t (inl e) = absurd cc
no_pace_possible bytes p d t (inr (inl e)) = absurd cc
no_pace_possible bytes p d t (inr (inr (inl e))) = absurd cc
no_pace_possible bytes p d t (inr (inr (inr (inl e)))) = absurd cc
no_pace_possible bytes p d t (inr (inr (inr (inr (inl e))))) = absurd cc
no_pace_possible bytes p d t (inr (inr (inr (inr (inr (inl e)))))) = absurd cc
no_pace_possible bytes p d t (inr (inr (inr (inr (inr (inr (inl e))))))) = absurd cc
no_pace_possible bytes p d t (inr (inr (inr (inr (inr (inr (inr (inl e)))))))) = absurd cc
no_pace_possible bytes p d t (inr (inr (inr (inr (inr (inr (inr (inr (inl e))))))))) = absurd cc
no_pace_possible bytes p d t (inr (inr (inr (inr (inr (inr (inr (inr (inr e))))))))) = absurd e

usual_of : (kind : CivilText) (bytes : List ℕ) (v : CivilValue) → Among v (possible bytes) → is_civil v ≡ true → is_value_in kind v ≡ true
usual_of kind bytes (Daily t) m h = h
usual_of kind bytes (Weekly j t) m h = h
usual_of kind bytes (On d t) m h = h
usual_of kind bytes (Every p d t) m h = absurd (no_pace_possible bytes p d t m)

kind_of : (kind : CivilText) (bytes : List ℕ) (v : CivilValue) → Among v (possible_in kind bytes) → IsSpelledAt bytes v → IsSpelledIn kind bytes v
kind_of WideDatabase bytes v m s = as_paced WideDatabase bytes v refl s
kind_of Database bytes v m s = read_as is_civil (is_value_in Database) bytes v (usual_of Database bytes v m) s
kind_of WideQuery bytes v m s = read_as is_civil (is_value_in WideQuery) bytes v (usual_of WideQuery bytes v m) s

-- ---- the first that passes a test

chosen_true : (b : Bool) (x y : Option CivilValue) → b ≡ true → cond b x y ≡ x
chosen_true b x y e = ap (λ c. cond c x y) e

chosen_false : (b : Bool) (x y : Option CivilValue) → b ≡ false → cond b x y ≡ y
chosen_false b x y e = ap (λ c. cond c x y) e

find_one : (test : CivilValue → Bool) (xs : List CivilValue) (a : CivilValue) → Among a xs → test a ≡ true → ((b : CivilValue) → test b ≡ true → b ≡ a) → find test xs ≡ Some a
find_one test [] a m h only = absurd m
find_one test (x ∷ xs) a m h only =
    elim (either (test x)) [
      | inl e ↦ chosen_true (test x) (Some x) (find test xs) e ∙ ap Some (only x e)
      | inr e ↦ elim m [
        | inl is ↦ absurd (false≢true (sym e ∙ ap test (sym is) ∙ h))
        | inr later ↦ chosen_false (test x) (Some x) (find test xs) e ∙ find_one test xs a later h only
      ]
    ]

find_none : (test : CivilValue → Bool) (xs : List CivilValue) → ((b : CivilValue) → Among b xs → test b ≡ true → ⊥) → find test xs ≡ None
find_none test [] none = refl
find_none test (x ∷ xs) none =
    elim (either (test x)) [
      | inl e ↦ absurd (none x (inl refl) e)
      | inr e ↦ chosen_false (test x) (Some x) (find test xs) e ∙ find_none test xs (λ b m. none b (inr m))
    ]

find_passes : (test : CivilValue → Bool) (xs : List CivilValue) (a : CivilValue) → find test xs ≡ Some a → (test a ≡ true) × Among a xs
find_passes test [] a e = absurd (cc e)
find_passes test (x ∷ xs) a e =
    elim (either (test x)) [
      | inl h ↦ let is : x ≡ a = cc (sym (chosen_true (test x) (Some x) (find test xs) h) ∙ e) in (ap test (sym is) ∙ h, inl (sym is))
      | inr h ↦ let k = find_passes test xs a (sym (chosen_false (test x) (Some x) (find test xs) h) ∙ e) in (k.0, inr k.1)
    ]

-- ---- the value at the front

pub value_is : (kind : CivilText) (bytes : List ℕ) (v : CivilValue) → IsSpelledIn kind bytes v → value_in kind bytes ≡ Some v
unfolding value_in
value_is kind bytes v s =
    let here = as_civil kind bytes v s in
    find_one (begins bytes) (possible_in kind bytes) v (among_kind kind bytes v s.read.is here) (spelled_begins bytes v here) (λ b h. spelled_unique bytes b v (begins_spelled bytes b h) here)

pub value_none : (kind : CivilText) (bytes : List ℕ) → ((v : CivilValue) → IsSpelledIn kind bytes v → ⊥) → value_in kind bytes ≡ None
unfolding value_in
value_none kind bytes none = find_none (begins bytes) (possible_in kind bytes) (λ b m h. none b (kind_of kind bytes b m (begins_spelled bytes b h)))

pub value_spelled : (kind : CivilText) (bytes : List ℕ) (v : CivilValue) → value_in kind bytes ≡ Some v → IsSpelledIn kind bytes v
unfolding value_in
value_spelled kind bytes v e =
    let k = find_passes (begins bytes) (possible_in kind bytes) v e in
    kind_of kind bytes v k.1 (begins_spelled bytes v k.0)
