-- Which civil values bytes begin with, part by part.
use Rattle.std.proofs.Common.{◌≡◌, ℕ, Bool, true, false, ◌==◌, ◌+◌, ◌&&◌, List, ◌∷◌, ◌++◌, length, take, drop, get_or, Option, None, Some, MatchOption, Bor, refl, sym, ap, ◌∙◌, codes, append_assoc}
use Rattle.std.specs.Str.{bytes_eq}
use Rattle.std.proofs.lemmas.Bool.{eq-eqb, false≢true}
use Rattle.std.proofs.lemmas.Slice.Eq.{bytes_eq-Decides}
use Rattle.std.proofs.lemmas.List.{take-append-drop}
use Rattle.std.proofs.Math.Seq.{take-append_seam}
use Rattle.lrp_calendar.specs.declared.dates.Date.{Date}
use Rattle.lrp_civil.specs.declared.values.CivilValue.{CivilValue}
use Rattle.lrp_civil.specs.declared.values.CivilValue.TheVariants.{Daily, Weekly, On, Every}
use Rattle.lrp_civil.specs.declared.values.CivilText.{CivilText}
use Rattle.lrp_civil.specs.declared.values.Pace.{Pace}
use Rattle.lrp_calendar.specs.Dates.{is_date}
use Rattle.lrp_calendar.specs.Moments.{clock_bytes, date_bytes, is_time_of_day}
use Rattle.lrp_civil.specs.CivilValues.{day_name, has_paces, is_civil, is_value_in, is_weekday, spelled}
use Rattle.lrp_calendar.specs.Parts.{BeginsWithNone, HasNoLast, BeginsAs, IsReadLast}
use Rattle.lrp_civil.specs.PlainText.{IsSpelledAt, IsSpelledIn}
use Rattle.lrp_civil.proofs.Weekdays.{name_unique}

-- ---- a prefix

prefix_some : (bytes prefix after : List ℕ) → bytes_eq (take (length prefix) bytes) prefix ≡ true → after ≡ drop (length prefix) bytes → bytes ≡ prefix ++ after
prefix_some bytes prefix after e f =
    let front : take (length prefix) bytes ≡ prefix = (bytes_eq-Decides (take (length prefix) bytes) prefix).0 e in
    sym (take-append-drop (length prefix) bytes) ∙ ap (λ x. x ++ drop (length prefix) bytes) front ∙ ap (λ x. prefix ++ x) (sym f)

prefix_none : (bytes prefix : List ℕ) → bytes_eq (take (length prefix) bytes) prefix ≡ false → (after : List ℕ) → bytes ≡ prefix ++ after → ⊥
prefix_none bytes prefix e after f =
    let front : take (length prefix) bytes ≡ prefix = ap (take (length prefix)) f ∙ take-append_seam prefix after in
    false≢true (sym e ∙ (bytes_eq-Decides (take (length prefix) bytes) prefix).1 front)

pub prefix_found : (bytes prefix : List ℕ) (n : ℕ) (r : Option (Bor (List ℕ)))
    → MatchOption r (bytes_eq (take (length prefix) bytes) prefix ≡ false) (λ x. (bytes_eq (take (length prefix) bytes) prefix ≡ true) × (x.now ≡ drop (length prefix) bytes) × (length x.now + length prefix ≡ length bytes))
    → MatchOption r ((after : List ℕ) → bytes ≡ prefix ++ after → ⊥) (λ after. bytes ≡ prefix ++ after.now)
prefix_found bytes prefix n None h = prefix_none bytes prefix h
prefix_found bytes prefix n (Some x) h = prefix_some bytes prefix x.now h.0 h.1

-- ---- values that are not there

pub no_daily_time : (bytes rest : List ℕ) → bytes ≡ codes "daily " ++ rest → HasNoLast is_time_of_day clock_bytes rest → (time : ℕ) → IsSpelledAt bytes (Daily time) → ⊥
no_daily_time bytes rest e none = λ time s.
    let whole : rest ≡ clock_bytes time ++ s.rest = cc (sym e ∙ s.read.whole) in
    none time (record { rest = s.rest; read = record { is = s.read.is; whole = whole }; ends = s.ends })

-- both of two tests
pub first_of : (a b : Bool) → (a && b) ≡ true → (a ≡ true) × (b ≡ true)
first_of true b h = (refl, h)
first_of false b h = absurd (false≢true h)

-- the bytes after the word of a weekly value
pub week_whole : (bytes rest after : List ℕ) (day time : ℕ) → bytes ≡ codes "weekly " ++ rest → bytes ≡ spelled (Weekly day time) ++ after → rest ≡ day_name day ++ (32 ∷ (clock_bytes time ++ after))
week_whole bytes rest after day time e f =
    let same : rest ≡ (day_name day ++ (32 ∷ clock_bytes time)) ++ after = cc (sym e ∙ f) in
    same ∙ append_assoc (day_name day) (32 ∷ clock_bytes time) after

pub no_day : (bytes rest : List ℕ) → bytes ≡ codes "weekly " ++ rest → BeginsWithNone is_weekday day_name rest → (day time : ℕ) → IsSpelledAt bytes (Weekly day time) → ⊥
no_day bytes rest e none = λ day time s.
    let k = first_of (is_weekday day) (is_time_of_day time) s.read.is in
    none day (32 ∷ (clock_bytes time ++ s.rest)) (record { is = k.0; whole = week_whole bytes rest s.rest day time e s.read.whole })

pub no_weekly_time : (bytes rest left more : List ℕ) (named : ℕ) → bytes ≡ codes "weekly " ++ rest → BeginsAs is_weekday day_name rest named left → left ≡ 32 ∷ more → HasNoLast is_time_of_day clock_bytes more → (day time : ℕ) → IsSpelledAt bytes (Weekly day time) → ⊥
no_weekly_time bytes rest left more named e r f none = λ day time s.
    let k = first_of (is_weekday day) (is_time_of_day time) s.read.is in
    let same = name_unique named day left (32 ∷ (clock_bytes time ++ s.rest)) r.is k.0 (sym r.whole ∙ week_whole bytes rest s.rest day time e s.read.whole) in
    let whole : more ≡ clock_bytes time ++ s.rest = cc (sym f ∙ same.1) in
    none time (record { rest = s.rest; read = record { is = k.1; whole = whole }; ends = s.ends })

pub no_date : (bytes rest : List ℕ) → bytes ≡ codes "on " ++ rest → BeginsWithNone is_date date_bytes rest → (date : Date) (time : ℕ) → IsSpelledAt bytes (On date time) → ⊥
no_date bytes rest e none = λ date time s.
    let k = first_of (is_date date) (is_time_of_day time) s.read.is in
    let whole : rest ≡ date_bytes date ++ (32 ∷ (clock_bytes time ++ s.rest)) = cc (sym e ∙ s.read.whole) in
    none date (32 ∷ (clock_bytes time ++ s.rest)) (record { is = k.0; whole = whole })

pub no_on_time : (bytes rest left more : List ℕ) (read : Date) → bytes ≡ codes "on " ++ rest → BeginsAs is_date date_bytes rest read left → left ≡ 32 ∷ more → HasNoLast is_time_of_day clock_bytes more → (date : Date) (time : ℕ) → IsSpelledAt bytes (On date time) → ⊥
no_on_time bytes rest left more read e r f none = λ date time s.
    let k = first_of (is_date date) (is_time_of_day time) s.read.is in
    let whole : more ≡ clock_bytes time ++ s.rest = cc (sym e ∙ s.read.whole, r.whole, f) in
    none time (record { rest = s.rest; read = record { is = k.1; whole = whole }; ends = s.ends })

-- ---- by the first byte

-- the first bytes of equal lists are equal
pub same_first : (a b : ℕ) (x y bytes : List ℕ) → bytes ≡ a ∷ x → bytes ≡ b ∷ y → a ≡ b
same_first a b x y bytes e f = sym (ap (λ l. get_or l 0 0) e) ∙ ap (λ l. get_or l 0 0) f

first_is : (a : ℕ) (x bytes : List ℕ) → bytes ≡ a ∷ x → get_or bytes 0 0 ≡ a
first_is a x bytes e = ap (λ l. get_or l 0 0) e

-- different letters are not the same
pub letters_differ : (a b : ℕ) → (a == b) ≡ false → a ≡ b → ⊥
letters_differ a b f e = false≢true (sym f ∙ eq-eqb a b e)

-- the first byte of a value
abbrev first_letter : CivilValue → ℕ
first_letter (Daily time) = 100
first_letter (Weekly day time) = 119
first_letter (On date time) = 111
first_letter (Every pace date time) = 101

pub first_of_value : (test : CivilValue → Bool) (bytes : List ℕ) (value : CivilValue) → IsReadLast test spelled bytes value → get_or bytes 0 0 ≡ first_letter value
first_of_value test bytes (Daily time) s = first_is _ _ bytes s.read.whole
first_of_value test bytes (Weekly day time) s = first_is _ _ bytes s.read.whole
first_of_value test bytes (On date time) s = first_is _ _ bytes s.read.whole
first_of_value test bytes (Every pace date time) s = first_is _ _ bytes s.read.whole

-- a value with another first byte is not there
other_first : (test : CivilValue → Bool) (bytes : List ℕ) (letter : ℕ) (value : CivilValue) → get_or bytes 0 0 ≡ letter → (letter == first_letter value) ≡ false → IsReadLast test spelled bytes value → ⊥
other_first test bytes letter value e f s = letters_differ letter (first_letter value) f (sym e ∙ first_of_value test bytes value s)

-- ---- the values that texts of a kind have

-- they are values
value_civil : (kind : CivilText) (value : CivilValue) → is_value_in kind value ≡ true → is_civil value ≡ true
value_civil kind (Daily time) h = h
value_civil kind (Weekly day time) h = h
value_civil kind (On date time) h = h
value_civil kind (Every pace date time) h = (first_of (has_paces kind) (is_civil (Every pace date time)) h).1

pub read_as : (test other : CivilValue → Bool) (bytes : List ℕ) (value : CivilValue) → (test value ≡ true → other value ≡ true) → IsReadLast test spelled bytes value → IsReadLast other spelled bytes value
read_as test other bytes value f s = record { rest = s.rest; read = record { is = f s.read.is; whole = s.read.whole }; ends = s.ends }

pub as_civil : (kind : CivilText) (bytes : List ℕ) (value : CivilValue) → IsSpelledIn kind bytes value → IsSpelledAt bytes value
as_civil kind bytes value s = read_as (is_value_in kind) is_civil bytes value (value_civil kind value) s

-- each text has those that are no paces
pub usual : (kind : CivilText) (value : CivilValue) → (101 == first_letter value) ≡ false → is_civil value ≡ true → is_value_in kind value ≡ true
usual kind (Daily time) f h = h
usual kind (Weekly day time) f h = h
usual kind (On date time) f h = h
usual kind (Every pace date time) f h = absurd (false≢true (sym f))

no_pace_at : (letter : ℕ) (value : CivilValue) → letter ≡ first_letter value → (101 == letter) ≡ false → (101 == first_letter value) ≡ false
no_pace_at letter value e f = ap (λ l. 101 == l) (sym e) ∙ f

pub as_usual : (kind : CivilText) (bytes : List ℕ) (letter : ℕ) (value : CivilValue) → get_or bytes 0 0 ≡ letter → (101 == letter) ≡ false → IsSpelledAt bytes value → IsSpelledIn kind bytes value
as_usual kind bytes letter value e f s = read_as is_civil (is_value_in kind) bytes value (usual kind value (no_pace_at letter value (sym e ∙ first_of_value is_civil bytes value s) f)) s

-- some have those of paces too
with_paces : (kind : CivilText) (value : CivilValue) → has_paces kind ≡ true → is_civil value ≡ true → is_value_in kind value ≡ true
with_paces kind (Daily time) p h = h
with_paces kind (Weekly day time) p h = h
with_paces kind (On date time) p h = h
with_paces kind (Every pace date time) p h = ap (λ b. b && is_civil (Every pace date time)) p ∙ h

pub as_paced : (kind : CivilText) (bytes : List ℕ) (value : CivilValue) → has_paces kind ≡ true → IsSpelledAt bytes value → IsSpelledIn kind bytes value
as_paced kind bytes value p s = read_as is_civil (is_value_in kind) bytes value (with_paces kind value p) s

-- ---- by the first byte

pub only_daily : (kind : CivilText) (bytes : List ℕ) → get_or bytes 0 0 ≡ 100 → ((time : ℕ) → IsSpelledAt bytes (Daily time) → ⊥) → (value : CivilValue) → IsSpelledIn kind bytes value → ⊥
only_daily kind bytes e none (Daily time) s = none time (as_civil kind bytes (Daily time) s)
only_daily kind bytes e none (Weekly day time) s = other_first (is_value_in kind) bytes 100 (Weekly day time) e refl s
only_daily kind bytes e none (On date time) s = other_first (is_value_in kind) bytes 100 (On date time) e refl s
only_daily kind bytes e none (Every pace date time) s = other_first (is_value_in kind) bytes 100 (Every pace date time) e refl s

pub only_weekly : (kind : CivilText) (bytes : List ℕ) → get_or bytes 0 0 ≡ 119 → ((day time : ℕ) → IsSpelledAt bytes (Weekly day time) → ⊥) → (value : CivilValue) → IsSpelledIn kind bytes value → ⊥
only_weekly kind bytes e none (Daily time) s = other_first (is_value_in kind) bytes 119 (Daily time) e refl s
only_weekly kind bytes e none (Weekly day time) s = none day time (as_civil kind bytes (Weekly day time) s)
only_weekly kind bytes e none (On date time) s = other_first (is_value_in kind) bytes 119 (On date time) e refl s
only_weekly kind bytes e none (Every pace date time) s = other_first (is_value_in kind) bytes 119 (Every pace date time) e refl s

pub only_on : (kind : CivilText) (bytes : List ℕ) → get_or bytes 0 0 ≡ 111 → ((date : Date) (time : ℕ) → IsSpelledAt bytes (On date time) → ⊥) → (value : CivilValue) → IsSpelledIn kind bytes value → ⊥
only_on kind bytes e none (Daily time) s = other_first (is_value_in kind) bytes 111 (Daily time) e refl s
only_on kind bytes e none (Weekly day time) s = other_first (is_value_in kind) bytes 111 (Weekly day time) e refl s
only_on kind bytes e none (On date time) s = none date time (as_civil kind bytes (On date time) s)
only_on kind bytes e none (Every pace date time) s = other_first (is_value_in kind) bytes 111 (Every pace date time) e refl s

pub only_paced : (kind : CivilText) (bytes : List ℕ) → get_or bytes 0 0 ≡ 101 → ((pace : Pace) (date : Date) (time : ℕ) → IsSpelledIn kind bytes (Every pace date time) → ⊥) → (value : CivilValue) → IsSpelledIn kind bytes value → ⊥
only_paced kind bytes e none (Daily time) s = other_first (is_value_in kind) bytes 101 (Daily time) e refl s
only_paced kind bytes e none (Weekly day time) s = other_first (is_value_in kind) bytes 101 (Weekly day time) e refl s
only_paced kind bytes e none (On date time) s = other_first (is_value_in kind) bytes 101 (On date time) e refl s
only_paced kind bytes e none (Every pace date time) s = none pace date time s

-- where no value begins with the first byte
pub no_value : (kind : CivilText) (bytes : List ℕ) → (get_or bytes 0 0 ≡ 100 → ⊥) → (get_or bytes 0 0 ≡ 119 → ⊥) → (get_or bytes 0 0 ≡ 111 → ⊥) → (get_or bytes 0 0 ≡ 101 → ⊥) → (value : CivilValue) → IsSpelledIn kind bytes value → ⊥
no_value kind bytes d w o e (Daily time) s = d (first_is _ _ bytes s.read.whole)
no_value kind bytes d w o e (Weekly day time) s = w (first_is _ _ bytes s.read.whole)
no_value kind bytes d w o e (On date time) s = o (first_is _ _ bytes s.read.whole)
no_value kind bytes d w o e (Every pace date time) s = e (first_is _ _ bytes s.read.whole)

-- none of a kind, and so none of any; and what is found
pub match_both : {A : Type 0} (P Q : Type 0) (R S : A → Type 0) (r : Option A) → (P → Q) → ((a : A) → R a → S a) → MatchOption r P R → MatchOption r Q S
match_both P Q R S None f g h = f h
match_both P Q R S (Some a) f g h = g a h

-- texts without paces have no value of one
pub no_paced : (kind : CivilText) (bytes : List ℕ) → has_paces kind ≡ false → (pace : Pace) (date : Date) (time : ℕ) → IsSpelledIn kind bytes (Every pace date time) → ⊥
no_paced kind bytes f pace date time s = false≢true (sym f ∙ (first_of (has_paces kind) (is_civil (Every pace date time)) s.read.is).0)
