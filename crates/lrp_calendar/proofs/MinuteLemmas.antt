-- The minute of a word is the one that it spells.
use Rattle.std.proofs.Common.{◌≡◌, ℕ, ℤ, Bool, true, false, ◌&&◌, List, [], ◌∷◌, drop, Option, None, Some, MatchOption, IfNone, refl, sym, ap, ap₂, ◌∙◌, if◌then◌else◌, inl, inr}
use Rattle.std.specs.Str.{bytes_eq}
use Rattle.std.proofs.lemmas.Slice.Eq.{bytes_eq-Decides}
use Rattle.std.proofs.lemmas.Bool.{false≢true}
use Rattle.lrp_calendar.specs.declared.dates.Date.{Date}
use Rattle.lrp_calendar.specs.Dates.{is_date}
use Rattle.lrp_calendar.specs.Moments.{clock_bytes, date_bytes, minute_at, is_time_of_day}
use Rattle.lrp_calendar.specs.Parts.{BeginsWithNone, BeginsAs}
use Rattle.lrp_calendar.specs.Minutes.{SpellsMinute, date_in, minute_by, time_in, word_bytes}
use Rattle.lrp_calendar.proofs.Counts.{either}
use Rattle.lrp_calendar.proofs.Numbers.{date_in_is, time_in_is}

-- ---- words that spell none

pub no_date : (word : List ℕ) → BeginsWithNone is_date date_bytes word → (x : ℤ) → SpellsMinute word x → ⊥
no_date word none = λ x s. none s.date (84 ∷ clock_bytes s.time) (record { is = s.real; whole = s.word_is })

pub no_letter : (word left : List ℕ) (date : Date) → BeginsAs is_date date_bytes word date left → ((after : List ℕ) → left ≡ 84 ∷ after → ⊥) → (x : ℤ) → SpellsMinute word x → ⊥
no_letter word left date r none = λ x s.
    let whole = sym r.whole ∙ s.word_is in
    none (clock_bytes s.time) (cc whole)

pub no_time : (word left rest : List ℕ) (date : Date) → BeginsAs is_date date_bytes word date left → left ≡ 84 ∷ rest → BeginsWithNone is_time_of_day clock_bytes rest → (x : ℤ) → SpellsMinute word x → ⊥
no_time word left rest date r e none = λ x s.
    let whole = sym r.whole ∙ s.word_is in
    none s.time [] (record { is = s.in_day; whole = cc (whole, e) })

-- ---- the one that a word spells

-- the minute of a word by its date and its time
abbrev minute_with : List ℕ → Date → ℕ → Option ℤ
minute_with word date time = if is_date date && is_time_of_day time && bytes_eq word (word_bytes date time) then Some (minute_at date time) else None

by_parts : (word : List ℕ) → minute_by word ≡ minute_with word (date_in word) (time_in (drop 11 word))
unfolding minute_by
by_parts word = refl

all_three : (a b c : Bool) → a ≡ true → b ≡ true → c ≡ true → (a && b && c) ≡ true
all_three a b c e f g = rw (e, f, g) refl

pub minute_is_spelled : (word : List ℕ) (x : ℤ) → SpellsMinute word x → minute_by word ≡ Some x
minute_is_spelled word x s =
    let date : date_in word ≡ s.date = ap date_in s.word_is ∙ date_in_is s.date (84 ∷ clock_bytes s.time) s.real in
    let time : time_in (drop 11 word) ≡ s.time = ap (λ w. time_in (drop 11 w)) s.word_is ∙ time_in_is s.time [] s.in_day in
    let same : bytes_eq word (word_bytes s.date s.time) ≡ true = (bytes_eq-Decides word (word_bytes s.date s.time)).1 s.word_is in
    let yes_all = all_three (is_date s.date) (is_time_of_day s.time) (bytes_eq word (word_bytes s.date s.time)) s.real s.in_day same in
    by_parts word ∙ ap₂ (minute_with word) date time
    ∙ ap (λ b. if b then Some (minute_at s.date s.time) else None) yes_all ∙ ap Some (sym s.minute_is)

-- each of the three
three : (a b c : Bool) → (a && b && c) ≡ true → (a ≡ true) × (b ≡ true) × (c ≡ true)
three true true c h = (refl, refl, h)
three true false c h = absurd (false≢true h)
three false b c h = absurd (false≢true h)

pub minute_is_none : (word : List ℕ) → ((x : ℤ) → SpellsMinute word x → ⊥) → minute_by word ≡ None
minute_is_none word none =
    let date = date_in word in
    let time = time_in (drop 11 word) in
    let test : Bool = is_date date && is_time_of_day time && bytes_eq word (word_bytes date time) in
    elim (either test) [
      | inl e ↦ let k = three (is_date date) (is_time_of_day time) (bytes_eq word (word_bytes date time)) e in
          absurd (none (minute_at date time) (record { date = date; time = time; real = k.0; in_day = k.1; word_is = (bytes_eq-Decides word (word_bytes date time)).0 k.2; minute_is = refl }))
      | inr e ↦ by_parts word ∙ ap (λ b. if b then Some (minute_at date time) else None) e
    ]

-- what the relation says of a result
pub minute_found : (word : List ℕ) (r : Option ℤ) → MatchOption r ((x : ℤ) → SpellsMinute word x → ⊥) (SpellsMinute word) → r ≡ minute_by word
minute_found word None h = sym (minute_is_none word h)
minute_found word (Some x) h = sym (minute_is_spelled word x h)

pub none_found : (word : List ℕ) (r : Option ℤ) → MatchOption r ((x : ℤ) → SpellsMinute word x → ⊥) (SpellsMinute word) → IfNone r ((x : ℤ) → SpellsMinute word x → ⊥)
none_found word None h = h
none_found word (Some x) h = tt
