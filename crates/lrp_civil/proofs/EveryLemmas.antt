-- Values of paces at the front of some bytes, part by part.
use Rattle.std.proofs.Common.{◌≡◌, ℕ, Bool, true, ◌&&◌, List, ◌∷◌, ◌++◌, drop, refl, sym, ap, ◌∙◌, codes, append_assoc}
use Rattle.lrp_calendar.specs.declared.dates.Date.{Date}
use Rattle.lrp_civil.specs.declared.values.Pace.{Pace}
use Rattle.lrp_civil.specs.declared.values.CivilValue.TheVariants.{Every}
use Rattle.lrp_calendar.specs.Dates.{is_date}
use Rattle.lrp_calendar.specs.Moments.{clock_bytes, date_bytes, is_time_of_day}
use Rattle.lrp_civil.specs.CivilValues.{is_pace, pace_bytes, spelled}
use Rattle.lrp_calendar.specs.Parts.{BeginsAs, BeginsWithNone, HasNoLast, IsReadLast}
use Rattle.lrp_civil.specs.PlainText.{IsSpelledAt}
use Rattle.lrp_calendar.specs.Minutes.{date_in, time_in}
use Rattle.lrp_calendar.proofs.Numbers.{date_in_is, time_in_is}
use Rattle.lrp_civil.proofs.PaceLemmas.{pace_unique}
use Rattle.lrp_civil.proofs.ValueLemmas.{first_of}

-- what stands after the pace
abbrev pub tail : Date → ℕ → List ℕ → List ℕ
tail date time after = codes " from " ++ (date_bytes date ++ (32 ∷ (clock_bytes time ++ after)))

pub every_whole : (pace : Pace) (date : Date) (time : ℕ) (after : List ℕ) → spelled (Every pace date time) ++ after ≡ codes "every " ++ (pace_bytes pace ++ tail date time after)
every_whole pace date time after = ap (λ x. codes "every " ++ x) (append_assoc (pace_bytes pace) (codes " from " ++ (date_bytes date ++ (codes " " ++ clock_bytes time))) after)

-- its three tests
pub record HasTests (pace : Pace) (date : Date) (time : ℕ) : Type 0 where
  pub real_pace : is_pace pace ≡ true
  pub real_date : is_date date ≡ true
  pub real_time : is_time_of_day time ≡ true

pub tests_of : (pace : Pace) (date : Date) (time : ℕ) → (is_pace pace && is_date date && is_time_of_day time) ≡ true → HasTests pace date time
tests_of pace date time h =
    let k = first_of (is_pace pace && is_date date) (is_time_of_day time) h in
    let l = first_of (is_pace pace) (is_date date) k.0 in
    record { real_pace = l.0; real_date = l.1; real_time = k.1 }

all_tests : (a b c : Bool) → a ≡ true → b ≡ true → c ≡ true → (a && b && c) ≡ true
all_tests a b c e f g = rw (e, f, g) refl

-- the bytes after the word
pub every_rest : (bytes rest : List ℕ) (pace : Pace) (date : Date) (time : ℕ) → bytes ≡ codes "every " ++ rest → (s : IsSpelledAt bytes (Every pace date time)) → BeginsAs is_pace pace_bytes rest pace (tail date time s.rest)
every_rest bytes rest pace date time e s =
    let whole : rest ≡ pace_bytes pace ++ tail date time s.rest = cc (sym e ∙ s.read.whole ∙ every_whole pace date time s.rest) in
    record { is = (tests_of pace date time s.read.is).real_pace; whole = whole }

-- the date and the time after a pace
pub tail_date : (date : Date) (time : ℕ) (after : List ℕ) → is_date date ≡ true → date_in (drop 6 (tail date time after)) ≡ date
tail_date date time after h = date_in_is date (32 ∷ (clock_bytes time ++ after)) h

pub tail_time : (date : Date) (time : ℕ) (after : List ℕ) → is_time_of_day time ≡ true → time_in (drop 17 (tail date time after)) ≡ time
tail_time date time after h = time_in_is time after h

-- ---- values that are not there

pub no_every_pace : (bytes rest : List ℕ) → bytes ≡ codes "every " ++ rest → BeginsWithNone is_pace pace_bytes rest → (pace : Pace) (date : Date) (time : ℕ) → IsSpelledAt bytes (Every pace date time) → ⊥
no_every_pace bytes rest e none = λ pace date time s. none pace (tail date time s.rest) (every_rest bytes rest pace date time e s)

module _ (bytes rest left : List ℕ) (read : Pace) (e : bytes ≡ codes "every " ++ rest) (r : BeginsAs is_pace pace_bytes rest read left) where
  after_pace : (pace : Pace) (date : Date) (time : ℕ) (s : IsSpelledAt bytes (Every pace date time)) → left ≡ tail date time s.rest
  after_pace pace date time s = (pace_unique rest read pace left (tail date time s.rest) r (every_rest bytes rest pace date time e s)).1

  pub no_every_from : ((after : List ℕ) → left ≡ codes " from " ++ after → ⊥) → (pace : Pace) (date : Date) (time : ℕ) → IsSpelledAt bytes (Every pace date time) → ⊥
  no_every_from none = λ pace date time s. none (date_bytes date ++ (32 ∷ (clock_bytes time ++ s.rest))) (after_pace pace date time s)

  module _ (more : List ℕ) (f : left ≡ codes " from " ++ more) where
    after_from : (pace : Pace) (date : Date) (time : ℕ) (s : IsSpelledAt bytes (Every pace date time)) → more ≡ date_bytes date ++ (32 ∷ (clock_bytes time ++ s.rest))
    after_from pace date time s = cc (sym f ∙ after_pace pace date time s)

    pub no_every_date : BeginsWithNone is_date date_bytes more → (pace : Pace) (date : Date) (time : ℕ) → IsSpelledAt bytes (Every pace date time) → ⊥
    no_every_date none = λ pace date time s. none date (32 ∷ (clock_bytes time ++ s.rest)) (record { is = (tests_of pace date time s.read.is).real_date; whole = after_from pace date time s })

    module _ (last : List ℕ) (day : Date) (d : BeginsAs is_date date_bytes more day last) where
      after_date : (pace : Pace) (date : Date) (time : ℕ) (s : IsSpelledAt bytes (Every pace date time)) → last ≡ 32 ∷ (clock_bytes time ++ s.rest)
      after_date pace date time s = cc (sym d.whole ∙ after_from pace date time s)

      pub no_every_blank : ((after : List ℕ) → last ≡ 32 ∷ after → ⊥) → (pace : Pace) (date : Date) (time : ℕ) → IsSpelledAt bytes (Every pace date time) → ⊥
      no_every_blank none = λ pace date time s. none (clock_bytes time ++ s.rest) (after_date pace date time s)

      pub no_every_time : (end : List ℕ) → last ≡ 32 ∷ end → HasNoLast is_time_of_day clock_bytes end → (pace : Pace) (date : Date) (time : ℕ) → IsSpelledAt bytes (Every pace date time) → ⊥
      no_every_time end g none = λ pace date time s.
          let whole : end ≡ clock_bytes time ++ s.rest = cc (sym g ∙ after_date pace date time s) in
          none time (record { rest = s.rest; read = record { is = (tests_of pace date time s.read.is).real_time; whole = whole }; ends = s.ends })

      -- the value that is there
      pub every_found : (end : List ℕ) (time : ℕ) → last ≡ 32 ∷ end → IsReadLast is_time_of_day clock_bytes end time → IsSpelledAt bytes (Every read day time)
      every_found end time g t =
          let from : more ≡ date_bytes day ++ (32 ∷ (clock_bytes time ++ t.rest)) = d.whole ∙ ap (λ x. date_bytes day ++ x) (g ∙ ap (λ x. 32 ∷ x) t.read.whole) in
          let whole : bytes ≡ codes "every " ++ (pace_bytes read ++ tail day time t.rest) = e ∙ ap (λ x. codes "every " ++ x) (r.whole ∙ ap (λ x. pace_bytes read ++ x) (f ∙ ap (λ x. codes " from " ++ x) from)) in
          record {
            rest = t.rest;
            read = record { is = all_tests (is_pace read) (is_date day) (is_time_of_day time) r.is d.is t.read.is; whole = whole ∙ sym (every_whole read day time t.rest) };
            ends = t.ends;
          }
