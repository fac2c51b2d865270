-- What `jiff` prints of dates and times of day.
use Rattle.std.proofs.Common.{◌≡◌, ◌≤◌, ◌/◌, ℕ, ℤ, pos, Bool, false, None, Option, List, [], ◌∷◌, ◌++◌, length, take, codes, sym, ap, ◌∙◌, arith}
use Rattle.std.proofs.lemmas.List.{length-take}
use Rattle.jiff_core.specs.declared.civil.date.Date.{Date as CivilDate}
use Rattle.jiff_core.specs.declared.civil.datetime.DateTime.{DateTime as CivilDateTime}
use Rattle.jiff_core.specs.declared.civil.time.Time.{Time as CivilTime}
use Rattle.jiff_fmt.specs.declared.temporal.printer.DateTimePrinter.{DateTimePrinter}
use Rattle.jiff_fmt.specs.Printer.{options}
use Rattle.jiff_fmt.specs.Printer as printed
use Rattle.jiff_fmt.specs.Text.{date_text, datetime_text, pad2, time_text, year_text}
use Rattle.lrp_calendar.specs.declared.dates.Date.{Date}
use Rattle.lrp_calendar.specs.Dates.{IsCivil, date_of}
use Rattle.lrp_calendar.specs.Moments.{IsClock, IsMoment, clock_bytes, date_bytes, day_of, moment_bytes, time_of_day}

-- a front of that length
pub long_front : (n : ℕ) (whole front : List ℕ) → take n whole ≡ front → length front ≡ n → n ≤ length whole
long_front n whole front e size = omega (arith, length-take n whole, ap length e, size)

-- the text of a date by its numbers
abbrev numbers_text : ℤ → ℕ → ℕ → List ℕ
numbers_text year month day = year_text year ++ 45 ∷ [] ++ pad2 month ++ 45 ∷ [] ++ pad2 day

pub date_printed : (date : Date) (civil : CivilDate) → IsCivil date civil → date_text civil ≡ date_bytes date
date_printed date civil is =
    ap (λ year. numbers_text year civil.month civil.day) (sym is.year)
    ∙ ap (λ month. numbers_text (pos date.year) month civil.day) (sym is.month)
    ∙ ap (λ day. numbers_text (pos date.year) date.month day) (sym is.day)

-- the text of a time before its seconds
abbrev clock_text : ℕ → ℕ → List ℕ
clock_text hour minute = pad2 hour ++ 58 ∷ pad2 minute

clock_is : (time : ℕ) (civil : CivilTime) → IsClock time civil → clock_text civil.hour civil.minute ≡ clock_bytes time
clock_is time civil is =
    ap (λ hour. clock_text hour civil.minute) is.hour ∙ ap (λ minute. clock_text (time / 60) minute) is.minute

pub time_printed : (time : ℕ) (civil : CivilTime) (precision : Option ℕ) → IsClock time civil → take 5 (time_text precision civil) ≡ clock_bytes time
time_printed time civil precision is = clock_is time civil is

-- the text of a date and a time before the seconds
pub moment_printed : (x : ℤ) (civil : CivilDateTime) → IsMoment x civil → take 16 (datetime_text false 32 None civil) ≡ moment_bytes x
moment_printed x civil is =
    ap (λ date. take 16 (date ++ 32 ∷ time_text None civil.time)) (date_printed (date_of (day_of x)) civil.date is.date)
    ∙ ap (λ clock. date_bytes (date_of (day_of x)) ++ (codes " " ++ clock)) (clock_is (time_of_day x) civil.time is.clock)

-- what a printer of this separator prints
pub printed_with_blank : (fresh printer : DateTimePrinter) (civil : CivilDateTime) → options fresh ≡ (false, 84, None) → options printer ≡ (fresh.lowercase, 32, fresh.precision)
    → printed.datetime_text printer civil ≡ datetime_text false 32 None civil
printed_with_blank fresh printer civil e f =
    let same : options printer ≡ (false, 32, None) = f ∙ ap (λ (o : Bool × ℕ × Option ℕ). (o.0, 32, o.2)) e in
    ap (λ (o : Bool × ℕ × Option ℕ). datetime_text o.0 o.1 o.2 civil) same
