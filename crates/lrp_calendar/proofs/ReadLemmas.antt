-- What `jiff` reads of the texts of dates and times of day.
use Rattle.std.proofs.Common.{◌≡◌, ◌<◌, ◌+◌, ◌*◌, ◌/◌, ◌%◌, ℕ, pos, Bool, true, false, ◌==◌, ◌||◌, List, [], ◌∷◌, ◌++◌, Result, Ok, Err, sym, ap, ◌∙◌, arith}
use Rattle.std.specs.Prelude.{unsigned_abs}
use Rattle.std.specs.Str.{IsAscii, IsUtf8}
use Rattle.std.proofs.lemmas.Bool.{false≢true}
use Rattle.std.proofs.lemmas.Bool.Decides.{nat_tests}
use Rattle.std.proofs.lemmas.Str.{IsAscii-append, IsUtf8-from_ascii}
use Rattle.std.proofs.lemmas.Str.Ascii.{IsAscii-cons, IsAscii-nil}
use Rattle.jiff_core.specs.declared.civil.date.Date.{Date as CivilDate}
use Rattle.jiff_core.specs.declared.civil.time.Time.{Time as CivilTime}
use Rattle.jiff_core.specs.declared.error.Error.{Error}
use Rattle.jiff_core.specs.declared.error.Error.TheVariants.{Parse}
use Rattle.jiff_core.specs.declared.error.Syntax.TheVariants as Syntax
use Rattle.jiff_core.specs.declared.error.Bound.TheVariants as Bound
use Rattle.jiff_core.proofs.CalendarLemmas.{days_in_month_bounds}
use Rattle.jiff_fmt.specs.Reader.{field, four_digits, two_digits}
use Rattle.jiff_fmt.specs.Temporal.{DateParts, TimeParts, date_parts, date_spec, date_view, parse_date, parse_time, temporal_datetime, temporal_time, time_parts, time_spec, time_view, year}
use Rattle.jiff_fmt.specs.Text.{pad2}
use Rattle.jiff_fmt.proofs.RoundTrip.{annotations-empty, field-pad2, offset-empty, parse_date-date_text, two_digits-pad2}
use Rattle.lrp_calendar.specs.declared.dates.Date.{Date}
use Rattle.lrp_calendar.specs.Dates.{is_date, date_numbers}
use Rattle.lrp_calendar.specs.Moments.{clock_bytes, date_bytes, is_time_of_day, two_digits as digits_of}
use Rattle.lrp_calendar.proofs.DateLemmas.{civil_date, real_parts, same_date}

-- ---- the texts are UTF-8

digits_ascii : (n : ℕ) → n < 100 → IsAscii (digits_of n)
digits_ascii n small = IsAscii-cons (48 + n / 10) ((48 + n % 10) ∷ []) (omega arith) (IsAscii-cons (48 + n % 10) [] (omega arith) IsAscii-nil)

-- two digits, another byte, and more
then_ascii : (n b : ℕ) (bytes : List ℕ) → n < 100 → b < 128 → IsAscii bytes → IsAscii (digits_of n ++ (b ∷ bytes))
then_ascii n b bytes small low h = IsAscii-append (digits_of n) (b ∷ bytes) (digits_ascii n small) (IsAscii-cons b bytes low h)

pub clock_utf8 : (time : ℕ) → is_time_of_day time ≡ true → IsUtf8 (clock_bytes time)
clock_utf8 time h =
    let small : time < 1440 = grind (arith, nat_tests) in
    IsUtf8-from_ascii (clock_bytes time) (then_ascii (time / 60) 58 (digits_of (time % 60)) (omega arith) (omega arith) (digits_ascii (time % 60) (omega arith)))

pub date_utf8 : (date : Date) → is_date date ≡ true → IsUtf8 (date_bytes date)
date_utf8 date h =
    let r = real_parts date h in
    let long = days_in_month_bounds (pos date.year) date.month in
    let day = digits_ascii date.day (omega (arith, r.day_high, long.0)) in
    let month = then_ascii date.month 45 (digits_of date.day) (omega (arith, r.month_high)) (omega arith) day in
    let year = then_ascii (date.year % 100) 45 (digits_of date.month ++ (45 ∷ digits_of date.day)) (omega arith) (omega arith) month in
    let tail = digits_of (date.year % 100) ++ (45 ∷ (digits_of date.month ++ (45 ∷ digits_of date.day))) in
    IsUtf8-from_ascii (date_bytes date) (IsAscii-append (digits_of (date.year / 100)) tail (digits_ascii (date.year / 100) (omega (arith, r.year_high))) year)

-- ---- values of results

abbrev value_or : {A E : Type 0} → A → Result A E → A
value_or x (Ok y) = y
value_or x (Err e) = x

same_value : {A E : Type 0} (x y : A) → ◌≡◌ {A = Result A E} (Ok x) (Ok y) → x ≡ y
same_value x y e = ap (value_or x) e

abbrev is_value : {A E : Type 0} → Result A E → Bool
is_value (Ok y) = true
is_value (Err e) = false

-- ---- dates

parts_of : Date → DateParts
parts_of date = record { year = pos date.year; month = date.month; day = date.day }

date_read : (date : Date) → is_date date ≡ true → parse_date (date_bytes date) ≡ Ok (parts_of date)
unfolding parts_of civil_date
date_read date h = parse_date-date_text (civil_date date (real_parts date h))

-- what is read of a text that spells a date is that date
read_as : (text : List ℕ) (r : Result CivilDate Error) (s : Result CivilDate Error) (date : Date) → date_view r ≡ parse_date text → r ≡ s → is_date date ≡ true → text ≡ date_bytes date → date_view s ≡ Ok (parts_of date)
read_as text r s date read is h e = ap date_view (sym is) ∙ read ∙ ap parse_date e ∙ date_read date h

pub date_found : (text : List ℕ) (r : Result CivilDate Error) (civil : CivilDate) → date_view r ≡ parse_date text → r ≡ Ok civil → (date : Date) → is_date date ≡ true → text ≡ date_bytes date → date ≡ date_numbers civil
unfolding parts_of
date_found text r civil read is date h e =
    let same : date_parts civil ≡ parts_of date = same_value (date_parts civil) (parts_of date) (read_as text r (Ok civil) date read is h e) in
    same_date date (date_numbers civil) (sym (ap (λ p. unsigned_abs p.year) same)) (sym (ap (λ p. p.month) same)) (sym (ap (λ p. p.day) same))

pub no_date_read : (text : List ℕ) (r : Result CivilDate Error) (x : Error) → date_view r ≡ parse_date text → r ≡ Err x → (date : Date) → is_date date ≡ true → text ≡ date_bytes date → ⊥
no_date_read text r x read is date h e = false≢true (ap is_value (read_as text r (Err x) date read is h e))

-- ---- times of day

clock_parts : ℕ → ℕ → TimeParts
clock_parts hour minute = record { hour = hour; minute = minute; second = 0; subsec = 0 }

-- the text of hours and minutes
abbrev clock_text : ℕ → ℕ → List ℕ
clock_text hour minute = pad2 hour ++ 58 ∷ pad2 minute

clock_spec : (h m : ℕ) → h < 24 → m < 60 → time_spec (clock_text h m) ≡ Ok ((clock_parts h m, true), [])
unfolding time_spec clock_parts
clock_spec h m a b =
    let hour : field Syntax.Hour 0 23 Bound.Hour (clock_text h m) ≡ Ok (h, 58 ∷ pad2 m) = field-pad2 Syntax.Hour 0 23 Bound.Hour h (58 ∷ pad2 m) (omega arith) (omega arith) (omega arith) in
    let minute : field Syntax.Minute 0 59 Bound.Minute (pad2 m) ≡ Ok (m, []) = field-pad2 Syntax.Minute 0 59 Bound.Minute m [] (omega arith) (omega arith) (omega arith) in
    rw (hour, minute)

-- which is no text of a date
no_datetime : (h m : ℕ) → h < 24 → (e : Error) × (temporal_datetime (clock_text h m) ≡ Err e)
unfolding temporal_datetime date_spec year four_digits two_digits
no_datetime h m a =
    let not_plus : ((48 + h / 10) == 43) ≡ false = grind (arith, nat_tests, a) in
    let not_minus : ((48 + h / 10) == 45) ≡ false = grind (arith, nat_tests, a) in
    let first = two_digits-pad2 h (58 ∷ pad2 m) (omega arith) in
    (Parse Syntax.Year, rw (not_plus, not_minus, first))

clock_parsed : (h m : ℕ) → h < 24 → m < 60 → parse_time (clock_text h m) ≡ Ok (clock_parts h m)
unfolding temporal_time
clock_parsed h m a b =
    let no = no_datetime h m a in
    let not_t : (((48 + h / 10) == 84) || ((48 + h / 10) == 116)) ≡ false = grind (arith, nat_tests, a) in
    rw (not_t, no.1, clock_spec h m a b, offset-empty, annotations-empty)

time_read : (time : ℕ) → is_time_of_day time ≡ true → parse_time (clock_bytes time) ≡ Ok (clock_parts (time / 60) (time % 60))
time_read time h =
    let small : time < 1440 = grind (arith, nat_tests) in
    clock_parsed (time / 60) (time % 60) (omega arith) (omega arith)

clock_as : (text : List ℕ) (r s : Result CivilTime Error) (time : ℕ) → time_view r ≡ parse_time text → r ≡ s → is_time_of_day time ≡ true → text ≡ clock_bytes time → time_view s ≡ Ok (clock_parts (time / 60) (time % 60))
clock_as text r s time read is h e = ap time_view (sym is) ∙ read ∙ ap parse_time e ∙ time_read time h

pub time_found : (text : List ℕ) (r : Result CivilTime Error) (civil : CivilTime) → time_view r ≡ parse_time text → r ≡ Ok civil → (time : ℕ) → is_time_of_day time ≡ true → text ≡ clock_bytes time → time ≡ 60 * civil.hour + civil.minute
unfolding clock_parts
time_found text r civil read is time h e =
    let parts = clock_parts (time / 60) (time % 60) in
    let same : time_parts civil ≡ parts = same_value (time_parts civil) parts (clock_as text r (Ok civil) time read is h e) in
    let hour : civil.hour ≡ time / 60 = ap (λ p. p.hour) same in
    let minute : civil.minute ≡ time % 60 = ap (λ p. p.minute) same in
    omega (arith, hour, minute)

pub no_time_read : (text : List ℕ) (r : Result CivilTime Error) (x : Error) → time_view r ≡ parse_time text → r ≡ Err x → (time : ℕ) → is_time_of_day time ≡ true → text ≡ clock_bytes time → ⊥
no_time_read text r x read is time h e = false≢true (ap is_value (clock_as text r (Err x) time read is h e))
