-- The numbers in the texts of times of day and dates.
use Rattle.std.proofs.Common.{◌≡◌, ◌<◌, ◌+◌, ◌*◌, ◌/◌, ◌%◌, ℕ, pos, true, List, ◌++◌, drop, arith}
use Rattle.std.specs.Char.{digit_value}
use Rattle.std.specs.Str.Parse.{digits_value}
use Rattle.std.proofs.lemmas.Bool.Decides.{nat_tests}
use Rattle.std.proofs.lemmas.Str.{digit_value_digit}
use Rattle.jiff_core.proofs.CalendarLemmas.{days_in_month_bounds}
use Rattle.lrp_calendar.specs.declared.dates.Date.{Date}
use Rattle.lrp_calendar.specs.Dates.{is_date}
use Rattle.lrp_calendar.specs.Moments.{two_digits, clock_bytes, date_bytes, is_time_of_day}
use Rattle.lrp_calendar.specs.Minutes.{date_in, front_number, time_in}
use Rattle.lrp_calendar.proofs.DateLemmas.{real_parts, same_date}

digit : (d : ℕ) → d < 10 → digit_value (48 + d) ≡ d
digit d low = let e : digit_value (48 + d) + 48 ≡ 48 + d = digit_value_digit (48 + d) (omega arith, omega arith) in omega arith

two : (n : ℕ) → n < 100 → digits_value 10 (two_digits n) ≡ n
two n low = omega (arith, digit (n / 10) (omega arith), digit (n % 10) (omega arith))

four : (n : ℕ) → n < 10000 → digits_value 10 (two_digits (n / 100) ++ two_digits (n % 100)) ≡ n
four n low = omega (arith, digit (n / 100 / 10) (omega arith), digit (n / 100 % 10) (omega arith), digit (n % 100 / 10) (omega arith), digit (n % 100 % 10) (omega arith))

minutes : (x y hour minute time : ℕ) → x ≡ hour → y ≡ minute → 60 * hour + minute ≡ time → 60 * x + y ≡ time
minutes x y hour minute time e f g = omega arith

pub time_in_is : (time : ℕ) (rest : List ℕ) → is_time_of_day time ≡ true → time_in (clock_bytes time ++ rest) ≡ time
time_in_is time rest h =
    let small : time < 1440 = grind (arith, nat_tests) in
    minutes _ _ (time / 60) (time % 60) time (two (time / 60) (omega arith)) (two (time % 60) (omega arith)) (omega arith)

pub date_in_is : (date : Date) (rest : List ℕ) → is_date date ≡ true → date_in (date_bytes date ++ rest) ≡ date
date_in_is date rest h =
    let r = real_parts date h in
    let long = days_in_month_bounds (pos date.year) date.month in
    let year : front_number 4 (date_bytes date ++ rest) ≡ date.year = four date.year (omega (arith, r.year_high)) in
    let month : front_number 2 (drop 5 (date_bytes date ++ rest)) ≡ date.month = two date.month (omega (arith, r.month_high)) in
    let day : front_number 2 (drop 8 (date_bytes date ++ rest)) ≡ date.day = two date.day (omega (arith, r.day_high, long.0)) in
    same_date (date_in (date_bytes date ++ rest)) date year month day
