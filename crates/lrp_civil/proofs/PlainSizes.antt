-- A plain value is no longer than its civil value, and of one line.
use Rattle.std.proofs.Common.{◌≡◌, ◌≤◌, ◌<◌, ◌+◌, pow-add, sym, subst, List, ◌-◌, ◌*◌, ◌/◌, ◌%◌, ◌^◌, ℕ, zero, suc, ℤ, pos, negsuc, neg_ℤ, ◌≤ℤ◌, ◌<ℤ◌, true, false, ◌==◌, [], ◌∷◌, ◌++◌, length, replicate, refl, ap, ◌∙◌, codes, arith}
use Rattle.std.specs.Fmt.{decimal, signed_decimal}
use Rattle.std.specs.Int.{int_rem_euclid}
use Rattle.std.proofs.lemmas.Bool.Decides.{nat_tests}
use Rattle.std.proofs.lemmas.Fmt.{decimal_by_steps, decimal_nonempty, length-decimal-le}
use Rattle.std.proofs.Math.Nat.{mod-eq_of_lt}
use Rattle.std.proofs.lemmas.Int.{int_rem_euclid_is}
use Rattle.std.proofs.lemmas.List.{length-append, length-replicate}
use Rattle.jiff_core.proofs.SignedLemmas.{signed_arith}
use Rattle.lrp_model.specs.Printed.{point_bytes}
use Rattle.lrp_text.proofs.Scans.{OneLine}
use Rattle.lrp_calendar.specs.declared.dates.Date.{Date}
use Rattle.lrp_civil.specs.declared.values.CivilValue.{CivilValue}
use Rattle.lrp_civil.specs.declared.values.CivilValue.TheVariants.{Daily, Weekly, On, Every}
use Rattle.lrp_civil.specs.declared.values.Pace.{Pace}
use Rattle.lrp_civil.specs.declared.values.Unit.{Unit as UnitOf}
use Rattle.lrp_civil.specs.declared.values.Unit.TheVariants.{Minutes, Hours, Days, Weeks}
use Rattle.lrp_calendar.specs.Dates.{is_date, day_number}
use Rattle.lrp_calendar.specs.Moments.{clock_bytes, date_bytes, minute_at, two_digits, is_time_of_day}
use Rattle.lrp_civil.specs.CivilValues.{day_name, is_civil, is_pace, is_weekday, pace_bytes, pace_minutes, padded_bytes, plain_bytes, spelled, unit_minutes, unit_name}
use Rattle.lrp_calendar.proofs.DateLemmas.{real_day}
use Rattle.lrp_calendar.proofs.MomentLemmas.{minute_size}
use Rattle.lrp_theory.proofs.Modulo.{rem_high, rem_low}
use Rattle.lrp_civil.proofs.EveryLemmas.{tests_of}
use Rattle.lrp_civil.proofs.PaceLemmas.{pace_size}
use Rattle.lrp_civil.proofs.ValueLemmas.{first_of}
use Rattle.lrp_civil.proofs.Weekdays.{name_line, name_size}

-- ---- numbers

no_feed : (b : ℕ) → 11 ≤ b → (b == 10) ≡ false
no_feed b h = grind (arith, nat_tests)

pub line_append : (a b : List ℕ) → OneLine a → OneLine b → OneLine (a ++ b)
line_append [] b h k = k
line_append (x ∷ a) b h k = (h.0, line_append a b h.1 k)

digit_line : (d : ℕ) → OneLine ((48 + d) ∷ [])
digit_line d = (no_feed (48 + d) (omega arith), tt)

decimal_line : (n : ℕ) → n < 2 ^ 64 → OneLine (decimal n)
decimal_line n h = decimal_by_steps (λ m ds. OneLine ds) (λ m lt. digit_line m) (λ m ds lt k. line_append ds ((48 + m % 10) ∷ []) k (digit_line (m % 10))) n h

-- ---- points

-- an offset within its period
residue : (n k : ℕ) → n < k → int_rem_euclid (pos n) (pos k) ≡ pos n
residue n k h = int_rem_euclid_is (pos n) (pos k) k 0 n (omega arith) refl (omega (arith, signed_arith)) ∙ ap pos (mod-eq_of_lt h)

pub point_is : (n k : ℕ) → n < k → point_bytes (record { offset = pos n; period = pos k }) ≡ decimal n ++ (codes "+" ++ (decimal k ++ codes "n"))
point_is n k h = ap (λ z. signed_decimal z ++ (codes "+" ++ (decimal k ++ codes "n"))) (residue n k h)

point_size : (n k a b : ℕ) → n < k → 0 < a → 0 < b → n < 10 ^ a → k < 10 ^ b → k < 2 ^ 64 → length (point_bytes (record { offset = pos n; period = pos k })) ≤ a + b + 2
point_size n k a b h p q l m small =
    let first = length-decimal-le a n p l (omega arith) in
    let last = length-decimal-le b k q m small in
    rw (point_is n k h) (omega (arith, length-append (decimal n) (codes "+" ++ (decimal k ++ codes "n")), length-append (decimal k) (codes "n")))

point_line : (n k : ℕ) → n < k → k < 2 ^ 64 → OneLine (point_bytes (record { offset = pos n; period = pos k }))
point_line n k h small =
    rw (point_is n k h) (line_append (decimal n) (codes "+" ++ (decimal k ++ codes "n")) (decimal_line n (omega arith)) (refl, line_append (decimal k) (codes "n") (decimal_line k small) (refl, tt)))

-- ---- instants

signed_size : (z : ℤ) → neg_ℤ (pos 9000000000) ≤ℤ z → z ≤ℤ pos 9000000000 → length (signed_decimal z) ≤ 11
signed_size (pos n) low high = let s = length-decimal-le 10 n (omega arith) (omega (arith, signed_arith)) (omega (arith, signed_arith)) in omega arith
signed_size (negsuc n) low high = let s = length-decimal-le 10 (suc n) (omega arith) (omega (arith, signed_arith)) (omega (arith, signed_arith)) in omega arith

signed_line : (z : ℤ) → neg_ℤ (pos 9000000000) ≤ℤ z → z ≤ℤ pos 9000000000 → OneLine (signed_decimal z)
signed_line (pos n) low high = decimal_line n (omega (arith, signed_arith))
signed_line (negsuc n) low high = (refl, decimal_line (suc n) (omega (arith, signed_arith)))

-- ---- points of paces

-- a number is below the power of ten that its digits count
below_digits : (n : ℕ) → n < 2 ^ 64 → n < 10 ^ length (decimal n)
below_digits n h = decimal_by_steps (λ m ds. m < 10 ^ length ds) (λ m lt. one m lt) (λ m ds lt k. more m ds k) n h
  where
    one : (m : ℕ) → m < 10 → m < 10 ^ length ((48 + m) ∷ [])
    one m lt = omega (arith, lt)

    more : (m : ℕ) (ds : List ℕ) → m / 10 < 10 ^ length ds → m < 10 ^ length (ds ++ (48 + m % 10) ∷ [])
    more m ds k =
        let size : length (ds ++ (48 + m % 10) ∷ []) ≡ length ds + 1 = length-append ds ((48 + m % 10) ∷ []) in
        let power : 10 ^ (length ds + 1) ≡ 10 ^ length ds * 10 = pow-add 10 (length ds) 1 in
        subst (λ l. m < 10 ^ l) (sym size) (subst (λ x. m < x) (sym power) (omega (arith, k)))

-- a number times one below a power
times_below : (n k a b : ℕ) → n < 10 ^ a → k ≤ 10 ^ b → 1 ≤ k → n * k < 10 ^ (a + b)
times_below n k a b h low some = subst (λ x. n * k < x) (sym (pow-add 10 a b)) (product n k (10 ^ a) (10 ^ b) h low some)
  where
    product : (n k p q : ℕ) → n < p → k ≤ q → 1 ≤ k → n * k < p * q
    product n k p q h low some = grind (arith, h, low, some)

-- the residue of a minute
pub natural : (z : ℤ) (k : ℕ) → 0 < k → (r : ℕ) × (int_rem_euclid z (pos k) ≡ pos r) × (r < k)
natural z k some = by (int_rem_euclid z (pos k)) refl (rem_low k z some) (rem_high k z some)
  where
    by : (x : ℤ) → int_rem_euclid z (pos k) ≡ x → pos 0 ≤ℤ x → x <ℤ pos k → (r : ℕ) × (int_rem_euclid z (pos k) ≡ pos r) × (r < k)
    by (pos r) e low high = (r, e, omega (arith, signed_arith, high))
    by (negsuc r) e low high = absurd (omega (arith, signed_arith, low))

-- the plain value of a pace is a point of a residue
pub pace_plain : (pace : Pace) (date : Date) (time r : ℕ) → int_rem_euclid (minute_at date time) (pos (pace_minutes pace)) ≡ pos r → plain_bytes (Every pace date time) ≡ point_bytes (record { offset = pos r; period = pos (pace_minutes pace) })
pace_plain pace date time r e = ap (λ (z : ℤ). point_bytes (record { offset = z; period = pos (pace_minutes pace) })) e

-- a pace is spelled with few bytes
pub pace_short : (pace : Pace) (date : Date) (time : ℕ) → is_civil (Every pace date time) ≡ true → length (pace_bytes pace) ≤ 28
pace_short pace date time h =
    let size = pace_size pace (tests_of pace date time h).real_pace in
    let many : length (decimal pace.number) ≤ 20 = length-decimal-le 20 pace.number (omega arith) (omega (arith, size.small)) size.small in
    let name : length (unit_name pace.unit) ≤ 7 = few pace.unit in
    let whole = length-append (decimal pace.number) (codes " " ++ unit_name pace.unit) in
    omega (arith, many, name, whole)
  where
    few : (u : UnitOf) → length (unit_name u) ≤ 7
    few Minutes = omega arith
    few Hours = omega arith
    few Days = omega arith
    few Weeks = omega arith

every_long : (pace : Pace) (date : Date) (time : ℕ) → length (spelled (Every pace date time)) ≡ length (decimal pace.number) + length (unit_name pace.unit) + 29
every_long pace date time =
    let whole = length-append (pace_bytes pace) (codes " from " ++ (date_bytes date ++ (codes " " ++ clock_bytes time))) in
    let front = length-append (decimal pace.number) (codes " " ++ unit_name pace.unit) in
    omega (arith, whole, front)

-- a unit is short for its minutes
pub record IsUnitOf (u : UnitOf) (b : ℕ) : Type 0 where
  pub some : 1 ≤ unit_minutes u
  pub below : unit_minutes u ≤ 10 ^ b
  pub short : b + b ≤ length (unit_name u) + 5

unit_of : (u : UnitOf) → (b : ℕ) × IsUnitOf u b
unit_of Minutes = (0, record { some = omega arith; below = omega arith; short = omega arith })
unit_of Hours = (2, record { some = omega arith; below = omega arith; short = omega arith })
unit_of Days = (4, record { some = omega arith; below = omega arith; short = omega arith })
unit_of Weeks = (5, record { some = omega arith; below = omega arith; short = omega arith })

every_size : (pace : Pace) (date : Date) (time : ℕ) → is_pace pace ≡ true → length (plain_bytes (Every pace date time)) ≤ length (spelled (Every pace date time))
every_size pace date time h =
    let size = pace_size pace h in
    let k = pace_minutes pace in
    let r = natural (minute_at date time) k (omega (arith, size.low)) in
    let unit = unit_of pace.unit in
    let digits = length (decimal pace.number) in
    let many : digits ≤ 20 = length-decimal-le 20 pace.number (omega arith) (omega (arith, size.small)) size.small in
    let some : 0 < digits = decimal_nonempty pace.number size.small in
    let below : k < 10 ^ (digits + unit.0) = times_below pace.number (unit_minutes pace.unit) digits unit.0 (below_digits pace.number size.small) unit.1.below unit.1.some in
    let point = point_size r.0 k (digits + unit.0) (digits + unit.0) r.2 (omega (arith, some)) (omega (arith, some)) (omega (arith, r.2, below)) below (omega (arith, size.high)) in
    let plain : length (plain_bytes (Every pace date time)) ≡ length (point_bytes (record { offset = pos r.0; period = pos k })) = ap length (pace_plain pace date time r.0 r.1) in
    let short = unit.1.short in
    omega (arith, plain, point, many, short, every_long pace date time)

-- ---- values

-- the size of the minute of a real date
minute_between : (date : Date) (time : ℕ) → is_date date ≡ true → is_time_of_day time ≡ true → (neg_ℤ (pos 9000000000) ≤ℤ minute_at date time) × (minute_at date time ≤ℤ pos 9000000000)
minute_between date time h k =
    let s = minute_size (day_number date) time (real_day date h) k in
    (omega (arith, signed_arith, s.0), omega (arith, signed_arith, s.1, s.2))

-- an offset within a week
week_offset : (day time : ℕ) → time < 1440 → 1440 * ((day + 4) % 7) + time < 10080
week_offset day time h = omega arith

time_low : (time : ℕ) → is_time_of_day time ≡ true → time < 1440
time_low time h = grind (arith, nat_tests)

pub spelled_size : (day time : ℕ) → is_weekday day ≡ true → length (spelled (Weekly day time)) ≡ 16
spelled_size day time h = omega (arith, length-append (day_name day) (codes " " ++ clock_bytes time), name_size day h)

pub spelled_short : (v : CivilValue) → is_civil v ≡ true → length (spelled v) ≤ 64
spelled_short (Daily time) h = omega arith
spelled_short (Weekly day time) h = omega (arith, spelled_size day time (first_of (is_weekday day) (is_time_of_day time) h).0)
spelled_short (On date time) h = omega arith
spelled_short (Every pace date time) h =
    let whole = length-append (pace_bytes pace) (codes " from " ++ (date_bytes date ++ (codes " " ++ clock_bytes time))) in
    let short = pace_short pace date time h in
    omega (arith, whole, short)

pub plain_size : (v : CivilValue) → is_civil v ≡ true → length (plain_bytes v) ≤ length (spelled v)
plain_size (Daily time) h = let low = time_low time h in omega (arith, point_size time 1440 4 4 low (omega arith) (omega arith) (omega arith) (omega arith) (omega arith))
plain_size (Weekly day time) h =
    let k = first_of (is_weekday day) (is_time_of_day time) h in
    let low = week_offset day time (time_low time k.1) in
    omega (arith, spelled_size day time k.0, point_size (1440 * ((day + 4) % 7) + time) 10080 5 5 low (omega arith) (omega arith) (omega arith) (omega arith) (omega arith))
plain_size (On date time) h =
    let k = first_of (is_date date) (is_time_of_day time) h in
    let m = minute_between date time k.0 k.1 in
    omega (arith, signed_size (minute_at date time) m.0 m.1)
plain_size (Every pace date time) h = every_size pace date time (tests_of pace date time h).real_pace

plain_line : (v : CivilValue) → is_civil v ≡ true → OneLine (plain_bytes v)
plain_line (Daily time) h = point_line time 1440 (time_low time h) (omega arith)
plain_line (Weekly day time) h =
    let k = first_of (is_weekday day) (is_time_of_day time) h in
    point_line (1440 * ((day + 4) % 7) + time) 10080 (week_offset day time (time_low time k.1)) (omega arith)
plain_line (On date time) h =
    let k = first_of (is_date date) (is_time_of_day time) h in
    let m = minute_between date time k.0 k.1 in
    signed_line (minute_at date time) m.0 m.1
plain_line (Every pace date time) h =
    let size = pace_size pace (tests_of pace date time h).real_pace in
    let r = natural (minute_at date time) (pace_minutes pace) (omega (arith, size.low)) in
    subst OneLine (sym (pace_plain pace date time r.0 r.1)) (point_line r.0 (pace_minutes pace) r.2 (omega (arith, size.high)))

blank_line : (n : ℕ) → OneLine (replicate n 32)
blank_line zero = tt
blank_line (suc n) = (refl, blank_line n)

pub padded_size : (v : CivilValue) → is_civil v ≡ true → length (padded_bytes v) ≡ length (spelled v)
padded_size v h =
    let n = length (spelled v) - length (plain_bytes v) in
    omega (arith, plain_size v h, length-append (plain_bytes v) (replicate n 32), length-replicate {A = ℕ} n 32)

pub padded_line : (v : CivilValue) → is_civil v ≡ true → OneLine (padded_bytes v)
padded_line v h = line_append (plain_bytes v) (replicate (length (spelled v) - length (plain_bytes v)) 32) (plain_line v h) (blank_line (length (spelled v) - length (plain_bytes v)))

-- ---- what is spelled

digits_line : (n : ℕ) → OneLine (two_digits n)
digits_line n = (no_feed (48 + n / 10) (omega arith), (no_feed (48 + n % 10) (omega arith), tt))

clock_line : (time : ℕ) → OneLine (clock_bytes time)
clock_line time = line_append (two_digits (time / 60)) (codes ":" ++ two_digits (time % 60)) (digits_line (time / 60)) (refl, digits_line (time % 60))

date_line : (d : Date) → OneLine (date_bytes d)
date_line d =
    line_append (two_digits (d.year / 100)) (two_digits (d.year % 100) ++ (codes "-" ++ (two_digits d.month ++ (codes "-" ++ two_digits d.day)))) (digits_line (d.year / 100))
    (line_append (two_digits (d.year % 100)) (codes "-" ++ (two_digits d.month ++ (codes "-" ++ two_digits d.day))) (digits_line (d.year % 100))
    (refl, line_append (two_digits d.month) (codes "-" ++ two_digits d.day) (digits_line d.month) (refl, digits_line d.day)))

unit_line : (u : UnitOf) → OneLine (unit_name u)
unit_line Minutes = (refl, (refl, (refl, (refl, (refl, (refl, (refl, tt)))))))
unit_line Hours = (refl, (refl, (refl, (refl, (refl, tt)))))
unit_line Days = (refl, (refl, (refl, (refl, tt))))
unit_line Weeks = (refl, (refl, (refl, (refl, (refl, tt)))))

pace_line : (pace : Pace) → pace.number < 2 ^ 64 → OneLine (pace_bytes pace)
pace_line pace small = line_append (decimal pace.number) (codes " " ++ unit_name pace.unit) (decimal_line pace.number small) (refl, unit_line pace.unit)

pub spelled_line : (v : CivilValue) → is_civil v ≡ true → OneLine (spelled v)
spelled_line (Daily time) h = line_append (codes "daily ") (clock_bytes time) (refl, (refl, (refl, (refl, (refl, (refl, tt)))))) (clock_line time)
spelled_line (Weekly day time) h =
    let k = first_of (is_weekday day) (is_time_of_day time) h in
    line_append (codes "weekly ") (day_name day ++ (codes " " ++ clock_bytes time)) (refl, (refl, (refl, (refl, (refl, (refl, (refl, tt))))))) (line_append (day_name day) (codes " " ++ clock_bytes time) (name_line day k.0) (refl, clock_line time))
spelled_line (On date time) h = line_append (codes "on ") (date_bytes date ++ (codes " " ++ clock_bytes time)) (refl, (refl, (refl, tt))) (line_append (date_bytes date) (codes " " ++ clock_bytes time) (date_line date) (refl, clock_line time))
spelled_line (Every pace date time) h =
    let size = pace_size pace (tests_of pace date time h).real_pace in
    line_append (codes "every ") (pace_bytes pace ++ (codes " from " ++ (date_bytes date ++ (codes " " ++ clock_bytes time)))) (refl, (refl, (refl, (refl, (refl, (refl, tt))))))
    (line_append (pace_bytes pace) (codes " from " ++ (date_bytes date ++ (codes " " ++ clock_bytes time))) (pace_line pace size.small)
    (line_append (codes " from ") (date_bytes date ++ (codes " " ++ clock_bytes time)) (refl, (refl, (refl, (refl, (refl, (refl, tt)))))) (line_append (date_bytes date) (codes " " ++ clock_bytes time) (date_line date) (refl, clock_line time))))
