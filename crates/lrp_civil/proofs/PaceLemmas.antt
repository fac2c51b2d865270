-- Numbers, units and paces at the front of some bytes.
use Rattle.std.proofs.Common.{◌≡◌, ◌<◌, ◌≤◌, ◌-◌, ◌*◌, ◌^◌, ℕ, zero, suc, Bool, true, false, ◌==◌, List, [], ◌∷◌, ◌++◌, length, take, drop, get_or, Result, Ok, Err, refl, sym, ap, ◌∙◌, subst, append_assoc, arith, rules}
use Rattle.std.specs.Prelude.{if◌then◌else◌, nat_lt}
use Rattle.std.specs.Char.{is_ascii_digit}
use Rattle.std.specs.Fmt.{decimal}
use Rattle.std.specs.List.{list_all}
use Rattle.std.specs.Result.{OkIff}
use Rattle.std.specs.Str.{IsUtf8}
use Rattle.std.specs.Str.Parse.{ParsesUnsigned, digits_value}
use Rattle.std.proofs.lemmas.Bool.{false≢true}
use Rattle.std.proofs.lemmas.Bool.Decides.{nat_tests}
use Rattle.std.proofs.lemmas.Fmt.{IsAscii-from_digits, decimal-digits_value, decimal_digit, decimal_injective, decimal_is_IsNumeral, first_decimal}
use Rattle.std.proofs.lemmas.Str.{IsUtf8-from_ascii}
use Rattle.std.proofs.lemmas.Str.Parse.{IsNumeralModel, numerals_by_value, parse_digits}
use Rattle.std.proofs.Math.Seq.{drop-append_seam}
use Rattle.lrp_model.specs.Lexing.{after_run, run}
use Rattle.lrp_text.proofs.Runs.{run_taken, run_whole}
use Rattle.lrp_print.proofs.Scanned.{Stops, decimal_number, run_over}
use Rattle.lrp_civil.specs.declared.values.Pace.{Pace}
use Rattle.lrp_civil.specs.declared.values.Unit.{Unit as UnitOf}
use Rattle.lrp_civil.specs.declared.values.Unit.TheVariants.{Minutes, Hours, Days, Weeks}
use Rattle.lrp_civil.specs.CivilValues.{is_pace, pace_bytes, pace_minutes, unit_minutes, unit_name}
use Rattle.lrp_calendar.specs.Parts.{BeginsAs, BeginsWithNone, IsNumberAt, goes_on}
use Rattle.lrp_civil.proofs.ValueLemmas.{first_of}

-- ---- digits

-- bytes with which no number goes on end a run of digits
stops : (after : List ℕ) → goes_on after ≡ false → Stops is_ascii_digit after
stops [] e = tt
stops (b ∷ bs) e = e

-- after a run of digits no number goes on
by_digit : (b : ℕ) (bs : List ℕ) (d : Bool) → is_ascii_digit b ≡ d → goes_on (after_run is_ascii_digit bs) ≡ false → goes_on (if d then after_run is_ascii_digit bs else b ∷ bs) ≡ false
by_digit b bs true e rest = rest
by_digit b bs false e rest = e

pub run_ends : (bytes : List ℕ) → goes_on (after_run is_ascii_digit bytes) ≡ false
unfolding after_run
run_ends [] = refl
run_ends (b ∷ bs) = by_digit b bs (is_ascii_digit b) refl (run_ends bs)

-- a run of digits is digits
by_all : (b : ℕ) (bs : List ℕ) (d : Bool) → is_ascii_digit b ≡ d → list_all is_ascii_digit (run is_ascii_digit bs) ≡ true → list_all is_ascii_digit (if d then b ∷ run is_ascii_digit bs else []) ≡ true
by_all b bs true e rest = rw e rest
by_all b bs false e rest = refl

pub run_digits : (bytes : List ℕ) → list_all is_ascii_digit (run is_ascii_digit bytes) ≡ true
unfolding run
run_digits [] = refl
run_digits (b ∷ bs) = by_all b bs (is_ascii_digit b) refl (run_digits bs)

-- the bytes before those after the digits
pub digits_are : (bytes after : List ℕ) → after ≡ after_run is_ascii_digit bytes → take (length bytes - length after) bytes ≡ run is_ascii_digit bytes
digits_are bytes after e = ap (λ x. take (length bytes - length x) bytes) e ∙ run_taken is_ascii_digit bytes

-- ---- a number at the front

-- what is known of bytes that a number begins
pub record IsRunOf (bytes : List ℕ) (n : ℕ) (after : List ℕ) : Type 0 where
  pub digits : run is_ascii_digit bytes ≡ decimal n
  pub left : after_run is_ascii_digit bytes ≡ after

pub number_run : (bytes : List ℕ) (n : ℕ) (after : List ℕ) → n < 2 ^ 64 → bytes ≡ decimal n ++ after → goes_on after ≡ false → IsRunOf bytes n after
number_run bytes n after small whole ends =
    let k = decimal_number n small in
    let one : run is_ascii_digit (decimal n) ≡ decimal n = ap (run is_ascii_digit) k.is ∙ k.whole ∙ sym k.is in
    let both = run_over is_ascii_digit (decimal n) after one (stops after ends) in
    record { digits = ap (run is_ascii_digit) whole ∙ both.0; left = ap (after_run is_ascii_digit) whole ∙ both.1 }

pub number_unique : (bytes : List ℕ) (n m : ℕ) (x y : List ℕ) → n < 2 ^ 64 → m < 2 ^ 64 → bytes ≡ decimal n ++ x → goes_on x ≡ false → bytes ≡ decimal m ++ y → goes_on y ≡ false → (n ≡ m) × (x ≡ y)
number_unique bytes n m x y small low e f g h =
    let a = number_run bytes n x small e f in
    let b = number_run bytes m y low g h in
    (decimal_injective n m small low (sym a.digits ∙ b.digits), sym a.left ∙ b.left)

pub number_value : (n : ℕ) → n < 2 ^ 64 → digits_value 10 (decimal n) ≡ n
number_value n small = (decimal_is_IsNumeral n small).1

-- the digits that are not empty and don't begin with 0, and the bytes after them
numerals : IsNumeralModel (λ ds. list_all is_ascii_digit ds ≡ true) (digits_value 10)
numerals = numerals_by_value (λ ds. list_all is_ascii_digit ds ≡ true) (search rules)

pub number_found : (bytes digits after : List ℕ) (n : ℕ) → digits ≡ run is_ascii_digit bytes → after ≡ after_run is_ascii_digit bytes → 0 < length digits → (get_or digits 0 0 ≡ 48 → ⊥) → n ≡ digits_value 10 digits → n < 2 ^ 64 → IsNumberAt bytes n after
number_found bytes digits after n d b some first value small =
    let all : list_all is_ascii_digit digits ≡ true = ap (list_all is_ascii_digit) d ∙ run_digits bytes in
    let is : decimal n ≡ digits = ap decimal value ∙ decimal-digits_value numerals digits all some (λ z. absurd (first z)) (subst (λ x. x < 2 ^ 64) value small) in
    let zero_is : n ≡ 0 → ⊥ = λ z. first (ap (λ ds. get_or ds 0 0) (sym is ∙ ap decimal z ∙ decimal_digit 0 (omega arith))) in
    record {
      positive = positive_of n zero_is;
      small = small;
      whole = sym (run_whole is_ascii_digit bytes) ∙ ap (λ ds. ds ++ after_run is_ascii_digit bytes) (sym d ∙ sym is) ∙ ap (λ x. decimal n ++ x) (sym b);
      ends = ap goes_on b ∙ run_ends bytes;
    }
  where
    positive_of : (n : ℕ) → (n ≡ 0 → ⊥) → 1 ≤ n
    positive_of zero h = absurd (h refl)
    positive_of (suc n) h = omega arith

-- none
pub no_digits : (bytes digits : List ℕ) → digits ≡ run is_ascii_digit bytes → length digits ≡ 0 → (n : ℕ) (after : List ℕ) → IsNumberAt bytes n after → ⊥
no_digits bytes digits d none n after k =
    let r = number_run bytes n after k.small k.whole k.ends in
    let some : 0 < length (decimal n) = (decimal_is_IsNumeral n k.small).0.0 in
    let e : digits ≡ decimal n = d ∙ r.digits in
    let size : length digits ≡ length (decimal n) = ap length e in
    absurd (omega (arith, some, size, none))

pub no_zero : (bytes digits : List ℕ) → digits ≡ run is_ascii_digit bytes → get_or digits 0 0 ≡ 48 → (n : ℕ) (after : List ℕ) → IsNumberAt bytes n after → ⊥
no_zero bytes digits d first n after k =
    let r = number_run bytes n after k.small k.whole k.ends in
    let e : get_or digits 0 0 ≡ get_or (decimal n) 0 0 = ap (λ ds. get_or ds 0 0) (d ∙ r.digits) in
    let high : 48 < get_or (decimal n) 0 0 = first_decimal n k.positive k.small in
    absurd (omega (arith, high, e, first))

pub no_large : (bytes digits : List ℕ) → digits ≡ run is_ascii_digit bytes → 2 ^ 64 ≤ digits_value 10 digits → (n : ℕ) (after : List ℕ) → IsNumberAt bytes n after → ⊥
no_large bytes digits d large n after k =
    let r = number_run bytes n after k.small k.whole k.ends in
    let e : digits_value 10 digits ≡ n = ap (digits_value 10) (d ∙ r.digits) ∙ number_value n k.small in
    let small = k.small in
    absurd (omega (arith, large, e, small))

-- digits are UTF-8
pub digits_utf8 : (ds : List ℕ) → list_all is_ascii_digit ds ≡ true → IsUtf8 ds
digits_utf8 ds h = IsUtf8-from_ascii ds (IsAscii-from_digits ds (numerals.to ds h))

-- what is parsed of digits
pub parsed_ok : {E : Type 0} (ds : List ℕ) (r : Result ℕ E) (n : ℕ) → ParsesUnsigned 64 10 ds r → list_all is_ascii_digit ds ≡ true → r ≡ Ok n → (n ≡ digits_value 10 ds) × (n < 2 ^ 64)
parsed_ok {E} ds r n h d e =
    let k : OkIff {E = E} (Ok n) ((0 < length ds) × (digits_value 10 ds < 2 ^ 64)) (digits_value 10 ds) = subst (λ s. OkIff s ((0 < length ds) × (digits_value 10 ds < 2 ^ 64)) (digits_value 10 ds)) e (parse_digits numerals 64 ds r h d) in
    (k.1, subst (λ m. m < 2 ^ 64) (sym k.1) k.0.1)

pub parsed_err : {E : Type 0} (ds : List ℕ) (r : Result ℕ E) (x : E) → ParsesUnsigned 64 10 ds r → list_all is_ascii_digit ds ≡ true → 0 < length ds → r ≡ Err x → 2 ^ 64 ≤ digits_value 10 ds
parsed_err {E} ds r x h d some e =
    let k : OkIff {T = ℕ} (Err x) ((0 < length ds) × (digits_value 10 ds < 2 ^ 64)) (digits_value 10 ds) = subst (λ s. OkIff s ((0 < length ds) × (digits_value 10 ds < 2 ^ 64)) (digits_value 10 ds)) e (parse_digits numerals 64 ds r h d) in
    large (digits_value 10 ds) (λ small. k (some, small))
  where
    large : (n : ℕ) → (n < 2 ^ 64 → ⊥) → 2 ^ 64 ≤ n
    large n h = grind (arith, h)

-- ---- a unit

abbrev pub unit_by : ℕ → UnitOf
unit_by b = if b == 109 then Minutes else (if b == 104 then Hours else (if b == 100 then Days else Weeks))

unit_back : (u : UnitOf) (x : List ℕ) → unit_by (get_or (unit_name u ++ x) 0 0) ≡ u
unit_back Minutes x = refl
unit_back Hours x = refl
unit_back Days x = refl
unit_back Weeks x = refl

pub unit_unique : (u w : UnitOf) (x y : List ℕ) → unit_name u ++ x ≡ unit_name w ++ y → (u ≡ w) × (x ≡ y)
unit_unique u w x y e =
    let same : u ≡ w = sym (unit_back u x) ∙ ap (λ bytes. unit_by (get_or bytes 0 0)) e ∙ unit_back w y in
    let rest : x ≡ y = sym (drop-append_seam (unit_name u) x) ∙ ap (λ bytes. drop (length (unit_name u)) bytes) e ∙ ap (λ v. drop (length (unit_name v)) (unit_name w ++ y)) same ∙ drop-append_seam (unit_name w) y in
    (same, rest)

-- the unit that may stand there, by its first letter
pub unit_begun : (bytes : List ℕ) (letter : ℕ) → get_or bytes 0 0 ≡ letter → (u : UnitOf) (after : List ℕ) → bytes ≡ unit_name u ++ after → u ≡ unit_by letter
unit_begun bytes letter e u after h = sym (unit_back u after) ∙ ap (λ x. unit_by (get_or x 0 0)) (sym h) ∙ ap unit_by e

pub no_letter : (bytes : List ℕ) → (get_or bytes 0 0 ≡ 109 → ⊥) → (get_or bytes 0 0 ≡ 104 → ⊥) → (get_or bytes 0 0 ≡ 100 → ⊥) → (get_or bytes 0 0 ≡ 119 → ⊥) → (u : UnitOf) (after : List ℕ) → bytes ≡ unit_name u ++ after → ⊥
no_letter bytes m h d w Minutes after e = m (ap (λ x. get_or x 0 0) e)
no_letter bytes m h d w Hours after e = h (ap (λ x. get_or x 0 0) e)
no_letter bytes m h d w Days after e = d (ap (λ x. get_or x 0 0) e)
no_letter bytes m h d w Weeks after e = w (ap (λ x. get_or x 0 0) e)

pub unit_some : (u : UnitOf) → 1 ≤ unit_minutes u
unit_some Minutes = omega arith
unit_some Hours = omega arith
unit_some Days = omega arith
unit_some Weeks = omega arith

-- ---- a pace

-- a pace has one unit or more, and at most 2^62 minutes
pub record HasSize (pace : Pace) : Type 0 where
  pub positive : 1 ≤ pace.number
  pub small : pace.number < 2 ^ 64
  pub low : 1 ≤ pace_minutes pace
  pub high : pace_minutes pace ≤ 4611686018427387904

pub pace_size : (pace : Pace) → is_pace pace ≡ true → HasSize pace
pace_size pace h =
    let k = first_of (nat_lt 0 pace.number) (nat_lt (pace_minutes pace) 4611686018427387905) h in
    let some : 1 ≤ pace.number = grind (arith, nat_tests, k.0) in
    let few : pace_minutes pace ≤ 4611686018427387904 = grind (arith, nat_tests, k.1) in
    by pace.number pace.unit some few
  where
    by : (n : ℕ) (u : UnitOf) → 1 ≤ n → n * unit_minutes u ≤ 4611686018427387904 → HasSize (record { number = n; unit = u })
    by n Minutes some few = record { positive = some; small = omega (arith, few); low = omega (arith, some); high = few }
    by n Hours some few = record { positive = some; small = omega (arith, few); low = omega (arith, some); high = few }
    by n Days some few = record { positive = some; small = omega (arith, few); low = omega (arith, some); high = few }
    by n Weeks some few = record { positive = some; small = omega (arith, few); low = omega (arith, some); high = few }

-- the bytes of a pace, with others after them
pub pace_whole : (pace : Pace) (after : List ℕ) → pace_bytes pace ++ after ≡ decimal pace.number ++ (32 ∷ (unit_name pace.unit ++ after))
pace_whole pace after = append_assoc (decimal pace.number) (32 ∷ unit_name pace.unit) after

-- a pace at the front is a number, a blank and a unit
pub pace_number : (bytes : List ℕ) (pace : Pace) (after : List ℕ) → BeginsAs is_pace pace_bytes bytes pace after → IsNumberAt bytes pace.number (32 ∷ (unit_name pace.unit ++ after))
pace_number bytes pace after k =
    let size = pace_size pace k.is in
    record { positive = size.positive; small = size.small; whole = k.whole ∙ pace_whole pace after; ends = refl }

pub number_same : (bytes : List ℕ) (n m : ℕ) (x y : List ℕ) → IsNumberAt bytes n x → IsNumberAt bytes m y → (n ≡ m) × (x ≡ y)
number_same bytes n m x y a b = number_unique bytes n m x y a.small b.small a.whole a.ends b.whole b.ends

pub pace_unique : (bytes : List ℕ) (p q : Pace) (x y : List ℕ) → BeginsAs is_pace pace_bytes bytes p x → BeginsAs is_pace pace_bytes bytes q y → (p ≡ q) × (x ≡ y)
pace_unique bytes p q x y a b =
    let n = number_same bytes p.number q.number (32 ∷ (unit_name p.unit ++ x)) (32 ∷ (unit_name q.unit ++ y)) (pace_number bytes p x a) (pace_number bytes q y b) in
    let u = unit_unique p.unit q.unit x y (cc n.1) in
    (ap (λ (k : ℕ). record { number = k; unit = p.unit }) n.0 ∙ ap (λ (v : UnitOf). record { number = q.number; unit = v }) u.0, u.1)

-- bytes that begin with no pace
pub no_number : (bytes : List ℕ) → ((n : ℕ) (after : List ℕ) → IsNumberAt bytes n after → ⊥) → BeginsWithNone is_pace pace_bytes bytes
no_number bytes none = λ pace after k. none pace.number (32 ∷ (unit_name pace.unit ++ after)) (pace_number bytes pace after k)

pub no_blank : (bytes left : List ℕ) (n : ℕ) → IsNumberAt bytes n left → ((after : List ℕ) → left ≡ 32 ∷ after → ⊥) → BeginsWithNone is_pace pace_bytes bytes
no_blank bytes left n found none = λ pace after k.
    let same = number_same bytes n pace.number left (32 ∷ (unit_name pace.unit ++ after)) found (pace_number bytes pace after k) in
    none (unit_name pace.unit ++ after) same.1

pub no_unit : (bytes left rest : List ℕ) (n : ℕ) → IsNumberAt bytes n left → left ≡ 32 ∷ rest → BeginsWithNone (λ (u : UnitOf). true) unit_name rest → BeginsWithNone is_pace pace_bytes bytes
no_unit bytes left rest n found e none = λ pace after k.
    let same = number_same bytes n pace.number left (32 ∷ (unit_name pace.unit ++ after)) found (pace_number bytes pace after k) in
    none pace.unit after (record { is = refl; whole = cc (sym e ∙ same.1) })

pub no_pace : (bytes left rest more : List ℕ) (n : ℕ) (u : UnitOf) → IsNumberAt bytes n left → left ≡ 32 ∷ rest → rest ≡ unit_name u ++ more → is_pace (record { number = n; unit = u }) ≡ false → BeginsWithNone is_pace pace_bytes bytes
no_pace bytes left rest more n u found e f none = λ pace after k.
    let same = number_same bytes n pace.number left (32 ∷ (unit_name pace.unit ++ after)) found (pace_number bytes pace after k) in
    let units = unit_unique u pace.unit more after (sym f ∙ cc (sym e ∙ same.1)) in
    let is : record { number = n; unit = u } ≡ pace = ap (λ (k : ℕ). record { number = k; unit = u }) same.0 ∙ ap (λ (v : UnitOf). record { number = pace.number; unit = v }) units.0 in
    false≢true (sym none ∙ ap is_pace is ∙ k.is)

pub pace_found : (bytes left rest more : List ℕ) (n : ℕ) (u : UnitOf) (pace : Pace) → IsNumberAt bytes n left → left ≡ 32 ∷ rest → rest ≡ unit_name u ++ more → pace ≡ record { number = n; unit = u } → is_pace pace ≡ true → BeginsAs is_pace pace_bytes bytes pace more
pace_found bytes left rest more n u pace found e f is h = record {
  is = h;
  whole = found.whole ∙ ap (λ x. decimal n ++ x) (e ∙ ap (λ x. 32 ∷ x) f) ∙ sym (pace_whole (record { number = n; unit = u }) more) ∙ ap (λ p. pace_bytes p ++ more) (sym is);
}
