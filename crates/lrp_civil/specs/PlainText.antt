-- A text with plain values in place of its civil values.
use Rattle.std.specs.Prelude.{◌≡◌, ℕ, zero, suc, ◌+◌, ◌-◌, ◌*◌, nat_eq, find, Bool, true, false, not, ◌&&◌, IsTrue, List, [], ◌∷◌, ◌++◌, length, take, drop, Option, Some, None, MatchOption, if◌then◌else◌}
use Rattle.std.specs.List.{starts_with}
use Rattle.std.specs.Str.{is_utf8}
use Rattle.std.specs.Str.Parse.{digits_value}
use Rattle.lrp_model.specs.Lexing.{Scanned, after, run, scan_in, start}
use Rattle.std.specs.Char.{is_ascii_digit}
use Rattle.lrp_civil.specs.declared.values.Pace.{Pace}
use Rattle.lrp_civil.specs.declared.values.Unit.{Unit as UnitOf}
use Rattle.lrp_calendar.specs.declared.dates.Date.{Date}
use Rattle.lrp_calendar.specs.Minutes.{date_in, time_in}
use Rattle.lrp_civil.specs.declared.plain.Found.{Found}
use Rattle.lrp_civil.specs.declared.values.CivilValue.{CivilValue}
use Rattle.lrp_civil.specs.declared.values.CivilValue.TheVariants.{Daily, Weekly, On, Every}
use Rattle.lrp_civil.specs.declared.values.CivilText.{CivilText}
use Rattle.lrp_civil.specs.declared.values.CivilText.TheVariants.{Database, WideDatabase, WideQuery}
use Rattle.lrp_civil.specs.declared.values.Unit.TheVariants.{Minutes, Hours, Days, Weeks}
use Rattle.lrp_civil.specs.CivilValues.{has_paces, is_civil, is_value_in, spelled, padded_bytes}
use Rattle.lrp_calendar.specs.Parts.{IsReadLast, goes_on}
use Rattle.lrp_civil.specs.Tokens.{after_blanks, is_last}

-- ---- the civil value that stands at the front of some bytes

-- the bytes begin with the civil value as it is spelled, and no number goes on after it
abbrev pub begins : List ℕ → CivilValue → Bool
begins bytes value = is_civil value && starts_with nat_eq bytes (spelled value) && not (goes_on (drop (length (spelled value)) bytes))

-- the same as a relation
abbrev pub IsSpelledAt : List ℕ → CivilValue → Type 0
IsSpelledAt = IsReadLast is_civil spelled

-- the same of the values that texts of a kind have
abbrev pub IsSpelledIn : CivilText → List ℕ → CivilValue → Type 0
IsSpelledIn kind = IsReadLast (is_value_in kind) spelled

-- the value of one kind at the front of the bytes, or none
abbrev pub FindsDaily : List ℕ → Option CivilValue → Type 0
FindsDaily bytes found = MatchOption found ((time : ℕ) → IsSpelledAt bytes (Daily time) → ⊥) (IsSpelledAt bytes)

abbrev pub FindsWeekly : List ℕ → Option CivilValue → Type 0
FindsWeekly bytes found = MatchOption found ((day time : ℕ) → IsSpelledAt bytes (Weekly day time) → ⊥) (IsSpelledAt bytes)

abbrev pub FindsOn : List ℕ → Option CivilValue → Type 0
FindsOn bytes found = MatchOption found ((date : Date) (time : ℕ) → IsSpelledAt bytes (On date time) → ⊥) (IsSpelledAt bytes)

-- a value of a pace, where texts of the kind have them
abbrev pub FindsPaced : CivilText → List ℕ → Option CivilValue → Type 0
FindsPaced kind bytes found = MatchOption found ((pace : Pace) (date : Date) (time : ℕ) → IsSpelledIn kind bytes (Every pace date time) → ⊥) (IsSpelledIn kind bytes)

abbrev pub FindsEvery : List ℕ → Option CivilValue → Type 0
FindsEvery bytes found = MatchOption found ((pace : Pace) (date : Date) (time : ℕ) → IsSpelledAt bytes (Every pace date time) → ⊥) (IsSpelledAt bytes)

-- the values that could stand there, with the numbers that stand at their places
abbrev pub possible : List ℕ → List CivilValue
possible bytes =
    let weekly_on = λ (day : ℕ). Weekly day (time_in (drop 11 bytes)) in
    Daily (time_in (drop 6 bytes)) ∷ On (date_in (drop 3 bytes)) (time_in (drop 14 bytes))
    ∷ weekly_on 0 ∷ weekly_on 1 ∷ weekly_on 2 ∷ weekly_on 3 ∷ weekly_on 4 ∷ weekly_on 5 ∷ weekly_on 6 ∷ []

-- the same with a pace: a number after the first word, a unit, and the date and the time at the end
abbrev pub paces : List ℕ → List CivilValue
paces bytes =
    let digits = run is_ascii_digit (drop 6 bytes) in
    let rest = drop (7 + length digits) bytes in
    let paced = λ (unit : UnitOf) (size : ℕ). Every (record { number = digits_value 10 digits; unit = unit }) (date_in (drop (size + 6) rest)) (time_in (drop (size + 17) rest)) in
    paced Minutes 7 ∷ paced Hours 5 ∷ paced Days 4 ∷ paced Weeks 5 ∷ []

-- which values a text of some kind may have, and whether its symbols are those of the wide language
abbrev pub possible_in : CivilText → List ℕ → List CivilValue
possible_in kind bytes = if has_paces kind then possible bytes ++ paces bytes else possible bytes

abbrev pub signs_of : CivilText → Bool
signs_of Database = false
signs_of WideDatabase = false
signs_of WideQuery = true

-- and the one that stands there
unfoldable pub value_in : CivilText → List ℕ → Option CivilValue
value_in kind bytes = find (begins bytes) (possible_in kind bytes)

-- ---- the text

-- the blanks and comments that come first
abbrev pub blanks : List ℕ → List ℕ
blanks bytes = take (length bytes - length (after_blanks bytes)) bytes

-- the plain text from a token on: the token, and what is made of the rest; from the end or a bad byte on, all stays
abbrev pub plain_token : (List ℕ → List ℕ) → List ℕ → Scanned → List ℕ
plain_token rewritten bytes s = if is_last s.token then bytes else s.taken ++ rewritten s.left

-- a civil value is written as its plain value
abbrev pub plain_value : CivilText → (List ℕ → List ℕ) → List ℕ → Option CivilValue → List ℕ
plain_value kind rewritten bytes (Some value) = padded_bytes value ++ rewritten (drop (length (spelled value)) bytes)
plain_value kind rewritten bytes None = plain_token rewritten bytes (scan_in (signs_of kind) bytes)

-- the plain text of bytes that begin after a token; each turn takes a token or a civil value
unfoldable pub plain_from : CivilText → ℕ → List ℕ → List ℕ
plain_from kind zero bytes = bytes
plain_from kind (suc n) bytes = let here = after_blanks bytes in blanks bytes ++ plain_value kind (plain_from kind n) here (value_in kind here)

-- the same with as many turns as there may be
unfoldable pub plain_bytes_of : CivilText → List ℕ → List ℕ
plain_bytes_of kind bytes = plain_from kind (suc (length bytes)) bytes

-- the value stands after these bytes, of which all stays, and before others; the plain text is made of the three
pub record IsFirstCivilValue (kind : CivilText) (bytes before : List ℕ) (value : CivilValue) (rest : List ℕ) : Type 0 where
  pub civil : IsTrue (is_civil value)
  pub is : plain_bytes_of kind bytes ≡ before ++ (padded_bytes value ++ plain_bytes_of kind rest)

-- the first value of the bytes, or none where all stays
abbrev pub FindsFirst : CivilText → List ℕ → Option Found → Type 0
FindsFirst kind bytes found = MatchOption found (plain_bytes_of kind bytes ≡ bytes) (λ first. IsFirstCivilValue kind bytes first.before.now first.value first.rest.now)

-- the plain text of a file; bytes that are no UTF-8 stay
unfoldable pub plain_as : CivilText → List ℕ → List ℕ
plain_as kind bytes = if is_utf8 bytes then plain_bytes_of kind bytes else bytes

abbrev pub plain_of : List ℕ → List ℕ
plain_of = plain_as Database

-- ---- its places

-- each place is the same in both
pub record HasSamePlaces (bytes plain : List ℕ) : Type 0 where
  pub size : length plain ≡ length bytes
  pub place : (n : ℕ) → after start (take n plain) ≡ after start (take n bytes)
