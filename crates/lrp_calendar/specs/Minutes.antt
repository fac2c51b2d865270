-- Minutes as they are written in words: YYYY-MM-DDTHH:MM.
use Rattle.std.specs.Prelude.{◌≡◌, ℕ, ◌+◌, ◌*◌, ℤ, true, ◌&&◌, List, ◌++◌, take, drop, Option, Some, None, if◌then◌else◌, codes}
use Rattle.std.specs.Str.{bytes_eq}
use Rattle.std.specs.Str.Parse.{digits_value}
use Rattle.lrp_calendar.specs.declared.dates.Date.{Date}
use Rattle.lrp_calendar.specs.Dates.{is_date}
use Rattle.lrp_calendar.specs.Moments.{minute_at, clock_bytes, date_bytes, is_time_of_day}

-- the number in the first n of the bytes
abbrev pub front_number : ℕ → List ℕ → ℕ
front_number n bytes = digits_value 10 (take n bytes)

-- the time of day in HH:MM, and the date in YYYY-MM-DD
abbrev pub time_in : List ℕ → ℕ
time_in bytes = 60 * front_number 2 bytes + front_number 2 (drop 3 bytes)

abbrev pub date_in : List ℕ → Date
date_in bytes = record { year = front_number 4 bytes; month = front_number 2 (drop 5 bytes); day = front_number 2 (drop 8 bytes) }

-- a date and a time of day in words
abbrev pub word_bytes : Date → ℕ → List ℕ
word_bytes date time = date_bytes date ++ (codes "T" ++ clock_bytes time)

-- the minute of a word: the date and the time with the numbers at their places, where these spell the word
unfoldable pub minute_by : List ℕ → Option ℤ
minute_by word =
    let date = date_in word in
    let time = time_in (drop 11 word) in
    if is_date date && is_time_of_day time && bytes_eq word (word_bytes date time) then Some (minute_at date time) else None

-- the word spells the minute: that of a date and a time of day
pub record SpellsMinute (word : List ℕ) (x : ℤ) : Type 0 where
  pub date : Date
  pub time : ℕ
  pub real : is_date date ≡ true
  pub in_day : is_time_of_day time ≡ true
  pub word_is : word ≡ word_bytes date time
  pub minute_is : x ≡ minute_at date time
