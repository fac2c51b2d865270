-- The numbers of tasks, within their ranges.
use Rattle.std.specs.Prelude.{◌≤◌, ◌≤ℤ◌, ℤ, pos, neg_ℤ, Bool, true, false}
use Rattle.lrp_model.specs.Names.{IsName}
use Rattle.lrp_calendar.specs.Moments.{IsCivilMinute}
use Rattle.lrp_words.specs.Commands.{Task}
use Rattle.lrp_words.specs.Commands.Task.{ask, list, count, ranges, sample}
use Rattle.lrp_model.specs.Limits.{greatest_number}

-- where times are civil ones, a minute of the years 1 to 9999
abbrev pub IsMinuteWhere : Bool → ℤ → Type 0
IsMinuteWhere false x = Unit {0}
IsMinuteWhere true x = IsCivilMinute x

-- an end of a window: its magnitude is at most the greatest number, and where times are civil ones it is a minute of the years 1 to 9999
pub record IsEnd (civil : Bool) (x : ℤ) : Type 0 where
  pub low : neg_ℤ (pos greatest_number) ≤ℤ x
  pub high : x ≤ℤ pos greatest_number
  pub minute : IsMinuteWhere civil x

-- the numbers of a task that has a window, a seed or a size, and the name of one that has a name
abbrev pub IsInRange : Task → Type 0
IsInRange (ask of cap canon called) = IsName called
IsInRange (list of from to limit after json cap) = IsEnd of.civil from × IsEnd of.civil to
IsInRange (count of from to cap) = IsEnd of.civil from × IsEnd of.civil to
IsInRange (ranges of from to limit json cap) = IsEnd of.civil from × IsEnd of.civil to
IsInRange (sample seed size) = (seed ≤ 1000000) × (1 ≤ size) × (size ≤ 500)
IsInRange _ = Unit {0}
