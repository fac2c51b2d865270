-- Sorts: which are one, which is that of times, and what stands in a column.
use Rattle.std.specs.Prelude.{◌≡◌, ℕ, List, Bool, true, false, not, count_by}
use Rattle.std.specs.Str.{bytes_eq}
use Rattle.lrp_model.specs.declared.relations.Sort.{Sort}
use Rattle.lrp_model.specs.declared.relations.Sort.TheVariants.{Time, Data, Named}
use Rattle.lrp_model.specs.declared.relations.Column.{Column}
use Rattle.lrp_model.specs.declared.formulas.Term.{Term}
use Rattle.lrp_model.specs.declared.formulas.Term.TheVariants.{Time as time_term, Data as data_term}

-- the two sorts are one; named sorts are by their names
abbrev pub same_sort : Sort → Sort → Bool
same_sort Time Time = true
same_sort Data Data = true
same_sort (Named m) (Named n) = bytes_eq m n
same_sort _ _ = false

-- the sort of times
abbrev pub is_time : Sort → Bool
is_time s = same_sort s Time

-- every other sort is a data sort
abbrev pub is_data : Sort → Bool
is_data s = not (is_time s)

-- a time term in a column of times, a data term in one of a data sort
abbrev pub FitsColumn : Column → Term → Type 0
FitsColumn c (time_term t) = is_time c.sort ≡ true
FitsColumn c (data_term t) = is_data c.sort ≡ true

-- how many of the columns are time columns
abbrev pub time_count : List Column → ℕ
time_count = count_by (λ c. is_time c.sort)

-- how many of the columns are of data sorts
abbrev pub text_count : List Column → ℕ
text_count = count_by (λ c. is_data c.sort)
