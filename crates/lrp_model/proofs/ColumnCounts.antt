-- How many columns are of times, and how many of data sorts: with one column more, by filters, and both together.
use Rattle.std.proofs.Common.{◌≡◌, ◌≤◌, ◌+◌, ℕ, suc, false, cond, List, ◌∷◌, length, filter, refl, ap, ap₂, sym, ◌∙◌, arith}
use Rattle.std.proofs.lemmas.List.Filters.{length-filter_both}
use Rattle.std.proofs.lemmas.List.Sums.{sum_by-cons, length-filter, count_by-le-length}
use Rattle.lrp_model.specs.Sorts.{is_time, is_data, time_count, text_count}
use Rattle.lrp_model.specs.declared.relations.Sort.TheVariants.{Time}
use Rattle.lrp_model.specs.declared.relations.Column.{Column}

pub times_more : (c : Column) (cs : List Column) → time_count (c ∷ cs) ≡ cond (is_time c.sort) 1 0 + time_count cs
times_more c cs = sum_by-cons (λ x. cond (is_time x.sort) 1 0) c cs

pub texts_more : (c : Column) (cs : List Column) → text_count (c ∷ cs) ≡ cond (is_data c.sort) 1 0 + text_count cs
texts_more c cs = sum_by-cons (λ x. cond (is_data x.sort) 1 0) c cs

pub one_more : (n : ℕ) → 1 + n ≡ suc n
one_more n = omega arith

pub none_more : (n : ℕ) → 0 + n ≡ n
none_more n = omega arith

-- one of times more
pub with_time : (c : Column) (cs : List Column) → c.sort ≡ Time → time_count (c ∷ cs) ≡ suc (time_count cs)
with_time c cs e = times_more c cs ∙ ap (λ s. cond (is_time s) 1 0 + time_count cs) e ∙ one_more (time_count cs)

-- one of another sort more
pub with_text : (c : Column) (cs : List Column) → is_time c.sort ≡ false → time_count (c ∷ cs) ≡ time_count cs
with_text c cs e = times_more c cs ∙ ap (λ b. cond b 1 0 + time_count cs) e ∙ none_more (time_count cs)

-- some of the columns
pub few_times : (cs : List Column) → time_count cs ≤ length cs
few_times cs = count_by-le-length (λ c. is_time c.sort) cs

-- as many as pass the test
pub times_passed : (cs : List Column) → length (filter (λ c. is_time c.sort) cs) ≡ time_count cs
times_passed cs = length-filter (λ c. is_time c.sort) cs

pub texts_passed : (cs : List Column) → length (filter (λ c. is_data c.sort) cs) ≡ text_count cs
texts_passed cs = length-filter (λ c. is_data c.sort) cs

-- each column is of the one kind or the other
pub counts_split : (cs : List Column) → time_count cs + text_count cs ≡ length cs
counts_split cs = sym (ap₂ (λ m n. m + n) (times_passed cs) (texts_passed cs)) ∙ length-filter_both (λ c. is_time c.sort) (λ c. is_data c.sort) (λ c. refl) cs
