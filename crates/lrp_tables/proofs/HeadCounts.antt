-- How many time columns and data columns a head has.
use Rattle.std.proofs.Common.{◌≡◌, ◌+◌, ℕ, suc, cond, List, [], ◌∷◌, length, refl, ap, ◌∙◌, arith}
use Rattle.lrp_model.specs.Texts.{Identifier}
use Rattle.lrp_model.specs.Sorts.{is_time, time_count}
use Rattle.lrp_model.specs.declared.relations.Sort.{Sort}
use Rattle.lrp_model.specs.declared.relations.Sort.TheVariants.{Time, Data, Named}
use Rattle.lrp_model.specs.declared.relations.Column.{Column}
use Rattle.lrp_model.proofs.ColumnCounts.{times_more, one_more, none_more}
use Rattle.lrp_tables.specs.Columns.{head_times, head_texts, with_time_name, text_name}

one_time : (s : Sort) (n : ℕ) (v : Identifier) (ns : List Identifier) → n ≡ length ns → cond (is_time s) 1 0 + n ≡ length (with_time_name s v ns)
one_time Time n v ns e = one_more n ∙ ap suc e
one_time Data n v ns e = none_more n ∙ e
one_time (Named name) n v ns e = none_more n ∙ e

-- a head has as many times as time columns
pub times_counted : (cs : List Column) → time_count cs ≡ length (head_times cs)
times_counted [] = refl
times_counted (c ∷ cs) = times_more c cs ∙ one_time c.sort (time_count cs) c.name (head_times cs) (times_counted cs)

one_column : (s : Sort) (n : ℕ) (v : Identifier) (ns ms : List Identifier) → n ≡ length ns + length ms → suc n ≡ length (with_time_name s v ns) + length (text_name s v ms)
one_column Time n v ns ms e = omega (arith, e)
one_column Data n v ns ms e = omega (arith, e)
one_column (Named name) n v ns ms e = omega (arith, e)

-- its columns are those of both kinds
pub columns_counted : (cs : List Column) → length cs ≡ length (head_times cs) + length (head_texts cs)
columns_counted [] = refl
columns_counted (c ∷ cs) = one_column c.sort (length cs) c.name (head_times cs) (head_texts cs) (columns_counted cs)
