-- The numbers by which the keeping of answers is refused.
use Rattle.std.specs.Prelude.{ℕ, Bool, ◌+◌, ◌*◌, ◌^◌, nat_abs, true, false, List, ◌∷◌, ◌++◌, length, filter, map, flat_map, if◌then◌else◌}
use Rattle.std.specs.List.{list_any}
use Rattle.std.specs.Str.{bytes_eq}
use Rattle.lrp_model.specs.Texts.{Identifier}
use Rattle.lrp_model.specs.Formulas.{Form, Question}
use Rattle.lrp_model.specs.Variables.{Variable, time_variable, data_variable}
use Rattle.lrp_model.specs.Periods.{lcm, lcm_all, row_periods}
use Rattle.lrp_model.specs.Sorts.{time_count}
use Rattle.lrp_model.specs.Reach.{greatest, term_magnitudes, test_reach}
use Rattle.lrp_model.specs.declared.relations.Row.{Row}
use Rattle.lrp_model.specs.declared.relations.Relation.{Relation}
use Rattle.lrp_plan_laws.specs.Atoms.{Atom, atoms}
use Rattle.lrp_kept.specs.KeptForm.{bound_variables}
use Rattle.lrp_kept.specs.Choices.{disjunct_tests, listed_disjuncts}

-- the least common multiple of a period and of those of a further row
abbrev pub raised_period : ℕ → Row → ℕ
raised_period period row = lcm (lcm_all (row_periods row)) period

-- the greatest magnitude of a row's bounds, or 0
abbrev pub row_bound : Row → ℕ
row_bound row = greatest (map (λ bound. nat_abs bound.most) row.bounds)

-- the greatest magnitude of a bound in the rows of a relation, or 0
abbrev pub relation_bound : Relation → ℕ
relation_bound relation = greatest (map row_bound relation.rows)

-- some atom of the formula names the relation
abbrev pub names_relation : Form → Identifier → Bool
names_relation f name = list_any (λ a. bytes_eq a.name name) (atoms f)

-- the number beside the relation of this name; an atom names one of the relations, and each has a number, so the last case is not met
abbrev pub number_beside : List Relation → List ℕ → Identifier → ℕ
number_beside (r ∷ rs) (n ∷ ns) name = if bytes_eq r.name name then n else number_beside rs ns name
number_beside _ _ name = 0

-- the reach of an atom as a step of its own, by the greatest bound that its relation ever had
abbrev pub atom_reach : List Relation → List ℕ → ℕ → Atom → ℕ
atom_reach db bounds period a = number_beside db bounds a.name + 2 * greatest (flat_map term_magnitudes a.terms) + period

-- the greatest reach of an atom or a test of a disjunct as a step of its own
abbrev pub disjunct_reach : List Relation → List ℕ → ℕ → Form → ℕ
disjunct_reach db bounds period f = greatest (map (atom_reach db bounds period) (atoms f) ++ map test_reach (disjunct_tests f))

abbrev pub is_of_time : Variable → Bool
is_of_time (time_variable v) = true
is_of_time (data_variable v) = false

-- how many time quantifiers a disjunct has
abbrev pub time_quantifiers : Form → ℕ
time_quantifiers f = length (filter is_of_time (bound_variables f))

-- the greatest that a disjunct of the query has
abbrev pub most_of : (Form → ℕ) → Question → ℕ
most_of count q = greatest (map count (listed_disjuncts q))

-- a bound on the magnitudes that are derived from the rows
abbrev pub kept_reach : List Relation → List ℕ → ℕ → Question → ℕ
kept_reach db bounds period q =
    let steps = most_of (λ f. length (atoms f)) q + most_of (λ f. length (disjunct_tests f)) q in
    (most_of (disjunct_reach db bounds period) q + steps * period) * 2 ^ most_of time_quantifiers q

-- 2^(m + 1) times as much, with m time columns in the head
abbrev pub scaled_kept_reach : List Relation → List ℕ → ℕ → Question → ℕ
scaled_kept_reach db bounds period q = 2 ^ (time_count q.head + 1) * kept_reach db bounds period q
