-- The limits of kept answers, by the disjuncts as they are derived.
use Rattle.std.specs.Prelude.{◌≡◌, ◌==◌, ◌+◌, ◌*◌, ◌^◌, ℕ, Bool, List, ◌++◌, length, map, flat_map, slice_index_or, Option}
use Rattle.std.specs.List.{list_any}
use Rattle.std.specs.Option.{option_map}
use Rattle.lrp_model.specs.Periods.{test_periods}
use Rattle.lrp_model.specs.Reach.{greatest, term_magnitudes, test_reach}
use Rattle.lrp_model.specs.Sorts.{time_count}
use Rattle.lrp_model.specs.declared.relations.Column.{Column}
use Rattle.lrp_limits.specs.Capped.{capped}
use Rattle.lrp_limits.specs.declared.periods.Period.{Period}
use Rattle.lrp_kept.specs.declared.disjuncts.JoinedAtom.{JoinedAtom}
use Rattle.lrp_kept.specs.declared.disjuncts.Disjunct.{Disjunct}
use Rattle.lrp_kept.specs.declared.limits.Sizes.{Sizes}

-- the number of a period, if there is one
abbrev pub period_number : Option Period → Option ℕ
period_number o = option_map (λ p. p.number) o

-- some atom of the disjunct reads the relation of this number
abbrev pub is_reader : ℕ → Disjunct → Bool
is_reader relation d = list_any (λ a. a.relation == relation) d.atoms.items

-- the periods of a disjunct's `in` points
abbrev pub tested_periods : Disjunct → List ℕ
tested_periods d = flat_map test_periods d.tests

-- the reach of an atom as a step of its own, by the greatest bounds of the relations; there is one for each relation
abbrev pub joined_reach : List ℕ → ℕ → JoinedAtom → ℕ
joined_reach bounds period a = slice_index_or bounds a.relation 0 + 2 * greatest (flat_map term_magnitudes a.terms) + period

-- the greatest reach of an atom or a test of a disjunct as a step of its own
abbrev pub reach_in : List ℕ → ℕ → Disjunct → ℕ
reach_in bounds period d = greatest (map (joined_reach bounds period) d.atoms.items ++ map test_reach d.tests)

abbrev pub atom_count : Disjunct → ℕ
atom_count d = length d.atoms.items

abbrev pub test_count : Disjunct → ℕ
test_count d = length d.tests

abbrev pub bound_times : Disjunct → ℕ
bound_times d = time_count d.bound

-- the greatest numbers that a disjunct has; the reach is counted up to 2^62 + 1
pub record AreSizes (bounds : List ℕ) (period : ℕ) (ds : List Disjunct) (most : Sizes) : Type 0 where
  pub reach : most.reach ≡ capped (greatest (map (reach_in bounds period) ds))
  pub atoms : most.atoms ≡ greatest (map atom_count ds)
  pub tests : most.tests ≡ greatest (map test_count ds)
  pub times : most.times ≡ greatest (map bound_times ds)

-- a bound on the magnitudes that are derived
abbrev pub reach_over : List ℕ → ℕ → List Disjunct → ℕ
reach_over bounds period ds =
    let steps = greatest (map atom_count ds) + greatest (map test_count ds) in
    (greatest (map (reach_in bounds period) ds) + steps * period) * 2 ^ greatest (map bound_times ds)

-- 2^(m + 1) times as much, with m time columns in the head
abbrev pub scaled_over : List ℕ → ℕ → List Column → List Disjunct → ℕ
scaled_over bounds period head ds = 2 ^ (time_count head + 1) * reach_over bounds period ds
