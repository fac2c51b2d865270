-- No step of the sample's plan has more than 16 inhabited cells a trip.
use Rattle.std.proofs.Common.{◌≡◌, ℕ, zero, suc, ◌*◌, ◌≤◌, List, [], ◌∷◌, sym, subst, arith}
use Rattle.std.specs.Prelude.{ℤ, pos, ◌-ℤ◌, codes, MatchOption}
use Rattle.std.specs.List.{AllByRecursion}
use Rattle.std.proofs.lemmas.Int.{ints}
use Rattle.lrp_theory.specs.Divides.{IsPointMember}
use Rattle.lrp_model.specs.Texts.{Text}
use Rattle.lrp_model.specs.Formulas.{Form, negation, conjunction, exists, no_forms, form}
use Rattle.lrp_model.specs.Variables.{Variable, time_variable, data_variable, free, head_variables}
use Rattle.lrp_model.specs.Domains.{constants}
use Rattle.lrp_model.specs.Cells.{FormCell, ManyCells}
use Rattle.lrp_model.specs.Steps.{PlanStep, Steps, step_at}
use Rattle.lrp_model.specs.Caps.{step_variables, ManyAt}
use Rattle.lrp_model.specs.declared.relations.Sort.TheVariants.{Time, Data}
use Rattle.lrp_sample.specs.Trees.{sample_relations, sample_question, trip_atom, some_leaves}
use Rattle.lrp_sample.specs.Plans.{sample_steps}
use Rattle.lrp_sample.proofs.FormCells.{LieIn, few_cells, of_first, widened, dropped}
use Rattle.lrp_sample.proofs.Days.{scan_period, join_period, body_period, scan_is_daily, join_is_daily, minus_is_daily}
use Rattle.lrp_sample.proofs.TripCells.{world, LiesByTrip, numbered, own_cell, before_cell, trip_variables, own_trip, other_trip, not_after, leaves, leaves_variables, trip_leaves}

-- ---- the formulas of the steps

-- u <= v, which has one cell of period 1
abbrev one_cell : ℕ → FormCell
one_cell k = record { residues = λ x. pos 0; texts = λ x. [] }

any_is_member : (x : ℤ) → IsPointMember (pos 0) (pos 1) x
any_is_member x = record { times = x -ℤ pos 0; is = omega (arith, ints) }

-- leaves, with k, w and v dropped
abbrev some_k : Form
some_k = exists (codes "k") Data leaves

abbrev some_w : Form
some_w = exists (codes "w") Time some_k

abbrev some_v : Form
some_v = exists (codes "v") Time some_w

-- the trip, less what does not hold of its arrival
abbrev less : Form → Form
less f = conjunction (form (trip_atom (codes "t") (codes "u") (codes "l")) (form (negation f) no_forms))

abbrev less_variables : List Variable
less_variables = time_variable (codes "t") ∷ time_variable (codes "u") ∷ data_variable (codes "l") ∷ time_variable (codes "u") ∷ time_variable (codes "u") ∷ []

module _ (seed size : ℕ) where
  compare_lies : LieIn (world seed size) 1 1 one_cell (free not_after) not_after
  compare_lies env h none =
      none 0 (omega arith) ((omega (arith, ints), omega (arith, ints), any_is_member (env.times (codes "u"))), ((omega (arith, ints), omega (arith, ints), any_is_member (env.times (codes "v"))), tt))

  k_lies : LiesByTrip before_cell seed size (free some_k) some_k
  k_lies = dropped (world seed size) 1440 (16 * size) (numbered (before_cell seed)) (codes "k") Data leaves_variables leaves (trip_leaves seed size)

  w_lies : LiesByTrip before_cell seed size (free some_w) some_w
  w_lies = dropped (world seed size) 1440 (16 * size) (numbered (before_cell seed)) (codes "w") Time (free some_k) some_k k_lies

  v_lies : LiesByTrip before_cell seed size (free some_v) some_v
  v_lies = dropped (world seed size) 1440 (16 * size) (numbered (before_cell seed)) (codes "v") Time (free some_w) some_w w_lies

  less_lies : (f : Form) → LiesByTrip own_cell seed size less_variables (less f)
  less_lies f =
      widened (world seed size) 1440 (16 * size) (numbered (own_cell seed)) (trip_variables (codes "t") (codes "u") (codes "l")) less_variables (less f) (λ env c h. (h.0, (h.1.0, (h.1.1.0, (h.1.0, (h.1.0, tt))))))
      (of_first (world seed size) 1440 (16 * size) (numbered (own_cell seed)) (trip_variables (codes "t") (codes "u") (codes "l")) (trip_atom (codes "t") (codes "u") (codes "l")) (form (negation f) no_forms) (own_trip seed size))

  u_lies : (f : Form) → LiesByTrip own_cell seed size (head_variables sample_question.head) (exists (codes "u") Time (less f))
  u_lies f = dropped (world seed size) 1440 (16 * size) (numbered (own_cell seed)) (codes "u") Time less_variables (less f) (less_lies f)

  -- the body, over the head's variables and then its own, which are the same
  abbrev pub twice : List Variable
  twice = time_variable (codes "t") ∷ data_variable (codes "l") ∷ time_variable (codes "t") ∷ data_variable (codes "l") ∷ []

  pub head_lies : LiesByTrip own_cell seed size twice sample_question.body
  head_lies =
      widened (world seed size) 1440 (16 * size) (numbered (own_cell seed)) (head_variables sample_question.head) twice sample_question.body (λ env c h. (h.0, (h.1.0, (h.0, (h.1.0, tt)))))
      (u_lies some_leaves)

-- ---- the steps

-- the step has more inhabited cells than the cap
abbrev HasMany : ℕ → ℕ → ℕ → PlanStep → Type 0
HasMany seed size cap step = ManyCells (world seed size) step.period (constants (sample_relations seed size) sample_question) (step_variables sample_question.head step) step.formula cap

module _ (seed n cap : ℕ) (le : 16 * suc n ≤ cap) where
  abbrev texts : List Text
  texts = constants (sample_relations seed (suc n)) sample_question

  by_trip : (cell : ℕ → ℕ → ℕ → FormCell) (K : ℕ) (vs : List Variable) (f : Form) → K ≡ 1440 → LiesByTrip cell seed (suc n) vs f → ManyCells (world seed (suc n)) K texts vs f cap → ⊥
  by_trip cell K vs f e lie =
      few_cells (world seed (suc n)) K (16 * suc n) cap (numbered (cell seed)) texts vs f le
      (subst (λ k. LieIn (world seed (suc n)) k (16 * suc n) (numbered (cell seed)) vs f) (sym e) lie)

  steps_have_few : AllByRecursion (λ step. HasMany seed (suc n) cap step → ⊥) (sample_steps seed (suc n))
  steps_have_few =
      let one : 1 ≤ cap = omega arith in
      let own : Form = trip_atom (codes "t") (codes "u") (codes "l") in
      let other : Form = trip_atom (codes "v") (codes "w") (codes "k") in (
        by_trip own_cell (scan_period seed n) (free own) own (scan_is_daily seed n) (own_trip seed (suc n)),
        (
          by_trip before_cell (scan_period seed n) (free other) other (scan_is_daily seed n) (other_trip seed (suc n)),
          (
            few_cells (world seed (suc n)) 1 1 cap one_cell texts (free not_after) not_after one (compare_lies seed (suc n)),
            (
              by_trip before_cell (join_period seed n) leaves_variables leaves (join_is_daily seed n) (trip_leaves seed (suc n)),
              (
                by_trip before_cell (join_period seed n) (free some_k) some_k (join_is_daily seed n) (k_lies seed (suc n)),
                (
                  by_trip before_cell (join_period seed n) (free some_w) some_w (join_is_daily seed n) (w_lies seed (suc n)),
                  (
                    by_trip before_cell (join_period seed n) (free some_v) some_v (join_is_daily seed n) (v_lies seed (suc n)),
                    (
                      by_trip own_cell (body_period seed n) less_variables (less some_v) (minus_is_daily seed n) (less_lies seed (suc n) some_v),
                      (
                        by_trip own_cell (body_period seed n) (head_variables sample_question.head) (exists (codes "u") Time (less some_v)) (minus_is_daily seed n) (u_lies seed (suc n) some_v),
                        (by_trip own_cell (body_period seed n) (twice seed (suc n)) sample_question.body (minus_is_daily seed n) (head_lies seed (suc n)), tt),
                      ),
                    ),
                  ),
                ),
              ),
            ),
          ),
        ),
      )

none_at : (many : PlanStep → Type 0) (steps : Steps) → AllByRecursion (λ step. many step → ⊥) steps → (s : ℕ) → MatchOption (step_at steps s) ⊥ many → ⊥
none_at many steps h zero m = m
none_at many [] h (suc s) m = m
none_at many (step ∷ steps) h (suc zero) m = h.0 m
none_at many (step ∷ steps) h (suc (suc s)) m = none_at many steps h.1 (suc s) m

pub few_at : (seed size : ℕ) → 1 ≤ size → (cap : ℕ) → 16 * size ≤ cap → (s : ℕ) → ManyAt (sample_steps seed size) (sample_relations seed size) sample_question cap s → ⊥
few_at seed zero h cap le s m = absurd (omega arith)
few_at seed (suc n) h cap le s m = none_at (HasMany seed (suc n) cap) (sample_steps seed (suc n)) (steps_have_few seed n cap le) s m
