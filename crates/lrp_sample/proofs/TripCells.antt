-- In which cells the assignments lie that satisfy the sample's formulas: a trip determines the cell, and where a time is up to 15 minutes before its departure, the trip and these minutes.
use Rattle.std.proofs.Common.{◌≡◌, ℕ, ◌+◌, ◌-◌, ◌*◌, ◌/◌, ◌%◌, ◌<◌, cond, List, [], ◌∷◌, bytes_eq, refl, sym, ap₂, subst, ◌∙◌, arith, inl, inr}
use Rattle.std.specs.Prelude.{ℤ, pos, negsuc, ◌+ℤ◌, ◌-ℤ◌, ◌≤ℤ◌, ◌<ℤ◌, codes}
use Rattle.std.specs.List.{AllByRecursion}
use Rattle.std.proofs.lemmas.Int.{ints}
use Rattle.std.proofs.lemmas.Bool.{cases_lt}
use Rattle.std.proofs.lemmas.Nat.{mul-add-lt, div-mul-add, mod-mul-add}
use Rattle.std.proofs.lemmas.List.FromFn.{length-map-range_with_len, get_or-map-range_with_len}
use Rattle.lrp_theory.specs.Divides.{IsPointMember}
use Rattle.lrp_theory.proofs.Modulo.{Divides-is, Divides-+, Divides-zero, Divides-self, Divides-neg}
use Rattle.lrp_model.specs.Texts.{Text}
use Rattle.lrp_model.specs.Rows.{time, text, IsInRow, Holds}
use Rattle.lrp_model.specs.Formulas.{Form, test, conjunction, no_forms, form}
use Rattle.lrp_model.specs.Variables.{Variable, time_variable, data_variable}
use Rattle.lrp_model.specs.Satisfaction.{Structure, Assignment, structure}
use Rattle.lrp_model.specs.Cells.{FormCell}
use Rattle.lrp_model.specs.declared.formulas.Op.TheVariants.{Le}
use Rattle.lrp_model.specs.declared.formulas.Test.TheVariants.{Compare}
use Rattle.lrp_sample.specs.Texts.{departure, arrival, line}
use Rattle.lrp_sample.specs.Trees.{trip, sample_relations, sample_question, trip_atom, time as time_at}
use Rattle.lrp_sample.proofs.FormCells.{Lies, LiesAt, LieIn}

-- ---- what the relation holds

-- the times and the text are those of trip i, on some day
record IsOn (seed i : ℕ) (x y : ℤ) (l : Text) : Type 0 where
  departs : IsPointMember (pos (departure seed i)) (pos 1440) x
  arrives : IsPointMember (pos (arrival seed i)) (pos 1440) y
  runs : l ≡ line i

on_trip : (seed i : ℕ) (x y : ℤ) (l : Text) → IsInRow (trip seed i) (time x ∷ time y ∷ text l ∷ []) → IsOn seed i x y l
on_trip seed i x y l h = record { departs = h.values.0; arrives = h.values.1.0; runs = h.values.1.1.0 }

on_some : (seed size : ℕ) (x y : ℤ) (l : Text) → Holds (sample_relations seed size) (codes "trip") (time x ∷ time y ∷ text l ∷ []) → (i : ℕ) × (i < size) × IsOn seed i x y l
on_some seed size x y l h =
    let i : ℕ = h.1.0 in
    let within : i < size = omega (arith, h.1.1, length-map-range_with_len (trip seed) 0 size) in
    let is : h.0 ≡ trip seed i = sym h.1.2 ∙ get_or-map-range_with_len (trip seed) 0 size i i h.0 within (omega arith) in
    (i, within, on_trip seed i x y l (subst (λ row. IsInRow row (time x ∷ time y ∷ text l ∷ [])) is h.2))

-- ---- minutes of the day

-- the minute of the day that is j minutes before another
abbrev pub minute_before : ℕ → ℕ → ℕ
minute_before d j = (d + (1440 - j)) % 1440

-- the time is at this minute, on some day
abbrev IsAt : ℕ → ℤ → Type 0
IsAt r x = (pos 0 ≤ℤ pos r) × (pos r <ℤ pos 1440) × IsPointMember (pos r) (pos 1440) x

is_at : (r : ℕ) (x : ℤ) → r < 1440 → IsPointMember (pos r) (pos 1440) (x +ℤ pos 0) → IsAt r x
is_at r x l h = (omega (arith, ints), omega (arith, ints), Divides-is (pos 1440) ((x +ℤ pos 0) -ℤ pos r) (x -ℤ pos r) (omega (arith, ints)) h)

is_before : (d j : ℕ) → d < 1440 → j < 16 → IsPointMember (pos (minute_before d j)) (pos 1440) (pos d -ℤ pos j)
is_before d j l m = elim (cases_lt d j) [
  | inl lt ↦
      let e : minute_before d j ≡ d + (1440 - j) = omega arith in
      Divides-is (pos 1440) (negsuc 1439) ((pos d -ℤ pos j) -ℤ pos (minute_before d j)) (omega (arith, ints)) (Divides-neg (pos 1440) (pos 1440) (Divides-self (pos 1440)))
  | inr le ↦
      let e : minute_before d j + j ≡ d = omega arith in
      Divides-is (pos 1440) (pos 0) ((pos d -ℤ pos j) -ℤ pos (minute_before d j)) (omega (arith, ints)) (Divides-zero (pos 1440))
]

at_before : (d j : ℕ) (x y : ℤ) → d < 1440 → j < 16 → IsPointMember (pos d) (pos 1440) (y +ℤ pos 0) → y ≡ x +ℤ pos j → IsAt (minute_before d j) x
at_before d j x y l m h e =
    let parts = Divides-+ (pos 1440) ((y +ℤ pos 0) -ℤ pos d) ((pos d -ℤ pos j) -ℤ pos (minute_before d j)) h (is_before d j l m) in
    is_at (minute_before d j) x (omega arith) (Divides-is (pos 1440) (((y +ℤ pos 0) -ℤ pos d) +ℤ ((pos d -ℤ pos j) -ℤ pos (minute_before d j))) ((x +ℤ pos 0) -ℤ pos (minute_before d j)) (omega (arith, ints)) parts)

-- how far a number lies above another that it is up to 15 above
above : (x y z : ℤ) → z ≡ y -ℤ x → (x +ℤ pos 0) ≤ℤ (y +ℤ pos 0) → (y +ℤ pos 0) ≤ℤ (x +ℤ pos 15) → (j : ℕ) × (j < 16) × (y ≡ x +ℤ pos j)
above x y (pos j) e a b = (j, omega (arith, ints), omega (arith, ints))
above x y (negsuc j) e a b = absurd (omega (arith, ints))

-- ---- the cells of a trip

-- u is at this minute, w at the trip's arrival, every other time at its departure
abbrev pub cell_of : ℕ → ℕ → ℕ → FormCell
cell_of seed i u = record {
  residues = λ x. cond (bytes_eq x (codes "u")) (pos u) (cond (bytes_eq x (codes "w")) (pos (arrival seed i)) (pos (departure seed i)));
  texts = λ x. line i;
}

-- u is at the arrival
abbrev pub own_cell : ℕ → ℕ → ℕ → FormCell
own_cell seed i j = cell_of seed i (arrival seed i)

-- u is j minutes before the departure
abbrev pub before_cell : ℕ → ℕ → ℕ → FormCell
before_cell seed i j = cell_of seed i (minute_before (departure seed i) j)

-- the cells of all i, with 16 numbers j each
abbrev pub numbered : (ℕ → ℕ → FormCell) → ℕ → FormCell
numbered cell k = cell (k / 16) (k % 16)

abbrev pub world : ℕ → ℕ → Structure
world seed size = structure (sample_relations seed size) sample_question

-- each assignment that satisfies the formula lies in such a cell, of a trip of the sample
abbrev pub LiesByTrip : (ℕ → ℕ → ℕ → FormCell) → ℕ → ℕ → List Variable → Form → Type 0
LiesByTrip cell seed size = LieIn (world seed size) 1440 (16 * size) (numbered (cell seed))

at_pair : (cell : ℕ → ℕ → FormCell) (size : ℕ) (vs : List Variable) (env : Assignment) → ((k : ℕ) → k < 16 * size → LiesAt 1440 (numbered cell) vs env k → ⊥)
    → (i j : ℕ) → i < size → j < 16 → AllByRecursion (Lies 1440 env (cell i j)) vs → ⊥
at_pair cell size vs env none i j l m h =
    none (i * 16 + j) (mul-add-lt i 16 j size l m) (subst (λ c. AllByRecursion (Lies 1440 env c) vs) (sym (ap₂ cell (div-mul-add i 16 j m) (mod-mul-add i 16 j m))) h)

-- ---- the formulas over one trip

abbrev pub trip_variables : Text → Text → Text → List Variable
trip_variables d a l = time_variable d ∷ time_variable a ∷ data_variable l ∷ []

module _ (seed size : ℕ) where
  -- trip(t, u, l)
  pub own_trip : LiesByTrip own_cell seed size (trip_variables (codes "t") (codes "u") (codes "l")) (trip_atom (codes "t") (codes "u") (codes "l"))
  own_trip env h none =
      let t : ℤ = env.times (codes "t") in
      let u : ℤ = env.times (codes "u") in
      let l : Text = env.texts (codes "l") in
      let on = on_some seed size (t +ℤ pos 0) (u +ℤ pos 0) l h in
      at_pair (own_cell seed) size (trip_variables (codes "t") (codes "u") (codes "l")) env none on.0 0 on.1 (omega arith)
      (is_at (departure seed on.0) t (omega arith) on.2.departs, (is_at (arrival seed on.0) u (omega arith) on.2.arrives, (on.2.runs, tt)))

  -- trip(v, w, k)
  pub other_trip : LiesByTrip before_cell seed size (trip_variables (codes "v") (codes "w") (codes "k")) (trip_atom (codes "v") (codes "w") (codes "k"))
  other_trip env h none =
      let v : ℤ = env.times (codes "v") in
      let w : ℤ = env.times (codes "w") in
      let k : Text = env.texts (codes "k") in
      let on = on_some seed size (v +ℤ pos 0) (w +ℤ pos 0) k h in
      at_pair (before_cell seed) size (trip_variables (codes "v") (codes "w") (codes "k")) env none on.0 0 on.1 (omega arith)
      (is_at (departure seed on.0) v (omega arith) on.2.departs, (is_at (arrival seed on.0) w (omega arith) on.2.arrives, (on.2.runs, tt)))

-- u <= v
abbrev pub not_after : Form
not_after = test (Compare (time_at (codes "u") 0) Le (time_at (codes "v") 0))

-- trip(v, w, k) and u <= v and v <= u + 15
abbrev pub leaves : Form
leaves = conjunction (form (trip_atom (codes "v") (codes "w") (codes "k")) (form not_after (form (test (Compare (time_at (codes "v") 0) Le (time_at (codes "u") 15))) no_forms)))

abbrev pub leaves_variables : List Variable
leaves_variables =
    time_variable (codes "v") ∷ time_variable (codes "w") ∷ data_variable (codes "k")
    ∷ time_variable (codes "u") ∷ time_variable (codes "v") ∷ time_variable (codes "v") ∷ time_variable (codes "u") ∷ []

pub trip_leaves : (seed size : ℕ) → LiesByTrip before_cell seed size leaves_variables leaves
trip_leaves seed size env h none =
    let v : ℤ = env.times (codes "v") in
    let w : ℤ = env.times (codes "w") in
    let u : ℤ = env.times (codes "u") in
    let k : Text = env.texts (codes "k") in
    let on = on_some seed size (v +ℤ pos 0) (w +ℤ pos 0) k h.0 in
    let i : ℕ = on.0 in
    let soon = above u v (v -ℤ u) refl h.1.0 h.1.1.0 in
    let at_v : IsAt (departure seed i) v = is_at (departure seed i) v (omega arith) on.2.departs in
    let at_w : IsAt (arrival seed i) w = is_at (arrival seed i) w (omega arith) on.2.arrives in
    let at_u : IsAt (minute_before (departure seed i) soon.0) u = at_before (departure seed i) soon.0 u v (omega arith) soon.1 on.2.departs soon.2 in
    at_pair (before_cell seed) size leaves_variables env none i soon.0 on.1 soon.1 (at_v, (at_w, (on.2.runs, (at_u, (at_v, (at_v, (at_u, tt)))))))
