-- The limits of kept answers, one disjunct, atom or relation at a time.
use Rattle.std.proofs.Common.{◌≡◌, ◌≤◌, ◌<◌, ◌+◌, ◌*◌, ◌^◌, ℕ, zero, suc, max, List, [], ◌∷◌, length, take, get_or, map, refl, sym, ap, ◌∙◌, mul_comm, arith}
use Rattle.std.specs.Prelude.{slice_index_or}
use Rattle.std.proofs.lemmas.List.{get_or_past, length-map}
use Rattle.lrp_model.specs.Sorts.{time_count}
use Rattle.lrp_model.specs.Reach.{greatest}
use Rattle.lrp_model.specs.declared.relations.Column.{Column}
use Rattle.lrp_limits.specs.Capped.{capped}
use Rattle.lrp_limits.proofs.Greatest.{greatest_map_step}
use Rattle.lrp_kept.specs.Held.{greatest_bounds}
use Rattle.lrp_kept.specs.Sizes.{AreSizes, atom_count, reach_in, scaled_over, test_count, bound_times}
use Rattle.lrp_kept.specs.declared.disjuncts.Disjunct.{Disjunct}
use Rattle.lrp_kept.specs.declared.limits.Sizes.{Sizes}
use Rattle.lrp_kept.specs.declared.rows.HeldRelation.{HeldRelation}

-- ---- the greatest bound of a relation

pub most_at : (rs : List HeldRelation) (n : ℕ) (r : HeldRelation) → n < length rs → (get_or rs n r).most ≡ slice_index_or (greatest_bounds rs) n 0
most_at [] n r low = absurd (omega (arith, low))
most_at (s ∷ rs) zero r low = refl
most_at (s ∷ rs) (suc n) r low = most_at rs n r (omega (arith, low))

pub most_past : (rs : List HeldRelation) (n : ℕ) → length rs ≤ n → 0 ≡ slice_index_or (greatest_bounds rs) n 0
most_past rs n past = sym (get_or_past (greatest_bounds rs) n 0 (omega (arith, past, length-map rs (λ (r : HeldRelation). r.most))))

-- ---- one disjunct more

pub no_sizes : (bounds : List ℕ) (period : ℕ) (most : Sizes) → most.reach ≡ 0 → most.atoms ≡ 0 → most.tests ≡ 0 → most.times ≡ 0 → AreSizes bounds period [] most
no_sizes bounds period most r a t u = record { reach = omega (arith, r); atoms = a; tests = t; times = u }

pub more_sizes : (bounds : List ℕ) (period : ℕ) (ds : List Disjunct) (i : ℕ) (d : Disjunct) (old new : Sizes) (reach times : ℕ) → i < length ds → d ≡ get_or ds i d → AreSizes bounds period (take i ds) old
    → reach ≡ capped (reach_in bounds period d) → times ≡ bound_times d
    → new.reach ≡ max reach old.reach → new.atoms ≡ max (atom_count d) old.atoms → new.tests ≡ max (test_count d) old.tests → new.times ≡ max times old.times
    → AreSizes bounds period (take (i + 1) ds) new
more_sizes bounds period ds i d old new reach times lt is h e f r a t u = record {
  reach = (let g = greatest_map_step (reach_in bounds period) ds i d lt is in let k = h.reach in omega (arith, g, k, e, r));
  atoms = (let g = greatest_map_step atom_count ds i d lt is in let k = h.atoms in omega (arith, g, k, a));
  tests = (let g = greatest_map_step test_count ds i d lt is in let k = h.tests in omega (arith, g, k, t));
  times = (let g = greatest_map_step bound_times ds i d lt is in let k = h.times in omega (arith, g, k, f, u));
}

-- ---- the scaled reach

cap_more : (a b r s : ℕ) → r ≡ capped a → s ≡ capped (r + b) → s ≡ capped (a + b)
cap_more a b r s e f = omega (arith, e, f)

pub scaled_is : (bounds : List ℕ) (period : ℕ) (ds : List Disjunct) (head : List Column) (most : Sizes) (stepped doubled result : ℕ) → AreSizes bounds period ds most
    → stepped ≡ capped (most.reach + (most.atoms + most.tests) * period)
    → ((n : ℕ) → stepped ≡ capped n → doubled ≡ capped (2 ^ most.times * n))
    → ((n : ℕ) → doubled ≡ capped n → result ≡ capped (2 ^ (time_count head + 1) * n))
    → result ≡ capped (scaled_over bounds period head ds)
scaled_is bounds period ds head most stepped doubled result h e d r = r (whole * 2 ^ greatest (map bound_times ds)) twice
  where
    steps : ℕ
    steps = greatest (map atom_count ds) + greatest (map test_count ds)

    whole : ℕ
    whole = greatest (map (reach_in bounds period) ds) + steps * period

    counted : stepped ≡ capped (most.reach + steps * period)
    counted = e ∙ ap (λ n. capped (most.reach + (n + most.tests) * period)) h.atoms ∙ ap (λ n. capped (most.reach + (greatest (map atom_count ds) + n) * period)) h.tests

    once : stepped ≡ capped whole
    once = cap_more (greatest (map (reach_in bounds period) ds)) (steps * period) most.reach stepped h.reach counted

    twice : doubled ≡ capped (whole * 2 ^ greatest (map bound_times ds))
    twice = d whole once ∙ ap (λ n. capped (2 ^ n * whole)) h.times ∙ ap capped (mul_comm (2 ^ greatest (map bound_times ds)) whole)
