-- Where the kept reach is low, each part leaves room for its bounds, also when the bound variables are dropped.
use Rattle.std.proofs.Common.{◌≡◌, ◌<◌, ◌≤◌, ◌+◌, ◌*◌, ◌^◌, ℕ, List, [], ◌∷◌, length, map, Contains, inl, inr, subst, arith}
use Rattle.std.specs.Prelude.{max}
use Rattle.std.proofs.Math.Nat.{pow-le-pow_right}
use Rattle.std.proofs.lemmas.Nat.{mul-le, pow_pos}
use Rattle.lrp_model.specs.Reach.{greatest, test_reach}
use Rattle.lrp_model.specs.Sorts.{time_count}
use Rattle.lrp_model.specs.declared.relations.Column.{Column}
use Rattle.lrp_model.proofs.Decided.{cons_cases}
use Rattle.lrp_tables.specs.Calls.{tests_reach}
use Rattle.lrp_limits.proofs.Greatest.{greatest-append}
use Rattle.lrp_kept.specs.Sizes.{joined_reach, reach_in, scaled_over}
use Rattle.lrp_kept.specs.declared.disjuncts.Disjunct.{Disjunct}
use Rattle.lrp_kept.specs.declared.disjuncts.JoinedAtom.{JoinedAtom}

-- no number is above the greatest
pub below_greatest : {X : Type 0} (f : X → ℕ) (xs : List X) (x : X) → Contains xs x → f x ≤ greatest (map f xs)
below_greatest f [] x i = absurd (let l : i.0 < 0 = i.1 in omega (arith, l))
below_greatest f (y ∷ xs) x i = elim (cons_cases y x xs i) [
  | inl e ↦ subst (λ z. f z ≤ max (f y) (greatest (map f xs))) e (omega arith)
  | inr more ↦ let l : f x ≤ greatest (map f xs) = below_greatest f xs x more in omega (arith, l)
]

-- what is below the one factor, by a lower power of two
pub room : (t T x R : ℕ) → t ≤ T → x ≤ R → 2 ^ t * x ≤ R * 2 ^ T
room t T x R l m = let a : 2 ^ t * x ≤ 2 ^ T * R = mul-le (2 ^ t) x (2 ^ T) R (pow-le-pow_right (omega arith) l) m in omega (arith, a)

at_least : (n x : ℕ) → x ≤ 2 ^ n * x
at_least n x = let p : 0 < 2 ^ n = pow_pos n in let a : 1 * x ≤ 2 ^ n * x = mul-le 1 x (2 ^ n) x (omega (arith, p)) (omega arith) in omega (arith, a)

-- the greatest reach of the disjuncts, with all their steps
abbrev pub stepped_reach : List ℕ → ℕ → List Disjunct → ℕ
stepped_reach bounds P ds = greatest (map (reach_in bounds P) ds) + (greatest (map (λ (e : Disjunct). length e.atoms.items) ds) + greatest (map (λ (e : Disjunct). length e.tests) ds)) * P

-- the most time variables that one of them binds
abbrev pub most_bound : List Disjunct → ℕ
most_bound ds = greatest (map (λ (e : Disjunct). time_count e.bound) ds)

-- what of one disjunct is no higher
module _ (bounds : List ℕ) (P : ℕ) (ds : List Disjunct) (d : Disjunct) (listed : Contains ds d) (some : 0 < length d.atoms.items) where
  pub low_times : time_count d.bound ≤ most_bound ds
  low_times = below_greatest (λ (e : Disjunct). time_count e.bound) ds d listed

  own_reach : reach_in bounds P d ≤ greatest (map (reach_in bounds P) ds)
  own_reach = below_greatest (reach_in bounds P) ds d listed

  parts : reach_in bounds P d ≡ max (greatest (map (joined_reach bounds P) d.atoms.items)) (tests_reach d.tests)
  parts = greatest-append (map (joined_reach bounds P) d.atoms.items) (map test_reach d.tests)

  pub low_atom : (a : JoinedAtom) → Contains d.atoms.items a → joined_reach bounds P a ≤ stepped_reach bounds P ds
  low_atom a i =
      let l : joined_reach bounds P a ≤ greatest (map (joined_reach bounds P) d.atoms.items) = below_greatest (joined_reach bounds P) d.atoms.items a i in
      let e = parts in
      let o : reach_in bounds P d ≤ greatest (map (reach_in bounds P) ds) = own_reach in
      omega (arith, l, e, o)

  pub low_tests : tests_reach d.tests + P ≤ stepped_reach bounds P ds
  low_tests =
      let steps : ℕ = greatest (map (λ (e : Disjunct). length e.atoms.items) ds) + greatest (map (λ (e : Disjunct). length e.tests) ds) in
      let e = parts in
      let o : reach_in bounds P d ≤ greatest (map (reach_in bounds P) ds) = own_reach in
      let n : length d.atoms.items ≤ greatest (map (λ (e : Disjunct). length e.atoms.items) ds) = below_greatest (λ (e : Disjunct). length e.atoms.items) ds d listed in
      let p : 1 * P ≤ steps * P = mul-le 1 P steps P (omega (arith, n, some)) (omega arith) in
      omega (arith, e, o, p)

module _ (bounds : List ℕ) (P : ℕ) (head : List Column) (ds : List Disjunct) (high : scaled_over bounds P head ds ≤ 2 ^ 62) (d : Disjunct) (listed : Contains ds d) (some : 0 < length d.atoms.items) where
  low_reach : stepped_reach bounds P ds * 2 ^ most_bound ds ≤ 2 ^ 62
  low_reach =
      let h : 2 ^ (time_count head + 1) * (stepped_reach bounds P ds * 2 ^ most_bound ds) ≤ 2 ^ 62 = high in
      let a : stepped_reach bounds P ds * 2 ^ most_bound ds ≤ 2 ^ (time_count head + 1) * (stepped_reach bounds P ds * 2 ^ most_bound ds) = at_least (time_count head + 1) (stepped_reach bounds P ds * 2 ^ most_bound ds) in
      omega (arith, h, a)

  -- what is no higher than the greatest reach with all steps
  within : (x : ℕ) → x ≤ stepped_reach bounds P ds → 2 ^ time_count d.bound * x ≤ 2 ^ 62
  within x l =
      let a : 2 ^ time_count d.bound * x ≤ stepped_reach bounds P ds * 2 ^ most_bound ds = room (time_count d.bound) (most_bound ds) x (stepped_reach bounds P ds) (low_times bounds P ds d listed some) l in
      let b : stepped_reach bounds P ds * 2 ^ most_bound ds ≤ 2 ^ 62 = low_reach in
      omega (arith, a, b)

  pub atom_room : (a : JoinedAtom) → Contains d.atoms.items a → 2 ^ time_count d.bound * joined_reach bounds P a ≤ 2 ^ 62
  atom_room a i = within (joined_reach bounds P a) (low_atom bounds P ds d listed some a i)

  pub tests_room : 2 ^ time_count d.bound * (tests_reach d.tests + P) ≤ 2 ^ 62
  tests_room = within (tests_reach d.tests + P) (low_tests bounds P ds d listed some)

  pub at_most : (x : ℕ) → 2 ^ time_count d.bound * x ≤ 2 ^ 62 → x ≤ 2 ^ 62
  at_most x h = let a : x ≤ 2 ^ time_count d.bound * x = at_least (time_count d.bound) x in omega (arith, h, a)
