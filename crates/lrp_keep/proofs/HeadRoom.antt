-- Where the scaled reach is low, each part leaves room for all doublings of its bounds.
use Rattle.std.proofs.Common.{◌≡◌, ◌<◌, ◌≤◌, ◌+◌, ◌*◌, ◌^◌, ℕ, List, length, Contains, arith}
use Rattle.std.proofs.lemmas.Nat.{mul-le}
use Rattle.lrp_model.specs.Sorts.{time_count}
use Rattle.lrp_model.specs.declared.relations.Column.{Column}
use Rattle.lrp_tables.specs.Calls.{tests_reach}
use Rattle.lrp_kept.specs.Sizes.{joined_reach, scaled_over}
use Rattle.lrp_kept.specs.declared.disjuncts.Disjunct.{Disjunct}
use Rattle.lrp_kept.specs.declared.disjuncts.JoinedAtom.{JoinedAtom}
use Rattle.lrp_kept.proofs.Room.{low_atom, low_tests, low_times, most_bound, room, stepped_reach}

module _ (bounds : List ℕ) (P : ℕ) (head : List Column) (ds : List Disjunct) (high : scaled_over bounds P head ds ≤ 2 ^ 62) (d : Disjunct) (listed : Contains ds d) (some : 0 < length d.atoms.items) where
  near : (x : ℕ) → x ≤ stepped_reach bounds P ds → 2 ^ (time_count head + 1) * 2 ^ time_count d.bound * x ≤ 2 ^ 62
  near x l =
      let a : 2 ^ time_count d.bound * x ≤ stepped_reach bounds P ds * 2 ^ most_bound ds = room (time_count d.bound) (most_bound ds) x (stepped_reach bounds P ds) (low_times bounds P ds d listed some) l in
      let b : 2 ^ (time_count head + 1) * (2 ^ time_count d.bound * x) ≤ 2 ^ (time_count head + 1) * (stepped_reach bounds P ds * 2 ^ most_bound ds) = mul-le (2 ^ (time_count head + 1)) (2 ^ time_count d.bound * x) (2 ^ (time_count head + 1)) (stepped_reach bounds P ds * 2 ^ most_bound ds) (omega arith) a in
      let h : 2 ^ (time_count head + 1) * (stepped_reach bounds P ds * 2 ^ most_bound ds) ≤ 2 ^ 62 = high in
      let e : 2 ^ (time_count head + 1) * 2 ^ time_count d.bound * x ≡ 2 ^ (time_count head + 1) * (2 ^ time_count d.bound * x) = omega arith in
      omega (arith, b, h, e)

  -- a row whose bounds are no greater than its relation's
  pub near_row : (a : JoinedAtom) → Contains d.atoms.items a → (x : ℕ) → x ≤ joined_reach bounds P a → 2 ^ (time_count head + 1) * 2 ^ time_count d.bound * x ≤ 2 ^ 62
  near_row a i x l = near x (let m : joined_reach bounds P a ≤ stepped_reach bounds P ds = low_atom bounds P ds d listed some a i in omega (arith, l, m))

  pub near_tests : 2 ^ (time_count head + 1) * 2 ^ time_count d.bound * (tests_reach d.tests + P) ≤ 2 ^ 62
  near_tests = near (tests_reach d.tests + P) (low_tests bounds P ds d listed some)
