-- Values that no tuple of a zone is below, and how they are raised.
use Rattle.std.proofs.Common.{◌≡◌, ℕ, zero, suc, ◌+◌, ◌<◌, ◌≤◌, ◌⊎◌, inl, inr, List, Option, take, length, set, arith, sym, subst, ◌∙◌, length-set, get_or-set_same, get_or-set_other}
use Rattle.std.specs.Prelude.{ℤ, pos, neg_ℤ, ◌+ℤ◌, ◌-ℤ◌, ◌≤ℤ◌, ◌<ℤ◌}
use Rattle.std.specs.Int.{int_rem_euclid}
use Rattle.std.proofs.lemmas.Int.{ints}
use Rattle.lrp_theory.specs.Bounds.{Within}
use Rattle.lrp_theory.specs.Divides.{Divides}
use Rattle.lrp_theory.specs.Entries.{entry, node}
use Rattle.lrp_theory.proofs.Below.{within_less}
use Rattle.lrp_theory.proofs.Modulo.{Divides--, Divides-neg, Divides-is, rem_divides, rem_between, multiple_below}
use Rattle.lrp_zone.specs.Order.{at}
use Rattle.lrp_zone.specs.Raising.{AreLowest, IsBoundedBy, IsFirstValue, IsFromLow}
use Rattle.lrp_zone.specs.Windows.{IsBoxEmpty, IsBoxLeast}
use Rattle.lrp_zone.specs.Zones.{ZoneView, IsMember, columns_of}

-- the number low + (r - low) mod k is the first one of the residue from low on
pub first_found : (k : ℕ) (r low m v : ℤ) → 0 < k → m ≡ int_rem_euclid (r -ℤ low) (pos k) → v ≡ low +ℤ m → IsFirstValue k r low v
first_found k r low m v period e f =
    let one : pos 1 ≤ℤ pos k = omega (arith, ints) in
    let between = rem_between (pos k) (r -ℤ low) m one e in
    let from : pos 0 ≤ℤ m = between.0 in
    let below : m <ℤ pos k = between.1 in
    let own : Divides (pos k) (v -ℤ r) = Divides-is (pos k) (neg_ℤ ((r -ℤ low) -ℤ m)) _ (omega (arith, ints)) (Divides-neg (pos k) _ (rem_divides (pos k) (r -ℤ low) m one e)) in
    record {
      from_low = omega (arith, ints);
      lowest = λ y l h.
          let d : Divides (pos k) (v -ℤ y) = Divides-is (pos k) _ _ (omega (arith, ints)) (Divides-- (pos k) _ _ own h) in
          let z : (v -ℤ y) ≤ℤ pos 0 = multiple_below (pos k) (v -ℤ y) d one (omega (arith, ints)) in
          omega (arith, ints);
    }

-- the same by other names
pub first_moved : (k n : ℕ) (r t low start x : ℤ) → IsFirstValue k r low x → k ≡ n → r ≡ t → low ≡ start → IsFirstValue n t start x
first_moved k n r t low start x h e f g = rw (← e, ← f, ← g) h

-- a remainder by other names
pub rest_is : (r low : ℤ) (k : ℕ) (m a : ℤ) → m ≡ int_rem_euclid a (pos k) → a ≡ r -ℤ low → m ≡ int_rem_euclid (r -ℤ low) (pos k)
rest_is r low k m a e f = rw (← f) e

-- and no number from low on is below low
pub low_found : (k : ℕ) (r low v : ℤ) → v ≡ low → IsFirstValue k r low v
low_found k r low v e = record { from_low = omega (arith, ints); lowest = λ y l h. omega (arith, ints) }

-- the values after one more that is written are zeros still
pub zeros_more : (out : List ℤ) (i : ℕ) (w : ℤ) → ((j : ℕ) → i ≤ j → at out j ≡ pos 0) → (j : ℕ) → i + 1 ≤ j → at (set out i w) j ≡ pos 0
zeros_more out i w old j l = get_or-set_other out i j w (pos 0) (omega arith) ∙ old j (omega arith)

-- two numbers are equal, or not
same_or : (k j : ℕ) → (k ≡ j) ⊎ (k ≡ j → ⊥)
same_or k j = grind arith

-- what holds of each value holds once one of them is another one of which it holds
at_each : (xs : List ℤ) (j : ℕ) (w : ℤ) → j < length xs → (P : ℕ → ℤ → Type 0) → ((k : ℕ) → P k (at xs k)) → P j w → (k : ℕ) → P k (at (set xs j w) k)
at_each xs j w l P old here k = elim (same_or k j) [
  | inl e ↦ subst (λ n. P n (at (set xs j w) n)) (sym e) (subst (P j) (sym (get_or-set_same xs j w (pos 0) l)) here)
  | inr n ↦ subst (P k) (sym (get_or-set_other xs j k w (pos 0) n)) (old k)
]

module _ (z : ZoneView) (low : List ℤ) where
  -- the first values of the residues are at most the values of each tuple from the low ends on
  pub lowest_first : (xs : List ℤ) → length xs ≡ 8 → ((i : ℕ) → columns_of z ≤ i → at xs i ≡ pos 0)
      → ((i : ℕ) → i < columns_of z → IsFirstValue z.period (node z.residues (i + 1)) (at low i) (at xs i)) → AreLowest z low xs
  lowest_first xs size zeros each = record {
    size = size;
    zeros = zeros;
    from_low = record { each = λ i l. (each i l).from_low };
    lowest = λ ys m f i l.
        let e : i + 1 ≡ suc i = omega arith in
        (each i l).lowest (at ys i) (f.each i l) (subst (λ j. Divides (pos z.period) (at ys i -ℤ node z.residues j)) (sym e) (m.cell.each (suc i) (omega arith)));
  }

  -- a node of values is at most that of a tuple from the low ends on
  node_below : (xs ys : List ℤ) → AreLowest z low xs → IsMember z ys → IsFromLow (columns_of z) low ys → (i : ℕ) → i ≤ columns_of z → node xs i ≤ℤ node ys i
  node_below xs ys a m f zero l = omega (arith, ints)
  node_below xs ys a m f (suc i) l = a.lowest ys m f i (omega arith)

  -- one value is raised to what a bound and another value leave it
  pub raised_one : (xs : List ℤ) (i j : ℕ) (value other r w : ℤ) (bound : Option ℤ) → i ≤ columns_of z → j < columns_of z → columns_of z ≤ 8 → value ≤ℤ r
      → ((x y : ℤ) → other ≤ℤ x → value ≤ℤ y → Within (x -ℤ y) bound → r ≤ℤ y) → value ≡ at xs j → other ≡ node xs i → bound ≡ entry z.bounds i (j + 1) → w ≡ r → AreLowest z low xs → AreLowest z low (set xs j w)
  raised_one xs i j value other r w bound il jl few kept lowest e f b g a =
      let size : length xs ≡ 8 = a.size in
      let inside : j < length xs = omega (arith, size) in
      record {
        size = length-set xs j w ∙ size;
        zeros = λ k l. get_or-set_other xs j k w (pos 0) (omega arith) ∙ a.zeros k l;
        from_low = record {
          each = at_each xs j w inside (λ k v. k < columns_of z → at low k ≤ℤ v) (λ k l. a.from_low.each k l)
              (λ l. let own : at low j ≤ℤ at xs j = a.from_low.each j l in omega (arith, ints));
        };
        lowest = λ ys m h. at_each xs j w inside (λ k v. k < columns_of z → v ≤ℤ at ys k) (λ k l. a.lowest ys m h k l)
            (λ l.
            let d : suc j ≡ j + 1 = omega arith in
            let met : Within (node ys i -ℤ at ys j) (entry z.bounds i (j + 1)) = subst (λ k. Within (node ys i -ℤ at ys j) (entry z.bounds i k)) d (m.meets i (suc j) il (omega arith)) in
            let other_low : node xs i ≤ℤ node ys i = node_below xs ys a m h i il in
            let own_low : at xs j ≤ℤ at ys j = a.lowest ys m h j l in
            let up : r ≤ℤ at ys j = lowest (node ys i) (at ys j) (omega (arith, ints)) (omega (arith, ints)) (rw b met) in
            omega (arith, ints));
      }

  -- where a value passes an end, no tuple is in the box
  pub none_passed : (xs high : List ℤ) (i : ℕ) (value end : ℤ) (bound : Option ℤ) → i < columns_of z → (IsBoundedBy value end bound → ⊥) → value ≡ at xs i → end ≡ at high i → bound ≡ entry z.bounds (i + 1) 0 → AreLowest z low xs → IsBoxEmpty z low high
  none_passed xs high i value end bound l past e f g a = record {
    none = λ ys m b.
        let from : IsFromLow (columns_of z) low ys = record { each = λ k kl. (b.each k kl).0 } in
        let own : at xs i ≤ℤ at ys i = a.lowest ys m from i l in
        let top : at ys i ≤ℤ at high i = (b.each i l).1 in
        let d : suc i ≡ i + 1 = omega arith in
        let met : Within (at ys i -ℤ pos 0) (entry z.bounds (i + 1) 0) = subst (λ k. Within (at ys i -ℤ pos 0) (entry z.bounds k 0)) d (m.meets (suc i) 0 (omega arith) (omega arith)) in
        past (record {
          high_end = omega (arith, ints);
          within = within_less value (at ys i -ℤ pos 0) bound (omega (arith, ints)) (rw g met);
        });
  }

  -- where the values are a tuple in the box, it is the least one
  pub least_found : (xs high : List ℤ) → AreLowest z low xs → ((i : ℕ) → i < columns_of z → at xs i ≤ℤ at high i) → IsMember z (take (columns_of z) xs) → IsBoxLeast z low high xs
  least_found xs high a top m = record {
    holds = record { member = m; zeros = a.zeros };
    box = record { each = λ i l. (a.from_low.each i l, top i l) };
    least = λ ys n b i l. a.lowest ys n (record { each = λ k kl. (b.each k kl).0 }) i l;
  }
