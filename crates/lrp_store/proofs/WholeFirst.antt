-- The first tuple of a cell by the ranks of its values: at each column the number of the residue that is nearest to zero.
use Rattle.std.proofs.Common.{◌≡◌, ◌≢◌, ℕ, zero, suc, ◌+◌, ◌*◌, ◌^◌, ◌<◌, ◌≤◌, ◌⊎◌, inl, inr, List, length, take, replicate, set, get_or-set_same, get_or-set_other, length-set, Some, None, to_z, of_z, arith, refl, sym, subst, ◌∙◌, below_more}
use Rattle.std.specs.Prelude.{ℤ, pos, negsuc, nat_abs, ◌-ℤ◌, ◌+ℤ◌, ◌≤ℤ◌, ◌<ℤ◌}
use Rattle.std.specs.Int.{w64}
use Rattle.std.proofs.lemmas.Int.{ints}
use Rattle.std.proofs.lemmas.Bool.{cases_lt, cases_eq}
use Rattle.std.proofs.lemmas.List.{get_or-take, length-take-le, get_or-replicate}
use Rattle.lrp_theory.specs.Bounds.{Within}
use Rattle.lrp_theory.specs.Divides.{Divides}
use Rattle.lrp_theory.specs.Entries.{node, entry, AtMost}
use Rattle.lrp_theory.specs.Residues.{rank}
use Rattle.lrp_theory.proofs.Modulo.{Divides-+, Divides--, Divides-is, Divides-zero, Divides-self, multiple_below}
use Rattle.lrp_theory.proofs.Through.{AtMost-more}
use Rattle.lrp_model.proofs.TupleLaws.{rank_differs}
use Rattle.lrp_zone.specs.Zones.{ZoneView, IsZone, IsMember, IsResidue, columns_of}
use Rattle.lrp_zone.specs.Order.{at}
use Rattle.lrp_store.specs.Least.{IsRoom, IsNotNearer, IsNearestOf, IsNearestTo}
use Rattle.lrp_store.specs.Stores.{IsPadded}
use Rattle.lrp_store.proofs.Listed.{word_bound}
use Rattle.lrp_store.proofs.Listed.{word64_node}

-- numbers from zero on have the ranks in their order
rank_up : (x y : ℤ) → pos 0 ≤ℤ x → x ≤ℤ y → rank x ≤ rank y
rank_up (pos zero) y h l = omega arith
rank_up (pos (suc n)) (pos zero) h l = absurd (omega (arith, ints))
rank_up (pos (suc n)) (pos (suc m)) h l = let k : n ≤ m = omega (arith, ints) in omega arith
rank_up (pos (suc n)) (negsuc m) h l = absurd (omega (arith, ints))
rank_up (negsuc n) y h l = absurd (omega (arith, ints))

-- a number whose magnitude is no greater than that of one below zero has no greater rank
rank_across : (x y : ℤ) → pos 0 ≤ℤ x → y ≤ℤ (pos 0 -ℤ x) → rank x ≤ rank y
rank_across (pos zero) y h l = omega arith
rank_across (pos (suc n)) (pos m) h l = absurd (omega (arith, ints))
rank_across (pos (suc n)) (negsuc m) h l = let k : n ≤ m = omega (arith, ints) in omega arith
rank_across (negsuc n) y h l = absurd (omega (arith, ints))

-- numbers below zero have the ranks in their order downwards
rank_down : (x y : ℤ) → x <ℤ pos 0 → y ≤ℤ x → rank x ≤ rank y
rank_down (pos n) y h l = absurd (omega (arith, ints))
rank_down (negsuc n) (pos m) h l = absurd (omega (arith, ints))
rank_down (negsuc n) (negsuc m) h l = let k : n ≤ m = omega (arith, ints) in omega arith

-- a number above zero whose magnitude is greater than that of one below zero has a greater rank
rank_back : (x y : ℤ) → x <ℤ pos 0 → (pos 0 -ℤ x) <ℤ y → rank x ≤ rank y
rank_back (pos n) y h l = absurd (omega (arith, ints))
rank_back (negsuc n) (pos zero) h l = absurd (omega (arith, ints))
rank_back (negsuc n) (pos (suc m)) h l = let k : n < m = omega (arith, ints) in omega arith
rank_back (negsuc n) (negsuc m) h l = absurd (omega (arith, ints))

module _ (k : ℕ) (r : ℤ) (low : pos 0 ≤ℤ r) (high : r <ℤ pos k) where
  -- the period is at least 1
  one : pos 1 ≤ℤ pos k
  one = omega (arith, ints)

  -- a number of the residue from zero on is at least the residue
  above : (y : ℤ) → Divides (pos k) (y -ℤ r) → pos 0 ≤ℤ y → r ≤ℤ y
  above y d h =
      let l : (r -ℤ y) ≤ℤ pos 0 = multiple_below (pos k) (r -ℤ y) (Divides-is (pos k) (pos 0 -ℤ (y -ℤ r)) (r -ℤ y) (omega (arith, ints)) (Divides-- (pos k) (pos 0) (y -ℤ r) (Divides-zero (pos k)) d)) one (omega (arith, ints)) in
      omega (arith, ints)

  -- and one below zero is at most the residue less the period
  below : (y : ℤ) → Divides (pos k) (y -ℤ r) → y <ℤ pos 0 → y ≤ℤ (r -ℤ pos k)
  below y d h =
      let l : ((y -ℤ r) +ℤ pos k) ≤ℤ pos 0 = multiple_below (pos k) ((y -ℤ r) +ℤ pos k) (Divides-+ (pos k) (y -ℤ r) (pos k) d (Divides-self (pos k))) one (omega (arith, ints)) in
      omega (arith, ints)

  -- a number is on one side of zero
  side : (y : ℤ) → (pos 0 ≤ℤ y) ⊎ (y <ℤ pos 0)
  side (pos n) = inl (omega (arith, ints))
  side (negsuc n) = inr (omega (arith, ints))

  -- a residue of at most half the period is the nearest
  pub low_half : (x : ℤ) → x ≡ r → r ≤ℤ (pos k -ℤ r) → IsNearestOf k r x
  low_half x e half = subst (IsNearestOf k r) (sym e) (record {
    residue = Divides-is (pos k) (pos 0) (r -ℤ r) (omega (arith, ints)) (Divides-zero (pos k));
    first = λ y d. elim (side y) [ inl up ↦ rank_up r y low (above y d up) | inr down ↦ let b : y ≤ℤ (r -ℤ pos k) = below y d down in rank_across r y low (omega (arith, ints)) ];
    small = (omega (arith, ints), omega (arith, ints));
  })

  -- of a greater one the number below zero
  pub high_half : (x : ℤ) → x ≡ r -ℤ pos k → (pos k -ℤ r) <ℤ r → IsNearestOf k r x
  high_half x e half = subst (IsNearestOf k r) (sym e) (record {
    residue = Divides-is (pos k) (pos 0 -ℤ pos k) ((r -ℤ pos k) -ℤ r) (omega (arith, ints)) (Divides-- (pos k) (pos 0) (pos k) (Divides-zero (pos k)) (Divides-self (pos k)));
    first = λ y d. elim (side y) [ inl up ↦ let a : r ≤ℤ y = above y d up in rank_back (r -ℤ pos k) y (omega (arith, ints)) (omega (arith, ints)) | inr down ↦ rank_down (r -ℤ pos k) y (omega (arith, ints)) (below y d down) ];
    small = (omega (arith, ints), omega (arith, ints));
  })

-- the first n values are the nearest of their residues, and zeros are after them
pub record AreNearest (k : ℕ) (rs : List ℤ) (n : ℕ) (xs : List ℤ) : Type 0 where
  pub padded : IsPadded (pos 0) n xs
  pub each : (i : ℕ) → i < n → IsNearestOf k (at rs i) (at xs i)

-- one more
pub one_nearest : (k : ℕ) (rs : List ℤ) (n : ℕ) (xs : List ℤ) (x : ℤ) → n < 8 → IsNearestOf k (at rs n) x → AreNearest k rs n xs → AreNearest k rs (n + 1) (set xs n x)
one_nearest k rs n xs x low near before =
    let fits : n < length xs = (let s : length xs ≡ 8 = before.padded.size in omega arith) in record {
      padded = record {
        size = length-set xs n x ∙ before.padded.size;
        zeros = λ i l. get_or-set_other xs n i x (pos 0) (apart i l) ∙ before.padded.zeros i (omega arith);
      };
      each = below_more (λ i. IsNearestOf k (at rs i) (at (set xs n x) i)) n
          (λ i l. subst (IsNearestOf k (at rs i)) (sym (get_or-set_other xs n i x (pos 0) (below_it i l))) (before.each i l))
          (subst (IsNearestOf k (at rs n)) (sym (get_or-set_same xs n x (pos 0) fits)) near);
    }
  where
    apart : (i : ℕ) → n + 1 ≤ i → i ≢ n
    apart i l e = omega arith

    below_it : (i : ℕ) → i < n → i ≢ n
    below_it i l e = omega arith

-- they are the first tuple of the cell
module _ (z : ZoneView) (is : IsZone z) (free : (i j : ℕ) → i < 9 → j < 9 → entry z.bounds i j ≡ None) (n : ℕ) (columns : columns_of z ≡ n) (xs : List ℤ) (are : AreNearest z.period z.residues n xs) where
  -- at most eight columns
  few : n ≤ 8
  few = let c : columns_of z ≤ 8 = is.shape.columns in omega arith

  -- the values as a list
  size : length (take n xs) ≡ n
  size = length-take-le n xs (let s : length xs ≡ 8 = are.padded.size in let f : n ≤ 8 = few in omega arith)

  -- each has its residue
  agrees : (i : ℕ) → i ≤ n → Divides (pos z.period) (node (take n xs) i -ℤ node z.residues i)
  agrees zero l = Divides-is (pos z.period) (pos 0) (pos 0 -ℤ pos 0) (omega (arith, ints)) (Divides-zero (pos z.period))
  agrees (suc i) l = subst (λ v. Divides (pos z.period) (v -ℤ at z.residues i)) (sym (get_or-take n xs i (pos 0) (omega arith))) (are.each i (omega arith)).residue

  -- they are a tuple
  member : IsMember z (take n xs)
  member = record {
    cell = record { count = size ∙ sym columns; each = λ i l. agrees i (omega arith) };
    meets = λ i j il jl. let f : n ≤ 8 = few in subst (λ b. Within (node (take n xs) i -ℤ node (take n xs) j) b) (sym (free i j (omega arith) (omega arith))) tt;
  }

  -- no other tuple has a lesser rank at the first place where they differ
  not_nearer : (ys : List ℤ) → IsMember z ys → (m : ℕ) → m ≤ n → IsNotNearer m xs ys
  not_nearer ys h zero l = record { place = 0; low = omega arith; same = λ i il. absurd (omega arith); farther = λ f. absurd (omega arith) }
  not_nearer ys h (suc m) l = by (not_nearer ys h m (omega arith))
    where
      here : rank (at xs m) ≤ rank (at ys m)
      here = (are.each m (omega arith)).first (at ys m) (h.cell.each (suc m) (omega arith))

      at_end : (same : (i : ℕ) → i < m → at ys i ≡ at xs i) → (rank (at xs m) ≡ rank (at ys m)) ⊎ (rank (at xs m) ≢ rank (at ys m)) → IsNotNearer (suc m) xs ys
      at_end same (inl e) = record { place = suc m; low = omega arith; same = λ i il. elim (cases_lt i m) [ inl a ↦ same i a | inr b ↦ let k : m ≡ i = omega arith in subst (λ p. at ys p ≡ at xs p) k (sym (rank_differs (at xs m) (at ys m) e)) ]; farther = λ f. absurd (omega arith) }
      at_end same (inr ne) = let r : rank (at xs m) ≤ rank (at ys m) = here in record { place = m; low = omega arith; same = same; farther = λ f. omega arith }

      by : IsNotNearer m xs ys → IsNotNearer (suc m) xs ys
      by before = elim (cases_lt before.place m) [
        | inl a ↦ record { place = before.place; low = omega arith; same = before.same; farther = λ f. before.farther a }
        | inr b ↦ let le : before.place ≤ m = before.low in at_end (λ i il. before.same i (omega arith)) (cases_eq (rank (at xs m)) (rank (at ys m)))
      ]

  -- so they are the first
  pub whole_nearest : IsNearestTo z n xs
  whole_nearest = record {
    padded = are.padded;
    member = take n xs;
    is = member;
    same = λ i l. get_or-take n xs i (pos 0) l;
    first = λ ys h. not_nearer ys h n (omega arith);
    near = λ h room i l. near_at h room i l;
  }
    where
      less : (h : ℕ) → 0 < n → h ≤ n * h
      less h l = grind arith

      near_at : (h : ℕ) → IsRoom z h → (i : ℕ) → i ≤ n → AtMost (n * h) (Some (node xs i))
      near_at h room zero l = (omega (arith, ints), omega (arith, ints))
      near_at h room (suc i) l =
          let p : z.period ≤ h = room.period in
          let m : h ≤ n * h = less h (omega arith) in
          AtMost-more z.period (n * h) (Some (at xs i)) (omega arith) (are.each i (omega arith)).small

-- ---- in the forms of calls

-- a nearest number by words
pub low_word : (r p v : ℤ) → pos 0 ≤ℤ r → r <ℤ p → v ≡ r → r ≤ℤ (p -ℤ r) → IsNearestOf (nat_abs p) r v
low_word r (pos k) v low high e half = low_half k r low high v e half
low_word r (negsuc n) v low high e half = absurd (omega (arith, ints))

pub high_word : (r p v : ℤ) → pos 0 ≤ℤ r → r <ℤ p → v ≡ r -ℤ p → (p -ℤ r) <ℤ r → IsNearestOf (nat_abs p) r v
high_word r (pos k) v low high e half = high_half k r low high v e half
high_word r (negsuc n) v low high e half = absurd (omega (arith, ints))

-- a difference of words
pub word_less : (r p : ℤ) → pos 0 ≤ℤ r → r <ℤ p → p ≤ℤ pos (2 ^ 62) → to_z w64 (of_z w64 (to_z w64 (of_z w64 r) -ℤ to_z w64 (of_z w64 p))) ≡ r -ℤ p
word_less r p low high small = omega (arith, ints)

-- a nearest number is kept in a word
pub near_kept : (k : ℕ) → k ≤ 2 ^ 62 → (p r v x : ℤ) → p ≡ pos k → v ≡ r → IsNearestOf (nat_abs p) v x → IsNearestOf k r (to_z w64 (of_z w64 x))
near_kept k le p r v x ep er h =
    let n : IsNearestOf k r x = subst (λ w. IsNearestOf k w x) er (subst (λ q. IsNearestOf (nat_abs q) v x) ep h) in
    subst (IsNearestOf k r) (sym (word_bound x (AtMost-more k (2 ^ 62) (Some x) le n.small))) n

module _ (k n : ℕ) (rs : List ℤ) (is : IsZone (record { period = k; residues = take n rs; bounds = replicate 81 None })) (columns : length (take n rs) ≡ n) where
  -- a residue of the cell
  pub residue_at : (i : ℕ) → i < n → IsResidue k (at rs i)
  residue_at i l = subst (IsResidue k) (get_or-take n rs i (pos 0) l) (is.shape.residues (suc i) (omega arith))

  -- is kept in a word
  pub residue_word : (i : ℕ) → i < n → to_z w64 (of_z w64 (at rs i)) ≡ at rs i
  residue_word i l = let r = residue_at i l in word64_node (at rs i) (at rs i) k refl r.low r.high is.shape.period_high

  -- the nearest numbers are the first tuple
  pub cell_nearest : (xs : List ℤ) → AreNearest k rs n xs → IsNearestTo (record { period = k; residues = take n rs; bounds = replicate 81 None }) n xs
  cell_nearest xs are =
      whole_nearest (record { period = k; residues = take n rs; bounds = replicate 81 None }) is
      (λ i j il jl. (let small : 9 * i + j < 81 = omega arith in get_or-replicate 81 (9 * i + j) None None small)) n columns xs
      (record { padded = are.padded; each = λ i l. subst (λ r. IsNearestOf k r (at xs i)) (sym (get_or-take n rs i (pos 0) l)) (are.each i l) })
