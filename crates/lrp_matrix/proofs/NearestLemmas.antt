-- The first number of a residue from a start on, and which of two numbers is nearer to zero.
use Rattle.std.proofs.Common.{◌≡◌, zero, suc, ◌<◌, ◌≤◌, Option, Some, None, arith}
use Rattle.std.specs.Prelude.{ℤ, pos, negsuc, ◌+ℤ◌, ◌-ℤ◌, ◌≤ℤ◌, ◌<ℤ◌, neg_ℤ, unsigned_abs}
use Rattle.std.specs.Int.{int_rem_euclid}
use Rattle.std.proofs.lemmas.Int.{ints, by_lt_z}
use Rattle.lrp_theory.specs.Bounds.{Within}
use Rattle.lrp_theory.specs.Divides.{Divides}
use Rattle.lrp_theory.proofs.Modulo.{Divides--, Divides-neg, Divides-is, rem_divides, rem_between, multiple_below, tight_is, tight_greatest}
use Rattle.lrp_theory.proofs.Below.{within_less}
use Rattle.lrp_matrix.specs.Ranges.{Above}
use Rattle.lrp_matrix.specs.Nearest.{IsBetween, IsNearest, IsLeastAbove, IsLastStart, IsFirstFromZero, IsLastBelowZero}
use Rattle.lrp_theory.specs.Residues.{rank}

-- a greater number is above the end too
pub above_more : (x y : ℤ) (e : Option ℤ) → x ≤ℤ y → Above x e → Above y e
above_more x y None l h = tt
above_more x y (Some a) l h = omega (arith, ints)

-- a remainder by other names
pub rest_is : (r s k m a b : ℤ) → m ≡ int_rem_euclid a b → a ≡ r -ℤ s → b ≡ k → m ≡ int_rem_euclid (r -ℤ s) k
rest_is r s k m a b e f g = rw (← f, ← g) e

module _ (least most : Option ℤ) (k r s m x : ℤ) (one : pos 1 ≤ℤ k) where
  module _ (start : IsLeastAbove least s) (e : m ≡ int_rem_euclid (r -ℤ s) k) (f : x ≡ s +ℤ m) where
    -- the number s + (r - s) mod k lies from the start on
    from_start : s ≤ℤ x
    from_start = let b : pos 0 ≤ℤ m = (rem_between k (r -ℤ s) m one e).0 in omega (arith, ints)

    -- it has the residue
    of_residue : Divides k (x -ℤ r)
    of_residue = Divides-is k (neg_ℤ ((r -ℤ s) -ℤ m)) _ (omega (arith, ints)) (Divides-neg k _ (rem_divides k (r -ℤ s) m one e))

    -- x = s + (r - s) mod k is the first number of the residue from s on
    first_of_residue : (b : ℤ) → s ≤ℤ b → Divides k (b -ℤ r) → x ≤ℤ b
    first_of_residue b le h =
        let low : m <ℤ k = (rem_between k (r -ℤ s) m one e).1 in
        let d : Divides k (x -ℤ b) = Divides-is k _ _ (omega (arith, ints)) (Divides-- k _ _ of_residue h) in
        let z : (x -ℤ b) ≤ℤ pos 0 = multiple_below k (x -ℤ b) d one (omega (arith, ints)) in
        omega (arith, ints)

    -- so it is the first between the ends, where it is within the high one
    pub first_from_zero : Within x most → IsFirstFromZero least most r k x
    first_from_zero high = record {
      between = record { low = above_more s x least from_start start.above; high = high; residue = of_residue };
      side = let l : s ≤ℤ x = from_start in let z : pos 0 ≤ℤ s = start.side in omega (arith, ints);
      first = λ y h side. first_of_residue y (start.first y side h.low) h.residue;
    }

    -- and where it is not, there is none
    pub none_from_zero : (Within x most → ⊥) → (y : ℤ) → IsBetween least most r k y → pos 0 ≤ℤ y → ⊥
    none_from_zero past y h side = past (within_less x y most (first_of_residue y (start.first y side h.low) h.residue) h.high)

  -- x = s - (s - r) mod k is the last number of the residue up to s
  module _ (start : IsLastStart most s) (e : m ≡ int_rem_euclid (s -ℤ r) k) (f : x ≡ s -ℤ m) where
    -- the number lies up to the start
    to_start : x ≤ℤ s
    to_start = let b : pos 0 ≤ℤ m = (rem_between k (s -ℤ r) m one e).0 in omega (arith, ints)

    -- and none of the residue lies between
    last_of_residue : (b : ℤ) → b ≤ℤ s → Divides k (b -ℤ r) → b ≤ℤ x
    last_of_residue = tight_greatest k s r m x one (rem_between k (s -ℤ r) m one e).1 (tight_is k s r m x one e f) f

    -- so it is the last between the ends, where it is above the low one
    pub last_below_zero : Above x least → IsLastBelowZero least most r k x
    last_below_zero low = record {
      between = record { low = low; high = within_less x s most to_start start.within; residue = tight_is k s r m x one e f };
      side = let l : x ≤ℤ s = to_start in let z : s <ℤ pos 0 = start.side in omega (arith, ints);
      last = λ y h side. last_of_residue y (start.last y side h.high) h.residue;
    }

    -- and where it is not, there is none
    pub none_below_zero : (Above x least → ⊥) → (y : ℤ) → IsBetween least most r k y → y <ℤ pos 0 → ⊥
    none_below_zero past y h side = past (above_more y x least (last_of_residue y (start.last y side h.high) h.residue) h.low)

-- from zero on ranks rise upwards
rank_up : (x y : ℤ) → pos 0 ≤ℤ x → x ≤ℤ y → rank x ≤ rank y
rank_up (pos zero) y h le = omega arith
rank_up (pos (suc n)) (pos zero) h le = absurd (omega (arith, ints))
rank_up (pos (suc n)) (pos (suc m)) h le = let l : n ≤ m = omega (arith, ints) in omega arith
rank_up (pos (suc n)) (negsuc m) h le = absurd (omega (arith, ints))
rank_up (negsuc n) y h le = absurd (omega (arith, ints))

-- and below zero they rise downwards
rank_down : (x y : ℤ) → x <ℤ pos 0 → y ≤ℤ x → rank x ≤ rank y
rank_down (pos n) y h le = absurd (omega (arith, ints))
rank_down (negsuc n) (pos m) h le = absurd (omega (arith, ints))
rank_down (negsuc n) (negsuc m) h le = let l : n ≤ m = omega (arith, ints) in omega arith

-- a number from zero on comes before a negative one of at least its magnitude
rank_nearer : (x y : ℤ) → pos 0 ≤ℤ x → y <ℤ pos 0 → unsigned_abs x ≤ unsigned_abs y → rank x ≤ rank y
rank_nearer (pos zero) y h side le = omega arith
rank_nearer (pos (suc n)) (pos m) h side le = absurd (omega (arith, ints))
rank_nearer (pos (suc n)) (negsuc m) h side le = let l : suc n ≤ suc m = le in omega arith
rank_nearer (negsuc n) y h side le = absurd (omega (arith, ints))

-- and after one of a lesser magnitude
rank_farther : (x y : ℤ) → pos 0 ≤ℤ x → y <ℤ pos 0 → unsigned_abs y < unsigned_abs x → rank y ≤ rank x
rank_farther (pos zero) (negsuc m) h side le = let l : suc m < 0 = le in absurd (omega arith)
rank_farther (pos (suc n)) (negsuc m) h side le = let l : suc m < suc n = le in omega arith
rank_farther x (pos m) h side le = absurd (omega (arith, ints))
rank_farther (negsuc n) (negsuc m) h side le = absurd (omega (arith, ints))

-- ranks are in order
rank_trans : (x y z : ℤ) → rank x ≤ rank y → rank y ≤ rank z → rank x ≤ rank z
rank_trans x y z h k = omega arith

-- the nearest is the first from zero on, or the last below zero
module _ (least most : Option ℤ) (r k : ℤ) where
  pub up_alone : (a : ℤ) → IsFirstFromZero least most r k a → ((x : ℤ) → IsBetween least most r k x → x <ℤ pos 0 → ⊥) → IsNearest least most r k a
  up_alone a up none = record {
    between = up.between;
    first = λ y h. by_lt_z y (pos 0) (λ lt. absurd (none y h lt)) (λ le. rank_up a y up.side (up.first y h le));
  }

  pub down_alone : (b : ℤ) → IsLastBelowZero least most r k b → ((x : ℤ) → IsBetween least most r k x → pos 0 ≤ℤ x → ⊥) → IsNearest least most r k b
  down_alone b down none = record {
    between = down.between;
    first = λ y h. by_lt_z y (pos 0) (λ lt. rank_down b y down.side (down.last y h lt)) (λ le. absurd (none y h le));
  }

  pub up_first : (a b : ℤ) → IsFirstFromZero least most r k a → IsLastBelowZero least most r k b → unsigned_abs a ≤ unsigned_abs b → IsNearest least most r k a
  up_first a b up down near = record {
    between = up.between;
    first = λ y h. by_lt_z y (pos 0)
        (λ lt. rank_trans a b y (rank_nearer a b up.side down.side near) (rank_down b y down.side (down.last y h lt)))
        (λ le. rank_up a y up.side (up.first y h le));
  }

  pub down_first : (a b : ℤ) → IsFirstFromZero least most r k a → IsLastBelowZero least most r k b → unsigned_abs b < unsigned_abs a → IsNearest least most r k b
  down_first a b up down near = record {
    between = down.between;
    first = λ y h. by_lt_z y (pos 0)
        (λ lt. rank_down b y down.side (down.last y h lt))
        (λ le. rank_trans b a y (rank_farther a b up.side down.side near) (rank_up a y up.side (up.first y h le)));
  }
