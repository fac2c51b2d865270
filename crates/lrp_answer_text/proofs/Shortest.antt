-- The least sums along paths are the closed bounds of a zone.
use Rattle.std.proofs.Common.{◌≡◌, ◌≢◌, ◌<◌, ◌≤◌, ◌+◌, ◌*◌, ◌^◌, ◌∙◌, ℕ, zero, suc, List, [], ◌∷◌, ◌++◌, Option, Some, None, Bool, true, false, cond, refl, sym, ap, ap₂, subst, arith, add-one, inl, inr, ◌⊎◌}
use Rattle.std.specs.Prelude.{ℤ, pos, ◌-ℤ◌, ◌+ℤ◌, ◌≤ℤ◌, ◌==◌}
use Rattle.std.specs.Int.{int_min}
use Rattle.std.specs.List.{flat_map, range_with_len}
use Rattle.std.proofs.lemmas.Int.{ints}
use Rattle.std.proofs.lemmas.Bool.Decides.{nat_tests}
use Rattle.lrp_theory.specs.Bounds.{Within, plus, Meets}
use Rattle.lrp_theory.specs.Entries.{entry, node, IsLesser, IsLeastBound, IsClosure, IsSmallClosure, SameSolutions, Triangles}
use Rattle.lrp_theory.proofs.Paths.{pivot_solutions, pivot_triangles, closure}
use Rattle.lrp_theory.proofs.Through.{AtMost-more, same_then}
use Rattle.lrp_matrix.specs.Matrices.{MatrixView, IsClosed, HaveSameIntegers}
use Rattle.lrp_zone.specs.Zones.{ZoneView, IsZone, columns_of}
use Rattle.lrp_store.specs.Least.{matrix_of, IsRoom}
use Rattle.lrp_store.proofs.Rooms.{least_stored}
use Rattle.lrp_answer_text.specs.AnswerText.{bound_between, bounds_in, bounds_in_row, closed_bounds, lesser, shortest}

-- ---- closing

-- the lesser bound
lesser_is : (e f : Option ℤ) → IsLesser (lesser e f) e f
lesser_is None f = record { below = λ d h. (tt, h); one = inr refl }
lesser_is (Some a) None = record { below = λ d h. (h, tt); one = inl refl }
lesser_is (Some a) (Some b) = record { below = λ d h. (left d h, right d h); one = elim (one_of a b) [ inl e ↦ inl (ap Some e) | inr e ↦ inr (ap Some e) ] }
  where
    one_of : (x y : ℤ) → (int_min x y ≡ x) ⊎ (int_min x y ≡ y)
    one_of x y = grind (arith, ints)

    min_left : (x y : ℤ) → int_min x y ≤ℤ x
    min_left x y = grind (arith, ints)

    min_right : (x y : ℤ) → int_min x y ≤ℤ y
    min_right x y = grind (arith, ints)

    left : (d : ℤ) → d ≤ℤ int_min a b → d ≤ℤ a
    left d h = let m : int_min a b ≤ℤ a = min_left a b in omega (arith, ints)

    right : (d : ℤ) → d ≤ℤ int_min a b → d ≤ℤ b
    right d h = let m : int_min a b ≤ℤ b = min_right a b in omega (arith, ints)

-- a bound of a number from itself
own : (x : ℤ) (e : Option ℤ) → Within (x -ℤ x) e → Within (pos 0) e
own x None h = tt
own x (Some a) h = omega (arith, ints)

-- what holds of the sums along paths through the nodes below k
record ArePaths (n k : ℕ) (bounds : List (Option ℤ)) : Type 0 where
  same : SameSolutions n (entry bounds) (shortest bounds k)
  triangles : Triangles n k (shortest bounds k)

module _ (n : ℕ) (bounds : List (Option ℤ)) (x : ℕ → ℤ) (meets : Meets n (entry bounds) x) where
  paths : (k : ℕ) → k ≤ n → ArePaths n k bounds
  paths zero l = record { same = record { to = λ y h. h; from = λ y h. h }; triangles = record { each = λ i j p il jl pl. absurd (omega arith) } }
  paths (suc k) l =
      let below : k < n = omega arith in
      let old = paths k (omega arith) in
      let made : (i j : ℕ) → i < n → j < n → IsLesser (shortest bounds (suc k) i j) (shortest bounds k i j) (plus (shortest bounds k i k) (shortest bounds k k j)) = λ i j il jl. lesser_is (shortest bounds k i j) (plus (shortest bounds k i k) (shortest bounds k k j)) in
      let loop : Within (pos 0) (shortest bounds k k k) = own (x k) (shortest bounds k k k) (old.same.to x meets k k below below) in
      record {
        same = same_then n (entry bounds) (shortest bounds k) (shortest bounds (suc k)) old.same (pivot_solutions n k (shortest bounds k) (shortest bounds (suc k)) below made);
        triangles = let t : Triangles n (k + 1) (shortest bounds (suc k)) = pivot_triangles n k (shortest bounds k) (shortest bounds (suc k)) below made loop old.triangles in subst (λ m. Triangles n m (shortest bounds (suc k))) (add-one k) t;
      }

  pub shortest_closes : IsClosure n (entry bounds) (shortest bounds n)
  shortest_closes =
      let all = paths n (omega arith) in
      closure n (entry bounds) (shortest bounds n) all.same all.triangles (λ i il. own (x i) (shortest bounds n i i) (all.same.to x meets i i il il))

-- ---- least bounds

-- what is within one bound and not past another
module _ (n : ℕ) (b : ℕ → ℕ → Option ℤ) (i j : ℕ) where
  -- what is within one least bound is within the other
  within_other : (e f : Option ℤ) → IsLeastBound n b i j e → IsLeastBound n b i j f → (d : ℤ) → Within d e → Within d f
  within_other e f he hf d w = let r = he.reached d w in lower d (r.0 i -ℤ r.0 j) f r.2 (hf.met r.0 r.1)
    where
      lower : (c d : ℤ) (e : Option ℤ) → c ≤ℤ d → Within d e → Within c e
      lower c d None l h = tt
      lower c d (Some a) l h = omega (arith, ints)

  pub least_once : (e f : Option ℤ) → IsLeastBound n b i j e → IsLeastBound n b i j f → e ≡ f
  least_once None None he hf = refl
  least_once None (Some a) he hf = absurd (let h : (a +ℤ pos 1) ≤ℤ a = within_other None (Some a) he hf (a +ℤ pos 1) tt in omega (arith, ints))
  least_once (Some a) None he hf = absurd (let h : (a +ℤ pos 1) ≤ℤ a = within_other None (Some a) hf he (a +ℤ pos 1) tt in omega (arith, ints))
  least_once (Some a) (Some c) he hf =
      let one : a ≤ℤ c = within_other (Some a) (Some c) he hf a (omega (arith, ints)) in
      let two : c ≤ℤ a = within_other (Some c) (Some a) hf he c (omega (arith, ints)) in
      ap Some (omega (arith, ints))

-- ---- lists of bounds

-- lists over a range that are the same one by one
range_same : {A : Type 0} (f g : ℕ → List A) (a n : ℕ) → ((i : ℕ) → a ≤ i → i < a + n → f i ≡ g i) → flat_map f (range_with_len a n) ≡ flat_map g (range_with_len a n)
range_same f g a zero h = refl
range_same f g a (suc n) h = ap₂ (λ x y. x ++ y) (h a (omega arith) (omega arith)) (range_same f g (a + 1) n (λ i l m. h i (omega arith) (omega arith)))

none_between : (i j : ℕ) (e : Option ℤ) → (i == j) ≡ true → bound_between i j e ≡ []
none_between i j None p = refl
none_between i j (Some a) p = ap (λ b. cond b [] (record { left = i; right = j; most = a } ∷ [])) p

apart : (i j : ℕ) → (i == j) ≡ false → i ≢ j
apart i j p e = grind (arith, nat_tests)

between_same : (i j : ℕ) (e f : Option ℤ) → (i ≢ j → e ≡ f) → bound_between i j e ≡ bound_between i j f
between_same i j e f h = by (i == j) refl
  where
    by : (b : Bool) → (i == j) ≡ b → bound_between i j e ≡ bound_between i j f
    by true p = none_between i j e p ∙ sym (none_between i j f p)
    by false p = ap (bound_between i j) (h (apart i j p))

pub bounds_same : (n : ℕ) (b c : ℕ → ℕ → Option ℤ) → ((i j : ℕ) → i < n → j < n → i ≢ j → b i j ≡ c i j) → bounds_in n b ≡ bounds_in n c
bounds_same n b c h =
    range_same (bounds_in_row n b) (bounds_in_row n c) 0 n
    (λ i il im. range_same (λ j. bound_between i j (b i j)) (λ j. bound_between i j (c i j)) 0 n (λ j jl jm. between_same i j (b i j) (c i j) (λ ne. h i j (omega arith) (omega arith) ne)))

-- ---- zones

module _ (z : ZoneView) (is : IsZone z) where
  -- the members meet the bounds
  pub zone_closes : IsClosure (columns_of z + 1) (entry z.bounds) (shortest z.bounds (columns_of z + 1))
  zone_closes = shortest_closes (columns_of z + 1) z.bounds (node is.some.member) (λ i j il jl. is.some.is.meets i j (omega arith) (omega arith))

  pub shortest_least : (i j : ℕ) → i < columns_of z + 1 → j < columns_of z + 1 → i ≢ j → IsLeastBound (columns_of z + 1) (entry z.bounds) i j (shortest z.bounds (columns_of z + 1) i j)
  shortest_least i j il jl ne = zone_closes.least i j il jl ne

  module _ (m : MatrixView) (closed : IsClosed m) (same : HaveSameIntegers (matrix_of z) m) where
    pub closed_entries : bounds_in (columns_of z + 1) (entry m.cells) ≡ closed_bounds z
    closed_entries =
        bounds_same (columns_of z + 1) (entry m.cells) (shortest z.bounds (columns_of z + 1))
        (λ i j il jl ne. least_once (columns_of z + 1) (entry z.bounds) i j (entry m.cells i j) (shortest z.bounds (columns_of z + 1) i j) (least_stored z is m closed same i j il jl ne) (shortest_least i j il jl ne))

-- two different nodes make a column, so a zone with room has closed bounds of at most 2^62
pub room_small : (z : ZoneView) (h : ℕ) (m : MatrixView) → IsRoom z h → IsClosed m → HaveSameIntegers (matrix_of z) m → IsSmallClosure (columns_of z + 1) (2 ^ 62) m.cells
room_small z h m room closed same = record { each = λ i j il jl ne. AtMost-more h (2 ^ 62) (entry m.cells i j) (less (columns_of z) h i j il jl ne room.room) ((room.closed m closed same).each i j il jl ne) }
  where
    less : (c h i j : ℕ) → i < c + 1 → j < c + 1 → i ≢ j → c * h ≤ 2 ^ 62 → h ≤ 2 ^ 62
    less zero h i j il jl ne l = absurd (ne (omega arith))
    less (suc c) h i j il jl ne l = omega arith
