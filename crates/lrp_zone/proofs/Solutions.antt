-- Whether integers meet bounds, by integers that were found, by two bounds that exclude one another, and by closing.
use Rattle.std.proofs.Common.{◌≡◌, ℕ, ◌+◌, ◌<◌, ◌≤◌, ◌^◌, Bool, true, false, IsTrue, List, Option, Some, None, arith, refl, sym, subst}
use Rattle.std.specs.Prelude.{ℤ, pos, ◌-ℤ◌}
use Rattle.std.proofs.lemmas.Int.{ints}
use Rattle.lrp_theory.specs.Bounds.{Within}
use Rattle.lrp_theory.specs.Entries.{entry, node, AtMost, AllSmall, HasSolution, IsClosure}
use Rattle.lrp_theory.proofs.Through.{AllSmall-more}
use Rattle.lrp_zone.specs.Zones.{ZoneView, IsTight, IsShape, HasMember, columns_of}
use Rattle.lrp_zone.proofs.Members.{member_of_solution, solution_of_member}

-- where two bounds on a difference and on its reverse exclude one another, no integers meet them
pub excluded_none : (n i j : ℕ) (b : ℕ → ℕ → Option ℤ) (e f : Option ℤ) → i < n → j < n → e ≡ b i j → f ≡ b j i → ((d : ℤ) → Within d e → Within (pos 0 -ℤ d) f → ⊥) → HasSolution n b → ⊥
excluded_none n i j b e f il jl he hf none s =
    let there : Within (s.some.0 i -ℤ s.some.0 j) e = subst (λ o. Within (s.some.0 i -ℤ s.some.0 j) o) (sym he) (s.some.1 i j il jl) in
    let back : Within (s.some.0 j -ℤ s.some.0 i) f = subst (λ o. Within (s.some.0 j -ℤ s.some.0 i) o) (sym hf) (s.some.1 j i jl il) in
    none (s.some.0 i -ℤ s.some.0 j) there (subst (λ d. Within d f) (turned (s.some.0 i) (s.some.0 j)) back)
  where
    turned : (a b : ℤ) → b -ℤ a ≡ pos 0 -ℤ (a -ℤ b)
    turned a b = omega (arith, ints)

-- integers meet the bounds exactly where they can be closed
pub closes_where : (n : ℕ) (cells bounds least : List (Option ℤ)) (t : Bool) → cells ≡ bounds → (t ≡ false → HasSolution n (entry cells) → ⊥) → (t ≡ true → IsClosure n (entry cells) (entry least))
    → (IsTrue t → HasSolution n (entry bounds)) × (HasSolution n (entry bounds) → IsTrue t)
closes_where n cells bounds least true e none some = ((λ t. subst (λ b. HasSolution n (entry b)) e (record { some = (some refl).solution })), (λ h. refl))
closes_where n cells bounds least false e none some = ((λ t. cc), (λ h. absurd (none refl (subst (λ b. HasSolution n (entry b)) (sym e) h))))

-- the bounds of a copy are as small
pub small_copy : (n h k : ℕ) (cells bounds : List (Option ℤ)) → cells ≡ bounds → h ≤ k → AllSmall n h bounds → AllSmall n k cells
small_copy n h k cells bounds e le s = AllSmall-more n h k cells le (subst (λ b. AllSmall n h b) (sym e) s)

-- a tight bound is within the limit
tight_small : (k w : ℤ) (e : Option ℤ) → IsTight k w e → AtMost (2 ^ 62) e
tight_small k w None t = tt
tight_small k w (Some a) t = t.1

-- and so is each stored bound
pub shape_small : (z : ZoneView) → IsShape z → AllSmall (columns_of z + 1) (2 ^ 62) z.bounds
shape_small z s = record { each = λ i j il jl. tight_small (pos z.period) (node z.residues i -ℤ node z.residues j) (entry z.bounds i j) (s.tight i j (omega arith) (omega arith)) }

-- where integers meet the bounds, some tuple is in the zone
pub member_found : (z : ZoneView) → IsShape z → HasSolution (columns_of z + 1) (entry z.bounds) → HasMember z
member_found z s h = member_of_solution z s h.some.0 h.some.1

-- where none do, none is
pub none_found : (z : ZoneView) (t : Bool) → t ≡ false → (HasSolution (columns_of z + 1) (entry z.bounds) → IsTrue t) → HasMember z → ⊥
none_found z t f found m = let e : IsTrue t = found (solution_of_member z m) in cc
