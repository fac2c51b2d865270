-- A zone is determined by its period, its residues and its stored bounds.
use Rattle.std.proofs.Common.{◌≡◌, ℕ, ◌+◌, ◌<◌, ◌≤◌, ◌⊎◌, inl, inr, arith, refl, sym, ap, ◌∙◌}
use Rattle.lrp_theory.specs.Entries.{entry}
use Rattle.lrp_zone.specs.Zones.{ZoneView, IsZone, columns_of}
use Rattle.lrp_zone.proofs.Tables.{same_table}

-- zones of one period, equal residues and equal stored bounds are equal
pub equal_zones : (z w : ZoneView) → IsZone z → IsZone w → w.period ≡ z.period → w.residues ≡ z.residues → ((i j : ℕ) → i ≤ columns_of z → j ≤ columns_of z → entry w.bounds i j ≡ entry z.bounds i j) → w ≡ z
equal_zones z w vz vw e f same = let g : w.bounds ≡ z.bounds = same_table w.bounds z.bounds vw.size vz.size place in rw (e, f, g) refl
  where
    count : columns_of w ≡ columns_of z
    count = ap (λ rs. columns_of (record z { residues = rs })) f

    inside : (i : ℕ) → (i ≤ columns_of z) ⊎ (columns_of z + 1 ≤ i)
    inside i = grind arith

    place : (i j : ℕ) → i < 9 → j < 9 → entry w.bounds i j ≡ entry z.bounds i j
    place i j il jl = elim (inside i) [
      | inl a ↦ elim (inside j) [
        | inl b ↦ same i j a b
        | inr b ↦ vw.shape.outside.none i j il jl (inr (omega (arith, count))) ∙ sym (vz.shape.outside.none i j il jl (inr b))
      ]
      | inr a ↦ vw.shape.outside.none i j il jl (inl (omega (arith, count))) ∙ sym (vz.shape.outside.none i j il jl (inl a))
    ]
