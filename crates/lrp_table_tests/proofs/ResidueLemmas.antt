-- Whole residues have no reach, and each is a cell.
use Rattle.std.proofs.Common.{◌≡◌, ℕ, ◌<◌, ◌≤◌, zero, suc, List, [], ◌∷◌, None, length, replicate, take, sym, subst, ap, ◌∙◌, arith}
use Rattle.std.specs.Prelude.{ℤ, pos, slice_index_or}
use Rattle.std.specs.FinMap as finite
use Rattle.std.proofs.lemmas.Int.{ints}
use Rattle.lrp_theory.specs.Entries.{node}
use Rattle.lrp_model.specs.declared.tuples.Cell.{Cell}
use Rattle.lrp_model.specs.declared.tuples.Shape.{Shape}
use Rattle.lrp_zone.specs.Zones.{IsResidue, greatest_of, reach_of}
use Rattle.lrp_store.specs.Growing.{IsGrown}
use Rattle.lrp_store.specs.Stores.{IsCellOf, IsPadded, StoreView, zone_of}
use Rattle.lrp_store.proofs.Rooms.{empty_reach, grown_reach}
use Rattle.lrp_canon.specs.Canonical.{CanMakeCanonical}
use Rattle.lrp_table_tests.specs.Residues.{HoldsResidues}

pub none_held : (s : StoreView) (period : ℕ) → s.shape.times ≡ 1 → s.shape.texts ≡ 0 → s.period ≡ period → s.tables ≡ finite.empty → HoldsResidues period s
none_held s period t x p e = record { times = t; texts = x; period = p; reach = empty_reach s 0 e }

no_reach : (n : ℕ) → greatest_of (replicate n None) ≤ 0
no_reach zero = omega arith
no_reach (suc n) = let r : greatest_of (replicate n None) ≤ 0 = no_reach n in omega arith

pub more_held : (set : List ℤ → List ℕ → Type 0) (cap period : ℕ) (old new : StoreView) → HoldsResidues period old → IsGrown set cap (greatest_of (replicate 81 None)) old new → HoldsResidues period new
more_held set cap period old new h g = record {
  times = ap (λ s. s.times) g.shape ∙ h.times;
  texts = ap (λ s. s.texts) g.shape ∙ h.texts;
  period = g.period ∙ h.period;
  reach = grown_reach set cap (greatest_of (replicate 81 None)) 0 old new g (no_reach 81) h.reach;
}

first_is : (xs : List ℤ) (x : ℤ) → take 1 xs ≡ x ∷ [] → node xs 1 ≡ x
first_is [] x e = absurd (omega (arith, ap (λ l. length l) e))
first_is (y ∷ xs) x e = ap (λ l. slice_index_or l 0 (pos 0)) e

-- the cell of a residue, of one time and no text
pub proper : (shape : Shape) (period : ℕ) (c : Cell) (residue : ℤ) → shape.times ≡ 1 → shape.texts ≡ 0 → IsResidue period residue → IsPadded 0 0 c.texts → IsPadded (pos 0) 1 c.residues → take 1 c.residues ≡ residue ∷ [] → IsCellOf shape period c
proper shape period c residue t x is none one first = record {
  texts = subst (λ n. IsPadded 0 n c.texts) (sym x) none;
  residues = subst (λ n. IsPadded (pos 0) n c.residues) (sym t) one;
  range = λ i il. at i (subst (λ n. i ≤ n) t il);
}
  where
    at : (i : ℕ) → i ≤ 1 → IsResidue period (node c.residues i)
    at zero il = record { low = omega (arith, ints); high = omega (arith, ints, is.low, is.high) }
    at (suc zero) il = subst (IsResidue period) (sym (first_is c.residues residue first)) is
    at (suc (suc i)) il = absurd (omega arith)

-- a number below the period is a residue
pub low_residue : (k period x : ℕ) → k ≡ period → x < period → IsResidue k (pos x)
low_residue k period x e l = record { low = omega (arith, ints); high = omega (arith, ints) }

-- whole residues have room for a canonical form
pub can_make : (s : StoreView) (k : ℕ) → HoldsResidues k s → CanMakeCanonical s
can_make s k h = record {
  column = h.times;
  reach = record { each = λ cell table held. let r : reach_of (zone_of s cell table) ≤ 0 = h.reach.each cell table held in omega (arith, r) };
}
