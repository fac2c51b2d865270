-- Cells of at most two texts and three residues, and the short keys of them. No public clause cites this module.
use Rattle.std.specs.Prelude.{◌≡◌, ◌⊎◌, ◌/◌, ◌%◌, ◌^◌, pos, List, [], ◌∷◌}
use Rattle.std.specs.Ordering.{nat_cmp, int_cmp, ordering_then}
use Rattle.std.specs.declared.cmp.Ordering.{Ordering}
use Rattle.lrp_model.specs.declared.tuples.Cell.{Cell}
use Rattle.lrp_slots.specs.declared.chains.Chain.{Chain}
use Rattle.lrp_slots.specs.declared.narrow.Narrow.{Narrow}
use Rattle.lrp_slots.specs.Keys.{entries_by}

-- the cell of a key, which has its texts as one number: the other texts and residues are 0
abbrev pub wide : Narrow → Cell
wide key = record {
  texts = key.texts / 2 ^ 32 ∷ key.texts % 2 ^ 32 ∷ 0 ∷ 0 ∷ 0 ∷ 0 ∷ 0 ∷ 0 ∷ [];
  residues = key.first_residue ∷ key.second_residue ∷ key.third_residue ∷ pos 0 ∷ pos 0 ∷ pos 0 ∷ pos 0 ∷ pos 0 ∷ [];
}

-- keys in order of their numbers
abbrev pub narrow_cmp : Narrow → Narrow → Ordering
narrow_cmp a b =
    ordering_then (nat_cmp a.texts b.texts)
    (ordering_then (int_cmp a.first_residue b.first_residue) (ordering_then (int_cmp a.second_residue b.second_residue) (int_cmp a.third_residue b.third_residue)))

-- the cells of keys, with their chains
abbrev pub wide_entries : List (Narrow × Chain) → List (Cell × Chain)
wide_entries entries = entries_by wide entries

-- the cells stand as short keys or as cells, and not as both
abbrev pub AreOneWidth : List (Narrow × Chain) → List (Cell × Chain) → Type 0
AreOneWidth narrow cells = (narrow ≡ []) ⊎ (cells ≡ [])
