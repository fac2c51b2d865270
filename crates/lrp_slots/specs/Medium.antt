-- Cells of at most six texts and four residues, and the keys of them. No public clause cites this module.
use Rattle.std.specs.Prelude.{◌/◌, ◌%◌, ◌^◌, pos, [], ◌∷◌}
use Rattle.std.specs.Ordering.{nat_cmp, int_cmp, ordering_then}
use Rattle.std.specs.declared.cmp.Ordering.{Ordering}
use Rattle.lrp_model.specs.declared.tuples.Cell.{Cell}
use Rattle.lrp_slots.specs.declared.medium.Medium.{Medium}

-- the cell of a key, which has its texts as three numbers: the other texts and residues are 0
abbrev pub medium_cell : Medium → Cell
medium_cell key = record {
  texts = key.first_texts / 2 ^ 32 ∷ key.first_texts % 2 ^ 32 ∷ key.next_texts / 2 ^ 32 ∷ key.next_texts % 2 ^ 32 ∷ key.last_texts / 2 ^ 32 ∷ key.last_texts % 2 ^ 32 ∷ 0 ∷ 0 ∷ [];
  residues = key.first_residue ∷ key.second_residue ∷ key.third_residue ∷ key.fourth_residue ∷ pos 0 ∷ pos 0 ∷ pos 0 ∷ pos 0 ∷ [];
}

-- keys in order of their numbers
abbrev pub medium_cmp : Medium → Medium → Ordering
medium_cmp a b =
    ordering_then (nat_cmp a.first_texts b.first_texts) (ordering_then (nat_cmp a.next_texts b.next_texts) (ordering_then (nat_cmp a.last_texts b.last_texts)
    (ordering_then (int_cmp a.first_residue b.first_residue) (ordering_then (int_cmp a.second_residue b.second_residue)
    (ordering_then (int_cmp a.third_residue b.third_residue) (int_cmp a.fourth_residue b.fourth_residue))))))
