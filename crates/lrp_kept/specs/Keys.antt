-- The keys of held rows, and what a row leaves to an atom.
use Rattle.std.specs.Prelude.{◌≡◌, ℕ, List, [], Contains, Option, Some, None, slice_get}
use Rattle.lrp_kept.specs.declared.outlines.Outline.{Outline}
use Rattle.lrp_kept.specs.declared.rows.HeldRelation.{HeldRelation}
use Rattle.lrp_kept.specs.declared.rows.HeldRows.{HeldRows}
use Rattle.lrp_kept.specs.declared.rows.Sketch.{Sketch}
use Rattle.lrp_kept.specs.declared.rows.HeldRow.{HeldRow}

abbrev pub keys_in : Option HeldRelation → List ℕ
keys_in None = []
keys_in (Some r) = r.keys.items

-- the keys of the rows of the relation with this number
abbrev pub keys_at : List HeldRelation → ℕ → List ℕ
keys_at relations number = keys_in (slice_get relations number)

abbrev pub keys_of : HeldRows → ℕ → List ℕ
keys_of rows number = keys_at rows.relations.items number

-- the outline is that of a sketch for the atom
pub record IsSketchOf (source : HeldRow) (disjunct atom : ℕ) (o : Outline) : Type 0 where
  pub sketch : Sketch
  pub listed : Contains source.sketches.items sketch
  pub disjunct_is : sketch.disjunct ≡ disjunct
  pub atom_is : sketch.atom ≡ atom
  pub outline_is : o ≡ sketch.outline
