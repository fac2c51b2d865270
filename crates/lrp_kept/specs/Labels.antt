-- Labels by which held rows are told apart.
use Rattle.std.specs.Prelude.{◌≡◌, ◌≢◌, ℕ, ℤ, pos, List, [], ◌∷◌, Contains, IfSome, Some, slice_get}
use Rattle.slab.specs.Slab.{Slab, get}
use Rattle.lrp_model.specs.declared.relations.Bound.{Bound}
use Rattle.lrp_steps.specs.Patterns.{AreKnown}
use Rattle.lrp_kept.specs.declared.outlines.Outline.{Outline}
use Rattle.lrp_kept.specs.declared.rows.HeldRow.{HeldRow}
use Rattle.lrp_kept.specs.declared.rows.Sketch.{Sketch}
use Rattle.lrp_kept.specs.declared.sources.RowLabel.{RowLabel}
use Rattle.lrp_kept.specs.declared.sources.TextLabel.{TextLabel}

-- the number of the first bound
abbrev pub first_most : List Bound → ℤ
first_most [] = pos 0
first_most (b ∷ bounds) = b.most

-- the label has the text that the sketch has at a place
pub record IsTextLabelIn (sketch : Sketch) (label : TextLabel) : Type 0 where
  pub disjunct_is : sketch.disjunct ≡ label.disjunct
  pub atom_is : sketch.atom ≡ label.atom
  pub text_is : slice_get sketch.outline.texts label.place ≡ Some (Some label.text)

-- that of one of the sketches
pub record IsTextLabelOf (sketches : List Sketch) (label : TextLabel) : Type 0 where
  pub sketch : Sketch
  pub listed : Contains sketches sketch
  pub is : IsTextLabelIn sketch label

-- the label is the row's
pub record IsLabelOf (source : HeldRow) (label : RowLabel) : Type 0 where
  pub most : label.most ≡ first_most source.row.bounds
  pub first : IfSome label.first (IsTextLabelOf source.sketches.items)
  pub later : IfSome label.later (IsTextLabelOf source.sketches.items)

-- each row has its label
pub record AreLabelled (rows : Slab HeldRow) (labels : List RowLabel) : Type 0 where
  pub each : (key : ℕ) (source : HeldRow) → get rows key ≡ Some source → (label : RowLabel) × (slice_get labels key ≡ Some label) × IsLabelOf source label

-- new goes on where old ends
pub record ExtendsLabels (old new : List RowLabel) : Type 0 where
  pub each : (key : ℕ) (label : RowLabel) → slice_get old key ≡ Some label → slice_get new key ≡ Some label

-- the outline has another text at the label's place
pub record IsOtherText (label : TextLabel) (other : Outline) : Type 0 where
  pub text : ℕ
  pub there : slice_get other.texts label.place ≡ Some (Some text)
  pub differs : text ≢ label.text

-- the label is of the atom, and the outline has another text
pub record IsOtherTextFor (label : TextLabel) (disjunct atom : ℕ) (other : Outline) : Type 0 where
  pub disjunct_is : label.disjunct ≡ disjunct
  pub atom_is : label.atom ≡ atom
  pub text : IsOtherText label other

-- the row leaves a text to the atom that no tuple of the other outline has
pub record HasOtherText (source : HeldRow) (disjunct atom : ℕ) (other : Outline) : Type 0 where
  pub sketch : Sketch
  pub listed : Contains source.sketches.items sketch
  pub disjunct_is : sketch.disjunct ≡ disjunct
  pub atom_is : sketch.atom ≡ atom
  pub apart : (ns : List ℕ) → AreKnown sketch.outline.texts ns → AreKnown other.texts ns → ⊥
