-- How large the expanded query of a file may be.
use Rattle.std.specs.Prelude.{◌<◌, ◌+◌, ℕ, max, List}
use Rattle.lrp_query.specs.Lawful.{formulas_in}
use Rattle.lrp_model.specs.RawQueries.{RawForm, RawForms, RawFileView, raw_atom, raw_compare, raw_member, raw_not, raw_and, raw_or, raw_implies, raw_group, raw_exists, raw_forall, raw_ranged, raw_paired, no_raws, raw}
use Rattle.lrp_model.specs.declared.relations.Relation.{Relation}
use Rattle.lrp_wide.specs.Inlining.{expanded_file}

abbrev pub most_formulas : ℕ
most_formulas = 1000000

abbrev pub most_depth : ℕ
most_depth = 400

-- how deep a formula is, itself counted
abbrev mutual
  pub depth_of : RawForm → ℕ
  depth_of (raw_atom p n ts) = 1
  depth_of (raw_compare p l op r) = 1
  depth_of (raw_member p t point) = 1
  depth_of (raw_not p f) = depth_of f + 1
  depth_of (raw_and p fs) = depth_of_each fs + 1
  depth_of (raw_or p fs) = depth_of_each fs + 1
  depth_of (raw_implies p f g) = max (depth_of f) (depth_of g) + 1
  depth_of (raw_group p f) = depth_of f + 1
  depth_of (raw_exists p c f) = depth_of f + 1
  depth_of (raw_forall p c f) = depth_of f + 1
  depth_of (raw_ranged word o from to f) = depth_of f + 1
  depth_of (raw_paired word o f g) = max (depth_of f) (depth_of g) + 1

  pub depth_of_each : RawForms → ℕ
  depth_of_each no_raws = 0
  depth_of_each (raw f fs) = max (depth_of f) (depth_of_each fs)

-- the expanded query has too many formulas, or else one that is too deep
abbrev pub HasTooMany : List Relation → RawFileView → Type 0
HasTooMany db f = most_formulas < formulas_in (expanded_file db f).body

pub record IsTooDeep (db : List Relation) (f : RawFileView) : Type 0 where
  pub few : HasTooMany db f → ⊥
  pub deep : most_depth < depth_of (expanded_file db f).body

-- it is within the limits
pub record IsSmallFile (db : List Relation) (f : RawFileView) : Type 0 where
  pub few : HasTooMany db f → ⊥
  pub shallow : most_depth < depth_of (expanded_file db f).body → ⊥
