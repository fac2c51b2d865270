-- The sketches of a row: what it leaves to each atom that reads its relation.
use Rattle.std.specs.Prelude.{◌≡◌, ◌≤◌, ℕ, List, Contains, Some, flat_map, length, slice_get}
use Rattle.lrp_model.specs.Texts.{Text}
use Rattle.lrp_model.specs.declared.relations.Row.{Row}
use Rattle.lrp_steps.specs.Rows.{CanBeRead}
use Rattle.lrp_tables.specs.Columns.{texts_of_term, times_of_term}
use Rattle.lrp_tables.specs.Tables.{AreNamesAmong}
use Rattle.lrp_kept.specs.Outlines.{IsOutlineFor}
use Rattle.lrp_kept.specs.declared.disjuncts.Disjunct.{Disjunct}
use Rattle.lrp_kept.specs.declared.disjuncts.JoinedAtom.{JoinedAtom}
use Rattle.lrp_kept.specs.declared.rows.Sketch.{Sketch}

-- a row of which an atom can be read, whose terms have the atom's variables
pub record CanBeOutlined (row : Row) (a : JoinedAtom) : Type 0 where
  pub few_times : length a.vars.times ≤ 8
  pub few_texts : length a.vars.texts ≤ 8
  pub times : AreNamesAmong (flat_map times_of_term a.terms) a.vars.times
  pub texts : AreNamesAmong (flat_map texts_of_term a.terms) a.vars.texts
  pub read : CanBeRead a.terms row

-- each atom that reads the relation can read the row
abbrev pub CanBeSketched : List Disjunct → ℕ → Row → Type 0
CanBeSketched ds relation row = (d : Disjunct) (a : JoinedAtom) → Contains ds d → Contains d.atoms.items a → a.relation ≡ relation → CanBeOutlined row a

-- what the row leaves to the variables of an atom of the disjunct
pub record IsSketchFor (domain : List Text) (d : Disjunct) (atom : ℕ) (row : Row) (s : Sketch) : Type 0 where
  pub disjunct_is : s.disjunct ≡ d.number
  pub atom_is : s.atom ≡ atom
  pub outline : (a : JoinedAtom) → slice_get d.atoms.items atom ≡ Some a → IsOutlineFor domain a.vars a.terms row s.outline

-- a sketch of an atom of some of the disjuncts that reads the relation
pub record IsSketchAmong (domain : List Text) (ds : List Disjunct) (relation : ℕ) (row : Row) (s : Sketch) : Type 0 where
  pub disjunct : Disjunct
  pub listed : Contains ds disjunct
  pub atom : ℕ
  pub is : IsSketchFor domain disjunct atom row s

-- each is one
abbrev pub AreSketchesOf : List Text → List Disjunct → ℕ → Row → List Sketch → Type 0
AreSketchesOf domain ds relation row all = (s : Sketch) → Contains all s → IsSketchAmong domain ds relation row s
