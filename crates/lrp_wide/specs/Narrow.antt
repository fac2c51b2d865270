-- Texts in which nothing is written out but uses of definitions.
use Rattle.std.specs.Prelude.{◌≡◌, ℕ, List, false}
use Rattle.std.specs.List.{AllByRecursion}
use Rattle.lrp_model.specs.RawQueries.{RawForm, RawForms, raw_atom, raw_compare, raw_member, raw_not, raw_and, raw_or, raw_implies, raw_group, raw_exists, raw_forall, raw_ranged, raw_paired, no_raws, raw}
use Rattle.lrp_model.specs.declared.raw.RawTerm.{RawTerm}
use Rattle.lrp_model.specs.declared.relations.Column.{Column}
use Rattle.lrp_model.specs.declared.tokens.Place.{Place}
use Rattle.lrp_wide.specs.Inlining.{UseSetting, star_columns, star_terms}
use Rattle.lrp_wide.specs.Meaning.{is_star}

abbrev pub HasNoStar : RawTerm → Type 0
HasNoStar t = is_star t ≡ false

-- no operator stands in a formula, and no `*`
abbrev mutual
  pub IsUnstarred : RawForm → Type 0
  IsUnstarred (raw_atom p n ts) = AllByRecursion HasNoStar ts
  IsUnstarred (raw_compare p l op r) = Unit {0}
  IsUnstarred (raw_member p t point) = Unit {0}
  IsUnstarred (raw_not p f) = IsUnstarred f
  IsUnstarred (raw_and p fs) = AreUnstarred fs
  IsUnstarred (raw_or p fs) = AreUnstarred fs
  IsUnstarred (raw_implies p f g) = IsUnstarred f × IsUnstarred g
  IsUnstarred (raw_group p f) = IsUnstarred f
  IsUnstarred (raw_exists p c f) = IsUnstarred f
  IsUnstarred (raw_forall p c f) = IsUnstarred f
  IsUnstarred (raw_ranged word o from to f) = ⊥
  IsUnstarred (raw_paired word o f g) = ⊥

  pub AreUnstarred : RawForms → Type 0
  AreUnstarred no_raws = Unit {0}
  AreUnstarred (raw f fs) = IsUnstarred f × AreUnstarred fs

-- an atom's `*` become the same by these columns as by its own
pub record AreStarredBy (ts : List RawTerm) (own cs : List Column) : Type 0 where
  pub columns : (p : Place) (k : ℕ) → star_columns p k cs ts ≡ star_columns p k own ts
  pub terms : (s : UseSetting) (p : Place) (k : ℕ) → star_terms s p k cs ts ≡ star_terms s p k own ts
