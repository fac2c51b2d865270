-- Formulas without parts, and what they show beside what was found before them.
use Rattle.std.specs.Prelude.{◌≡◌, ◌≤◌, ◌++◌, List, length}
use Rattle.lrp_model.specs.Texts.{Identifier}
use Rattle.lrp_model.specs.Faults.{earliest}
use Rattle.lrp_model.specs.RawQueries.{RawForm, raw_form_of}
use Rattle.lrp_model.specs.Sorting.{query_standing, form_faults, free_names}
use Rattle.lrp_model.specs.declared.raw.RawFormula.{RawFormula}
use Rattle.lrp_model.specs.declared.raw.RawKind.{RawKind}
use Rattle.lrp_model.specs.declared.raw.RawKind.TheVariants.{Atom, Compare, Member}
use Rattle.lrp_model.specs.declared.relations.Relation.{Relation}
use Rattle.lrp_model.specs.Sooner.{sooner}
use Rattle.lrp_sorts.specs.Scopes.{Around, binders}
use Rattle.lrp_sorts.specs.Widths.{IsTallied}
use Rattle.lrp_sorts.specs.declared.finding.Finding.{Finding}
use Rattle.lrp_sorts.specs.declared.width.Tally.{Tally}

-- an atom, a comparison or an `in`
abbrev pub IsLeaf : RawKind → Type 0
IsLeaf (Atom n ts) = Unit {0}
IsLeaf (Compare l op r) = Unit {0}
IsLeaf (Member t point) = Unit {0}
IsLeaf _ = ⊥

-- so few names occur in it that they are not too many, whatever binds them
pub record IsNarrowLeaf (f : RawFormula) : Type 0 where
  pub leaf : IsLeaf f.kind
  pub few : length (free_names (raw_form_of f)) ≤ 8

-- a tally, and these names beside it
abbrev pub CountsOn : Around → Tally → List Identifier → Tally → Type 0
CountsOn a before more made = (names : List Identifier) → IsTallied a names before → IsTallied a (names ++ more) made

-- what was found, and what this formula shows beside it, all but its own width
pub record ShowsOn (db : List Relation) (a : Around) (before : Finding) (f : RawForm) (made : Finding) : Type 0 where
  pub fault : made.fault ≡ sooner query_standing before.fault (earliest query_standing (form_faults f db (binders a)))
  pub free : CountsOn a before.free (free_names f) made.free
