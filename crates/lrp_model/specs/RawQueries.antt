-- Queries with their places, without their places in memory, and what a raw query of the program is.
use Rattle.std.specs.Prelude.{ℤ, List, [], ◌∷◌, map}
use Rattle.lrp_model.specs.Texts.{Identifier}
use Rattle.lrp_model.specs.declared.tokens.Place.{Place}
use Rattle.lrp_model.specs.declared.relations.RowPoint.{RowPoint}
use Rattle.lrp_model.specs.declared.formulas.Op.{Op}
use Rattle.lrp_model.specs.declared.raw.RawColumn.{RawColumn}
use Rattle.lrp_model.specs.declared.raw.RawTerm.{RawTerm}
use Rattle.lrp_model.specs.declared.raw.RawQuery.{RawQuery}
use Rattle.lrp_model.specs.declared.raw.RawDefinition.{RawDefinition}
use Rattle.lrp_model.specs.declared.raw.RawFile.{RawFile}
use Rattle.lrp_model.specs.declared.raw.RawFormula.{RawFormula}
use Rattle.lrp_model.specs.declared.raw.Ranged.{Ranged}
use Rattle.lrp_model.specs.declared.raw.Paired.{Paired}
use Rattle.lrp_model.specs.declared.raw.RawKind.{RawKind, Atom, Compare, Member, Not', And', Or', Implies', Group', Exists', Forall', Ranged', Paired', Row_of-RawFormula, end_of-RawFormula, more_of-RawFormula}

-- where a temporal operator begins, and its variable with the place of its name
pub record Operator : Type 0 where
  pub place : Place
  pub name : Identifier
  pub name_place : Place

abbrev pub operator_at : Place → Identifier → Place → Operator
operator_at p n q = record { place = p; name = n; name_place = q }

-- a formula with the place of its first token; `raw_group` is one formula in parentheses. The numbers of `once` and `always` are the ends of their interval, and `since` and `until` have the formula for the moments between first
mutual
  pub data RawForm : Type 0 where
    raw_atom : Place → Identifier → List RawTerm → RawForm
    raw_compare : Place → RawTerm → Op → RawTerm → RawForm
    raw_member : Place → RawTerm → RowPoint → RawForm
    raw_not : Place → RawForm → RawForm
    raw_and : Place → RawForms → RawForm
    raw_or : Place → RawForms → RawForm
    raw_implies : Place → RawForm → RawForm → RawForm
    raw_group : Place → RawForm → RawForm
    raw_exists : Place → RawColumn → RawForm → RawForm
    raw_forall : Place → RawColumn → RawForm → RawForm
    raw_ranged : Ranged → Operator → ℤ → ℤ → RawForm → RawForm
    raw_paired : Paired → Operator → RawForm → RawForm → RawForm

  pub data RawForms : Type 0 where
    no_raws : RawForms
    raw : RawForm → RawForms → RawForms

-- the formula that a value of the program is
abbrev mutual
  pub raw_kind : RawKind → Place → RawForm
  raw_kind (Atom name terms) p = raw_atom p name terms
  raw_kind (Compare op left right) p = raw_compare p left op right
  raw_kind (Member term point) p = raw_member p term point
  raw_kind (Not' m k q) p = raw_not p (raw_kind k q)
  raw_kind (And' shape all) p = raw_and p (row_raws all)
  raw_kind (Or' shape all) p = raw_or p (row_raws all)
  raw_kind (Implies' m k q n j r) p = raw_implies p (raw_kind k q) (raw_kind j r)
  raw_kind (Group' m k q) p = raw_group p (raw_kind k q)
  raw_kind (Exists' binder m k q) p = raw_exists p binder (raw_kind k q)
  raw_kind (Forall' binder m k q) p = raw_forall p binder (raw_kind k q)
  raw_kind (Ranged' word name at from to m k q) p = raw_ranged word (operator_at p name at) from to (raw_kind k q)
  raw_kind (Paired' word name at m k q n j r) p = raw_paired word (operator_at p name at) (raw_kind k q) (raw_kind j r)

  pub row_raws : {m : _} → Row_of-RawFormula m → RawForms
  row_raws end_of-RawFormula = no_raws
  row_raws (more_of-RawFormula k q rest) = raw (raw_kind k q) (row_raws rest)

abbrev pub raw_form_of : RawFormula → RawForm
raw_form_of f = raw_kind f.kind f.place

-- those of a list
abbrev pub raw_forms_of : List RawFormula → RawForms
raw_forms_of [] = no_raws
raw_forms_of (f ∷ fs) = raw (raw_form_of f) (raw_forms_of fs)

-- the place of a formula, that of its first token
abbrev pub place_of : RawForm → Place
place_of (raw_atom p n ts) = p
place_of (raw_compare p l op r) = p
place_of (raw_member p t point) = p
place_of (raw_not p f) = p
place_of (raw_and p fs) = p
place_of (raw_or p fs) = p
place_of (raw_implies p f g) = p
place_of (raw_group p f) = p
place_of (raw_exists p c f) = p
place_of (raw_forall p c f) = p
place_of (raw_ranged word o from to f) = o.place
place_of (raw_paired word o f g) = o.place

-- the same formula at another place
abbrev pub raw_at : Place → RawForm → RawForm
raw_at q (raw_atom p n ts) = raw_atom q n ts
raw_at q (raw_compare p l op r) = raw_compare q l op r
raw_at q (raw_member p t point) = raw_member q t point
raw_at q (raw_not p f) = raw_not q f
raw_at q (raw_and p fs) = raw_and q fs
raw_at q (raw_or p fs) = raw_or q fs
raw_at q (raw_implies p f g) = raw_implies q f g
raw_at q (raw_group p f) = raw_group q f
raw_at q (raw_exists p c f) = raw_exists q c f
raw_at q (raw_forall p c f) = raw_forall q c f
raw_at q (raw_ranged word o from to f) = raw_ranged word (operator_at q o.name o.name_place) from to f
raw_at q (raw_paired word o f g) = raw_paired word (operator_at q o.name o.name_place) f g

-- a query with its places: its head's columns and its body
pub record RawQuestion : Type 0 where
  pub head : List RawColumn
  pub body : RawForm

abbrev pub raw_question_of : RawQuery → RawQuestion
raw_question_of q = record { head = q.head; body = raw_form_of q.body }

-- a definition: its name with its place, its columns and its body
pub record RawDefinitionView : Type 0 where
  pub name : Identifier
  pub place : Place
  pub columns : List RawColumn
  pub body : RawForm

-- the definitions before a query, and the query
pub record RawFileView : Type 0 where
  pub definitions : List RawDefinitionView
  pub query : RawQuestion

abbrev pub raw_definition_of : RawDefinition → RawDefinitionView
raw_definition_of d = record { name = d.name; place = d.place; columns = d.columns; body = raw_form_of d.body }

abbrev pub raw_file_of : RawFile → RawFileView
raw_file_of f = record { definitions = map raw_definition_of f.definitions.items; query = raw_question_of f.query }

-- ---- formulas of first-order logic

-- no temporal operator stands in it
abbrev mutual
  pub HasNoOperator : RawForm → Type 0
  HasNoOperator (raw_atom p n ts) = Unit {0}
  HasNoOperator (raw_compare p l op r) = Unit {0}
  HasNoOperator (raw_member p t point) = Unit {0}
  HasNoOperator (raw_not p f) = HasNoOperator f
  HasNoOperator (raw_and p fs) = HaveNoOperator fs
  HasNoOperator (raw_or p fs) = HaveNoOperator fs
  HasNoOperator (raw_implies p f g) = HasNoOperator f × HasNoOperator g
  HasNoOperator (raw_group p f) = HasNoOperator f
  HasNoOperator (raw_exists p c f) = HasNoOperator f
  HasNoOperator (raw_forall p c f) = HasNoOperator f
  HasNoOperator (raw_ranged word o from to f) = ⊥
  HasNoOperator (raw_paired word o f g) = ⊥

  pub HaveNoOperator : RawForms → Type 0
  HaveNoOperator no_raws = Unit {0}
  HaveNoOperator (raw f fs) = HasNoOperator f × HaveNoOperator fs
