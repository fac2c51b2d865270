-- Sizes of expanded formulas as they are counted.
use Rattle.std.specs.Prelude.{◌≡◌, ◌+◌, ◌-◌, ◌^◌, ℕ, zero, suc, min, Bool, true, false, List, [], ◌∷◌, if◌then◌else◌}
use Rattle.lrp_query.specs.Lawful.{formulas_in, formulas_of}
use Rattle.std.specs.Str.{bytes_eq}
use Rattle.lrp_model.specs.QueryMeaning.{star_name}
use Rattle.lrp_model.specs.Texts.{Identifier}
use Rattle.lrp_model.specs.RawQueries.{RawForm, RawForms}
use Rattle.lrp_model.specs.declared.relations.Column.{Column}
use Rattle.lrp_model.specs.declared.relations.Relation.{Relation}
use Rattle.lrp_model.specs.declared.raw.RawTerm.{RawTerm}
use Rattle.lrp_model.specs.declared.raw.RawTermKind.{RawTermKind}
use Rattle.lrp_model.specs.declared.raw.RawTermKind.TheVariants.{Int, Text, Var, Shifted}
use Rattle.lrp_model.specs.declared.tokens.Place.{Place}
use Rattle.lrp_tense.specs.Expanding.{Naming, expanded, expanded_each, present_name}
use Rattle.lrp_wide.specs.Inlining.{Known, UseSetting, inlined, inlined_each, star_total}
use Rattle.lrp_wide.specs.Limits.{depth_of, depth_of_each}
use Rattle.lrp_wide.specs.Stars.{BindNoStar, BindsNoStar}
use Rattle.lrp_wide.specs.declared.measures.Size.{Size}
use Rattle.lrp_wide.specs.declared.measures.Terms.{Terms}

-- a count that stops at the greatest word
abbrev pub counted_formulas : ℕ → ℕ
counted_formulas n = min n (2 ^ 64 - 1)

-- the size of a formula, and of several beside each other
pub record IsSize (size : Size) (all deep : ℕ) : Type 0 where
  pub formulas : size.formulas ≡ counted_formulas all
  pub depth : size.depth ≡ counted_formulas deep

abbrev pub IsSizeOf : Size → RawForm → Type 0
IsSizeOf size f = IsSize size (formulas_in f) (depth_of f)

abbrev pub IsSizeOfEach : Size → RawForms → Type 0
IsSizeOfEach size fs = IsSize size (formulas_of fs) (depth_of_each fs)

-- the size of a definition in each use
abbrev pub IsKnownSize : Known → Size → Type 0
IsKnownSize k size = (s : UseSetting) → IsSizeOf size (k.form s)

-- the first definitions, as relations without rows and with their sizes, are these
pub record IsMeasured (k : Known) (d : Relation) (found : Size) : Type 0 where
  pub name : d.name ≡ k.name
  pub columns : d.columns ≡ k.columns
  pub size : IsKnownSize k found

abbrev pub AreMeasured : List Known → List Relation → List Size → Type 0
AreMeasured [] definitions sizes = sizes ≡ []
AreMeasured (k ∷ ks) (d ∷ ds) (size ∷ sizes) = IsMeasured k d size × AreMeasured ks ds sizes
AreMeasured (k ∷ ks) _ _ = ⊥

-- a `*` keeps its name, and no variable gets it
abbrev pub KeepsStar : Naming → Type 0
KeepsStar names = (v : Identifier) → bytes_eq (present_name names v) star_name ≡ bytes_eq v star_name

-- a size of the formula, with its operators written out by any numbers, in any setting beside these definitions
abbrev pub IsSizeIn : List Relation → List Known → Size → RawForm → Type 0
IsSizeIn db ks size f = (number : Place → ℕ) (names : Naming) (s : UseSetting) → KeepsStar names → BindsNoStar f → IsSizeOf size (inlined db ks (expanded f number names) s)

abbrev pub IsSizeInEach : List Relation → List Known → Size → RawForms → Type 0
IsSizeInEach db ks size fs = (number : Place → ℕ) (names : Naming) (s : UseSetting) → KeepsStar names → BindNoStar fs → IsSizeOfEach size (inlined_each db ks (expanded_each fs number names) s)

-- whether a term is compared with a variable of its column: it is no variable without an offset
abbrev pub is_compared_kind : RawTermKind → Bool
is_compared_kind (Int x) = true
is_compared_kind (Text t) = true
is_compared_kind (Var v) = false
is_compared_kind (Shifted v plus) = true

abbrev pub is_compared : RawTerm → Bool
is_compared t = is_compared_kind t.kind

-- how many terms that have a column are compared
abbrev pub compared_total : List Column → List RawTerm → ℕ
compared_total (c ∷ cs) (t ∷ ts) = if is_compared t then suc (compared_total cs ts) else compared_total cs ts
compared_total _ _ = 0

-- the terms of an atom by its columns
pub record AreTermsCounted (terms : Terms) (columns : List Column) (ts : List RawTerm) : Type 0 where
  pub stars : terms.stars ≡ star_total columns ts
  pub compared : terms.compared ≡ compared_total columns ts
