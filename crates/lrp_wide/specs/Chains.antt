-- Chains of definitions that each only name an earlier one, with variables for its columns.
use Rattle.std.specs.Prelude.{Box, ◌≡◌, ◌<◌, ◌≤◌, ◌+◌, ℕ, suc, List, [], ◌∷◌, map, Option, Some, None, slice_get, length}
use Rattle.std.specs.Global.{Global}
use Rattle.std.specs.List.{AllWithin}
use Rattle.lrp_model.specs.RawQueries.{RawFileView, RawForm, raw_definition_of}
use Rattle.lrp_model.specs.Texts.{Identifier}
use Rattle.lrp_model.specs.declared.raw.RawDefinition.{RawDefinition}
use Rattle.lrp_model.specs.declared.raw.RawTerm.{RawTerm}
use Rattle.lrp_model.specs.declared.relations.Column.{Column}
use Rattle.lrp_model.specs.declared.relations.Relation.{Relation}
use Rattle.lrp_model.specs.declared.tokens.Place.{Place}
use Rattle.lrp_sorts.specs.Definitions.{Defined}
use Rattle.lrp_wide.specs.Counts.{AreRowless}
use Rattle.lrp_wide.specs.Inlining.{Counted, Known, Passed, UseSetting, counted_from, itself, known_of, passed, passed_name, plain_definition, star_total}
use Rattle.lrp_wide.specs.declared.chains.Chain.{Chain}

-- columns that are these variables, by their names in a setting
abbrev pub as_themselves : (Identifier → Identifier) → List Column → List Identifier → List Passed
as_themselves name (c ∷ cs) (v ∷ vs) = itself c.name (name v) ∷ as_themselves name cs vs
as_themselves name _ _ = []

-- terms that are only these variables, none of which is a `*`
pub record AreVariables (cs : List Column) (ts : List RawTerm) (vs : List Identifier) : Type 0 where
  pub stars : star_total cs ts ≡ 0
  pub passed : (s : UseSetting) (p : Place) (k j : ℕ) → passed s p k j cs ts ≡ as_themselves s.name cs vs

-- a column with this name is this variable
abbrev pub IsVariableOf : List Column → List Identifier → Identifier → Identifier → Type 0
IsVariableOf cs vs n v = (name : Identifier → Identifier) (k : ℕ) → passed_name (as_themselves name cs vs) k n ≡ name v

-- a chain goes on where another does, by the variables that the columns between are
pub record IsContinued (cs : List Column) (vs : List Identifier) (further made : Chain) : Type 0 where
  pub end : made.end ≡ further.end
  pub steps : made.steps ≡ further.steps + 1
  pub names : (name : Identifier → Identifier) (k : ℕ) → map (passed_name (as_themselves name cs vs) k) further.names.items ≡ map name made.names.items

-- a chain of one step
pub record IsSingleStep (n : ℕ) (vs : List Identifier) (c : Chain) : Type 0 where
  pub end : c.end ≡ n
  pub steps : c.steps ≡ 1
  pub names : c.names.items ≡ vs

-- a chain, if any, takes a step to a definition, and goes on along its chain
abbrev pub IsStepTo : List Column → List Identifier → ℕ → Option (Box Chain Global) → Option (Box Chain Global) → Type 0
IsStepTo cs vs n further None = Unit {0}
IsStepTo cs vs n None (Some c) = IsSingleStep n vs c.value
IsStepTo cs vs n (Some further) (Some c) = IsContinued cs vs further.value c.value

-- what a text is read by in a use: its names, its place and its first number
abbrev pub read_by : (Identifier → Identifier) → Place → ℕ → List Counted → UseSetting
read_by name p first counted = record { name = name; place = λ q. p; number = counted_from first counted }

-- what the definition with a number becomes, read by a setting for its atoms
abbrev pub IsBodyBy : List Relation → RawFileView → ℕ → (List Counted → UseSetting) → RawForm → Type 0
IsBodyBy db f n u form = (k : Known) → slice_get (known_of db [] f.definitions) n ≡ Some k → form ≡ k.form (u k.counted)

-- definitions of a file beside a database, and their texts without operators
pub record ArePlainTextsOf (d : Defined) (texts : List RawDefinition) (db : List Relation) (f : RawFileView) : Type 0 where
  pub database : d.relations ≡ db
  pub names : AreRowless d f
  pub plain : map raw_definition_of texts ≡ map plain_definition f.definitions

-- a chain leads from a definition to an earlier one: whatever this becomes, the first becomes
pub record IsChain (d : Defined) (plain : List RawDefinition) (i : ℕ) (c : Chain) : Type 0 where
  pub earlier : c.end < i
  pub long : 1 ≤ c.steps
  pub few : c.steps ≤ i
  pub same : (db : List Relation) (f : RawFileView) → ArePlainTextsOf d plain db f → (r : Relation) → slice_get d.definitions c.end ≡ Some r
      → (name : Identifier → Identifier) (p : Place) (first k : ℕ) → suc k ≡ first + c.steps → (form : RawForm)
      → IsBodyBy db f c.end (read_by (passed_name (as_themselves name r.columns c.names.items) k) p (suc k)) form → IsBodyBy db f i (read_by name p first) form

abbrev pub IsChainIfAny : Defined → List RawDefinition → ℕ → Option (Box Chain Global) → Type 0
IsChainIfAny d plain i None = Unit {0}
IsChainIfAny d plain i (Some c) = IsChain d plain i c.value

-- each of them leads on from the definition with its number
abbrev pub AreChains : Defined → List RawDefinition → List (Option (Box Chain Global)) → Type 0
AreChains d plain chains = (i : ℕ) (c : Option (Box Chain Global)) → slice_get chains i ≡ Some c → IsChainIfAny d plain i c
