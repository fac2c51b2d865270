-- What stands around a formula while it is written out, and what a use brings.
use Rattle.std.specs.Prelude.{Box, ◌≡◌, ◌+◌, ◌-◌, ◌<◌, ◌++◌, ℕ, suc, Option, Some, None, List, [], ◌∷◌, map, take, length, slice_get, IfSome}
use Rattle.std.specs.Borrow.{Bor}
use Rattle.std.specs.Global.{Global}
use Rattle.std.specs.Option.{option_copied}
use Rattle.std.specs.List.{AllByRecursion}
use Rattle.lrp_model.specs.RawQueries.{HasNoOperator, RawFileView, RawForm, RawForms, raw_compare, raw_definition_of, raw_form_of}
use Rattle.lrp_model.specs.Rows.{columns_in, relation_named}
use Rattle.lrp_model.specs.Texts.{Identifier}
use Rattle.lrp_model.specs.declared.formulas.Op.TheVariants.{Eq}
use Rattle.lrp_model.specs.declared.raw.RawColumn.{RawColumn}
use Rattle.lrp_model.specs.declared.raw.RawDefinition.{RawDefinition}
use Rattle.lrp_model.specs.declared.raw.RawFormula.{RawFormula}
use Rattle.lrp_model.specs.declared.raw.RawKind.{Atom}
use Rattle.lrp_model.specs.declared.raw.RawTerm.{RawTerm}
use Rattle.lrp_model.specs.declared.relations.Column.{Column}
use Rattle.lrp_model.specs.declared.relations.Relation.{Relation}
use Rattle.lrp_model.specs.declared.tokens.Place.{Place}
use Rattle.lrp_tense.specs.Expanding.{name_term}
use Rattle.lrp_wide.specs.Inlining.{Counted, Known, Passed, UseSetting, column_added, counted_from, inlined_atom, compared_columns, inlined, inlined_each, itself, equal, known_of, meant_by, passed, plain_definition, star_columns, star_total, star_variable, use_form}
use Rattle.lrp_wide.specs.Chains.{AreChains}
use Rattle.lrp_wide.specs.Counts.{AreRowless, file_numbers, stopped_counts}
use Rattle.lrp_wide.specs.Settings.{IsPassedToo, name_passed, passed_of, setting_of}
use Rattle.lrp_wide.specs.declared.atoms.Met.{Met}
use Rattle.lrp_wide.specs.declared.inlining.UsedBody.{UsedBody}
use Rattle.lrp_wide.specs.declared.inlining.Named.{Named}
use Rattle.lrp_wide.specs.declared.inlining.Scene.{Scene}
use Rattle.lrp_wide.specs.declared.inlining.Written.{Written}
use Rattle.lrp_wide.specs.declared.passing.Arguments.{Arguments}
use Rattle.lrp_wide.specs.declared.uses.UseSetting.{UseSetting as SettingOf}

-- ---- definitions

abbrev pub HasPlainBody : RawDefinition → Type 0
HasPlainBody d = HasNoOperator (raw_form_of d.body)

-- no definition has an operator, and each has its name, its numbers, the query beside them too, and its chain if it begins one
pub record IsWholeWritten (w : Written) : Type 0 where
  pub operators : AllByRecursion HasPlainBody w.plain.now
  pub definitions : length w.definitions.now.definitions ≡ length w.plain.now
  pub numbers : length w.numbers.now ≡ suc (length w.plain.now)
  pub each_chain : length w.chains.now ≡ length w.plain.now
  pub chains : AreChains w.definitions.now w.plain.now w.chains.now

abbrev pub IsWholeIfAny : Option Written → Type 0
IsWholeIfAny None = Unit {0}
IsWholeIfAny (Some w) = IsWholeWritten w

-- the definitions of the file, by their names, without operators, and with their numbers
pub record AreWrittenBy (w : Written) (f : RawFileView) : Type 0 where
  pub names : AreRowless w.definitions.now f
  pub plain : map raw_definition_of w.plain.now ≡ map plain_definition f.definitions
  pub numbers : w.numbers.now ≡ file_numbers w.definitions.now.relations f

-- the numbers that are kept last, where they haven't stopped
abbrev pub AreOwnNumbers : Written → Option (Bor (List Counted)) → Type 0
AreOwnNumbers w made = (counted : List Counted) → slice_get w.numbers.now (length w.numbers.now - 1) ≡ Some (stopped_counts counted) → option_copied made ≡ Some counted

-- and they stand beside this database
pub record AreBeside (db : List Relation) (w : Written) (f : RawFileView) : Type 0 where
  pub database : w.definitions.now.relations ≡ db
  pub written : AreWrittenBy w f

abbrev pub AreWritten : List Relation → Option Written → RawFileView → Type 0
AreWritten db None f = Unit {0}
AreWritten db (Some w) f = AreBeside db w f

-- the definitions around a formula are those of the file
abbrev pub IsAround : Scene → RawFileView → Type 0
IsAround s f = AreWritten s.catalog.now s.written f

-- the definitions that an atom of a setting may name
abbrev pub known_here : List Relation → Option Written → RawFileView → ℕ → List Known
known_here db None f before = []
known_here db (Some w) f before = take before (known_of db [] f.definitions)

abbrev pub known_by : Scene → RawFileView → List Known
known_by s f = known_here s.catalog.now s.written f s.setting.before

-- the definition is one of those
pub record IsNamedIn (s : Scene) (d : Named) : Type 0 where
  pub whole : IsWholeWritten d.written
  pub written : s.written ≡ Some d.written
  pub before : d.number < s.setting.before
  pub there : d.number < length d.written.plain.now

-- what a name means in a scene: the definition with this number, or none
abbrev pub meant_at : List Known → Option Named → Option Known
meant_at ks None = None
meant_at ks (Some d) = slice_get ks d.number

pub record IsMeant (s : Scene) (n : Identifier) (d : Option Named) : Type 0 where
  pub named : IfSome d (IsNamedIn s)
  pub meaning : (f : RawFileView) → IsAround s f → meant_by s.catalog.now (known_by s f) n ≡ meant_at (known_of s.catalog.now [] f.definitions) d

-- ---- formulas

-- a formula in a scene, and several
abbrev pub inlined_here : Scene → RawFileView → RawForm → RawForm
inlined_here s f form = inlined s.catalog.now (known_by s f) form (setting_of s.setting)

abbrev pub each_inlined_here : Scene → RawFileView → RawForms → RawForms
each_inlined_here s f forms = inlined_each s.catalog.now (known_by s f) forms (setting_of s.setting)

-- an atom as it is met
abbrev pub met_form : Scene → RawFileView → Met → RawForm
met_form s f met =
    inlined_atom (setting_of s.setting) met.place met.number met.name.now (columns_in (relation_named s.catalog.now met.name.now)) met.terms.now (meant_by s.catalog.now (known_by s f) met.name.now)

-- what a use of the definition that has a number becomes
pub record IsUsed (s : Scene) (f : RawFileView) (met : Met) (number : ℕ) (form : RawForm) : Type 0 where
  pub used : (k : Known) → slice_get (known_of s.catalog.now [] f.definitions) number ≡ Some k → form ≡ use_form (setting_of s.setting) met.place met.number k met.terms.now

-- ---- uses

-- a column more whose term is a `*`, which takes the next number
pub record IsStar (old : Arguments) (p : Place) (c : Column) (new : Arguments) : Type 0 where
  pub next : new.next ≡ suc old.next
  pub stars : new.stars.items ≡ old.stars.items ++ column_added p (star_variable old.next) c.sort ∷ []
  pub columns : new.columns.items ≡ old.columns.items
  pub comparisons : map raw_form_of new.comparisons.items ≡ map raw_form_of old.comparisons.items
  pub passed : IsPassedToo old.passed.items c.name (star_variable old.next) new.passed.items

-- a column more that is this variable
pub record IsItself (old : Arguments) (c : Column) (n : Identifier) (new : Arguments) : Type 0 where
  pub next : new.next ≡ old.next
  pub stars : new.stars.items ≡ old.stars.items
  pub columns : new.columns.items ≡ old.columns.items
  pub comparisons : map raw_form_of new.comparisons.items ≡ map raw_form_of old.comparisons.items
  pub passed : IsPassedToo old.passed.items c.name n new.passed.items

-- a column more that is compared with this term
pub record IsArgumentCompared (old : Arguments) (b : RawColumn) (t : RawTerm) (new : Arguments) : Type 0 where
  pub next : new.next ≡ old.next
  pub stars : new.stars.items ≡ old.stars.items
  pub columns : new.columns.items ≡ old.columns.items ++ b ∷ []
  pub comparisons : map raw_form_of new.comparisons.items ≡ map raw_form_of old.comparisons.items ++ raw_compare b.place (name_term b.place b.name) Eq t ∷ []
  pub passed : new.passed.items ≡ old.passed.items

-- the comparisons that columns bring
abbrev pub comparisons_of : Place → List Passed → List RawForm
comparisons_of p [] = []
comparisons_of p (itself c n ∷ rest) = comparisons_of p rest
comparisons_of p (equal b c t ∷ rest) = raw_compare p (name_term p b.name) Eq t ∷ comparisons_of p rest

-- what the terms of an atom bring for these columns
pub record AreArguments (s : UseSetting) (met : Met) (cs : List Column) (made : Arguments) : Type 0 where
  pub next : made.next ≡ suc met.number + star_total cs met.terms.now
  pub stars : made.stars.items ≡ star_columns met.place (suc met.number) cs met.terms.now
  pub columns : made.columns.items ≡ compared_columns (passed s met.place met.number (suc met.number) cs met.terms.now)
  pub comparisons : map raw_form_of made.comparisons.items ≡ comparisons_of met.place (passed s met.place met.number (suc met.number) cs met.terms.now)
  pub passed : passed_of (passed s met.place met.number (suc met.number) cs met.terms.now) made.passed.items

-- ---- bodies of uses

-- what a body is read by, where the atoms of its text are counted
abbrev pub body_setting : UsedBody → List Counted → UseSetting
body_setting b counted = record { name = name_passed b.passed.items b.number; place = λ q. b.place; number = counted_from b.first counted }

-- a setting is the one that a body is read by
pub record IsBodySetting (b : UsedBody) (made : SettingOf) : Type 0 where
  pub before : made.before ≡ b.named.number
  pub name : (v : Identifier) → (setting_of made).name v ≡ name_passed b.passed.items b.number v
  pub place : (q : Place) → (setting_of made).place q ≡ b.place
  pub reads : (counted : List Counted) → slice_get b.named.written.numbers.now b.named.number ≡ Some (stopped_counts counted) → setting_of made ≡ body_setting b counted

-- a scene is the one inside a body
pub record IsInsideBody (s : Scene) (b : UsedBody) (made : Scene) : Type 0 where
  pub catalog : made.catalog.now ≡ s.catalog.now
  pub written : made.written ≡ s.written
  pub setting : IsBodySetting b made.setting

-- what a body becomes
pub record IsUsedBody (s : Scene) (f : RawFileView) (b : UsedBody) (form : RawForm) : Type 0 where
  pub body : (k : Known) → slice_get (known_of s.catalog.now [] f.definitions) b.named.number ≡ Some k → form ≡ k.form (body_setting b k.counted)

-- whatever one body becomes, the other becomes too
pub record IsPassedOn (s : Scene) (b last : UsedBody) : Type 0 where
  pub named : IsNamedIn s last.named
  pub same : (f : RawFileView) → IsAround s f → (form : RawForm) → IsUsedBody s f last form → IsUsedBody s f b form

-- ---- the query's own text, written out where it stands

-- one formula is what another becomes in a scene, and of several each
pub record IsWrittenIn (s : Scene) (old new : RawForm) : Type 0 where
  pub is : (f : RawFileView) → IsAround s f → new ≡ inlined_here s f old

pub record AreWrittenIn (s : Scene) (old new : RawForms) : Type 0 where
  pub are : (f : RawFileView) → IsAround s f → new ≡ each_inlined_here s f old

-- what a formula of the own text becomes where it is written anew, and else an atom stays
abbrev pub IsAtomWritten : Scene → RawFormula → Option (Box RawFormula Global) → Type 0
IsAtomWritten s f (Some made) = IsWrittenIn s (raw_form_of f) (raw_form_of made.value)
IsAtomWritten s f None = (n : Identifier) (ts : List RawTerm) → f.kind ≡ Atom n ts → IsWrittenIn s (raw_form_of f) (raw_form_of f)
