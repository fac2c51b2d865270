-- What an atom names in a scene.
use Rattle.std.proofs.Common.{◌≡◌, ℕ, zero, suc, ◌<◌, ◌≤◌, Option, Some, None, List, [], ◌∷◌, map, length, take, slice_get, refl, ap, ap₂, sym, subst, ◌∙◌, arith}
use Rattle.std.proofs.lemmas.List.{length-map, take-map}
use Rattle.lrp_model.specs.RawQueries.{RawDefinitionView, RawFileView, RawForm, raw_definition_of}
use Rattle.lrp_model.specs.Rows.{columns_in, relation_named}
use Rattle.lrp_model.specs.Texts.{Identifier}
use Rattle.lrp_model.specs.declared.relations.Relation.{Relation}
use Rattle.lrp_sorts.specs.Definitions.{definition_number, rowless}
use Rattle.lrp_wide.specs.Inlining.{Known, inlined_atom, known_of, meant_by, plain_definition, without_relation}
use Rattle.lrp_wide.specs.Inside.{AreBeside, AreWritten, IsAround, IsNamedIn, IsUsed, known_by, known_here, met_form}
use Rattle.lrp_wide.specs.Settings.{setting_of}
use Rattle.lrp_wide.specs.declared.atoms.Met.{Met}
use Rattle.lrp_wide.specs.declared.inlining.Named.{Named}
use Rattle.lrp_wide.specs.declared.inlining.Scene.{Scene}
use Rattle.lrp_wide.specs.declared.inlining.Written.{Written}
use Rattle.lrp_wide.proofs.InlineKnown.{known-length, known-names}
use Rattle.lrp_wide.proofs.MeantNames.{number_nowhere, number_there}
use Rattle.lrp_wide.proofs.NumberKnown.{at_below}

pub names_again : (ds : List RawDefinitionView) → map (λ (r : Relation). r.name) (map (λ (w : RawDefinitionView). rowless w.name w.columns) ds) ≡ map (λ (w : RawDefinitionView). w.name) ds
names_again [] = refl
names_again (d ∷ ds) = ap (λ l. d.name ∷ l) (names_again ds)

pub among_first : {X : Type 0} (xs : List X) (n before : ℕ) → n < before → slice_get (take before xs) n ≡ slice_get xs n
among_first [] n zero lt = refl
among_first [] n (suc before) lt = refl
among_first (x ∷ xs) n zero lt = absurd (omega (arith, lt))
among_first (x ∷ xs) zero (suc before) lt = refl
among_first (x ∷ xs) (suc n) (suc before) lt = among_first xs n before (omega (arith, lt))

pub none_left : (o : Option Relation) → without_relation o None ≡ None
none_left None = refl
none_left (Some r) = refl

module _ (s : Scene) (file : RawFileView) (name : Identifier) (around : IsAround s file) where
  -- no definitions stand around
  pub meant-alone : s.written ≡ None → meant_by s.catalog.now (known_by s file) name ≡ None
  meant-alone e =
      let known : known_by s file ≡ [] = ap (λ o. known_here s.catalog.now o file s.setting.before) e in
      ap (λ ks. meant_by s.catalog.now ks name) known ∙ none_left (relation_named s.catalog.now name)

  module _ (w : Written) (is : s.written ≡ Some w) where
    beside : AreBeside s.catalog.now w file
    beside = subst (λ o. AreWritten s.catalog.now o file) is around

    abbrev before : ℕ
    before = s.setting.before

    abbrev all : List Known
    all = known_of s.catalog.now [] file.definitions

    known : known_by s file ≡ take before all
    known = ap (λ o. known_here s.catalog.now o file before) is

    names : map (λ (r : Relation). r.name) (take before w.definitions.now.definitions) ≡ map (λ (k : Known). k.name) (take before all)
    names =
        sym (take-map (λ (r : Relation). r.name) before w.definitions.now.definitions)
        ∙ ap (take before) (ap (map (λ (r : Relation). r.name)) beside.written.names ∙ names_again file.definitions ∙ sym (known-names s.catalog.now file.definitions))
        ∙ take-map (λ (k : Known). k.name) before all

    -- the name is none of theirs
    pub meant-other : definition_number w.definitions.now before name ≡ None → meant_by s.catalog.now (known_by s file) name ≡ None
    meant-other e = ap₂ (λ rs ks. meant_by rs ks name) (sym beside.database) known ∙ number_nowhere w.definitions.now (take before all) before name names e

    -- it is the name of one
    pub meant-named : (i : ℕ) → definition_number w.definitions.now before name ≡ Some i → i < before → meant_by s.catalog.now (known_by s file) name ≡ slice_get (known_of s.catalog.now [] file.definitions) i
    meant-named i e lt =
        ap₂ (λ rs ks. meant_by rs ks name) (sym beside.database) known ∙ number_there w.definitions.now (take before all) before name names i e ∙ among_first all i before lt

    -- there are as many definitions as in the file
    pub as-many : (n : ℕ) → n < length w.plain.now → n < length (known_of s.catalog.now [] file.definitions)
    as-many n lt =
        let same : length (map raw_definition_of w.plain.now) ≡ length (map plain_definition file.definitions) = ap length beside.written.plain in
        let a = length-map w.plain.now raw_definition_of in
        let b = length-map file.definitions plain_definition in
        let size = known-length s.catalog.now file.definitions in
        omega (arith, lt, same, a, b, size)

-- a use is what the atom becomes
pub atom-used : (s : Scene) (d : Named) (file : RawFileView) (met : Met) (made : RawForm) → IsNamedIn s d → IsAround s file → meant_by s.catalog.now (known_by s file) met.name.now ≡ slice_get (known_of s.catalog.now [] file.definitions) d.number
    → IsUsed s file met d.number made → made ≡ met_form s file met
atom-used s d file met made h around e u =
    let at = at_below (known_of s.catalog.now [] file.definitions) d.number (as-many s file met.name.now around d.written h.written d.number h.there) in
    u.used at.entry at.is ∙ ap (inlined_atom (setting_of s.setting) met.place met.number met.name.now (columns_in (relation_named s.catalog.now met.name.now)) met.terms.now) (sym (e ∙ at.is))
