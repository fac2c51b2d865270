-- What the parts of an answer to a file say together.
use Rattle.std.proofs.Common.{◌≡◌, ◌<◌, ◌+◌, ◌++◌, ℕ, suc, List, [], ◌∷◌, length, map, Option, None, refl, ap, ap₂, sym, ◌∙◌, arith}
use Rattle.std.specs.List.{AllByRecursion}
use Rattle.std.proofs.lemmas.List.{length-append, length-map}
use Rattle.lrp_model.specs.Faults.{earliest}
use Rattle.lrp_model.specs.Sooner.{sooner}
use Rattle.lrp_model.specs.Sorting.{query_standing}
use Rattle.lrp_model.specs.RawQueries.{RawDefinitionView, RawFileView, raw_definition_of}
use Rattle.lrp_model.specs.declared.faults.QueryFault.{QueryFault}
use Rattle.lrp_model.specs.declared.raw.RawDefinition.{RawDefinition}
use Rattle.lrp_model.specs.declared.relations.Relation.{Relation}
use Rattle.lrp_model.proofs.FirstFault.{first_of_both}
use Rattle.lrp_sorts.specs.Definitions.{Defined, rowless}
use Rattle.lrp_wide.specs.Counts.{AreRowless, file_numbers, kept_in, stopped_counts}
use Rattle.lrp_wide.specs.Inlining.{known_of, plain_definition, plain_file}
use Rattle.lrp_wide.specs.WideSorting.{name_faults, own_faults, text_faults}
use Rattle.lrp_wide.proofs.MeasureKnown.{known_length}

same_rowless : (ds : List RawDefinitionView) → map (λ w. rowless w.name w.columns) (map plain_definition ds) ≡ map (λ w. rowless w.name w.columns) ds
same_rowless [] = refl
same_rowless (d ∷ ds) = ap (λ l. rowless d.name d.columns ∷ l) (same_rowless ds)

-- a file without operators has the same definitions as relations without rows
pub rowless_plain : (d : Defined) (f g : RawFileView) → g ≡ plain_file f → AreRowless d f → AreRowless d g
rowless_plain d f g e h = h ∙ sym (ap (λ x. map (λ w. rowless w.name w.columns) x.definitions) e ∙ same_rowless f.definitions)

-- the first fault of a file's own texts, from that of its names and that of its texts
pub own_first : (db : List Relation) (f : RawFileView) (defined own total : Option QueryFault) → defined ≡ earliest query_standing (name_faults db f.definitions) → own ≡ earliest query_standing (text_faults db f)
    → total ≡ sooner query_standing defined own → total ≡ earliest query_standing (own_faults db f)
own_first db f defined own total d o t = t ∙ ap₂ (sooner query_standing) d o ∙ sym (first_of_both query_standing (name_faults db f.definitions) (text_faults db f))

-- there are as many definitions as are written, and numbers for each and for the query
pub definitions_long : (d : Defined) (f : RawFileView) (plain : List RawDefinition) → AreRowless d f → map raw_definition_of plain ≡ map plain_definition f.definitions → length d.definitions ≡ length plain
definitions_long d f plain h e =
    ap length h ∙ omega (arith, length-map f.definitions (λ w. rowless w.name w.columns), length-map plain raw_definition_of, ap length e, length-map f.definitions plain_definition)

pub numbers_long : (db : List Relation) (f : RawFileView) (plain : List RawDefinition) → map raw_definition_of plain ≡ map plain_definition f.definitions → length (file_numbers db f) ≡ suc (length plain)
numbers_long db f plain e =
    let ks = known_of db [] f.definitions in
    let both : length (file_numbers db f) ≡ length (map (λ k. stopped_counts k.counted) ks) + 1 = length-append (map (λ k. stopped_counts k.counted) ks) (kept_in db ks f.query.body ∷ []) in
    omega (arith, both, length-map ks (λ k. stopped_counts k.counted), known_length db [] f.definitions, length-map plain raw_definition_of, ap length e, length-map f.definitions plain_definition)
