-- The sort faults of a file's own texts, one text after the other.
use Rattle.std.proofs.Common.{◌≡◌, ◌<◌, ◌+◌, ℕ, Bool, true, false, not, List, [], ◌∷◌, ◌++◌, length, map, take, get_or, Option, refl, ap, ap₂, sym, ◌∙◌, append_assoc}
use Rattle.std.proofs.lemmas.List.{append-nil, length-map, map-append, take-map, take_more}
use Rattle.lrp_model.specs.Faults.{earliest, fault_if, is_named_in}
use Rattle.lrp_model.specs.Sooner.{sooner}
use Rattle.lrp_model.specs.Sorting.{query_fault, query_faults, query_standing}
use Rattle.lrp_model.specs.RawQueries.{RawDefinitionView, RawFileView, RawQuestion, raw_definition_of, raw_form_of}
use Rattle.lrp_model.specs.declared.faults.QueryFault.{QueryFault}
use Rattle.lrp_model.specs.declared.faults.QueryKind.TheVariants.{Defined}
use Rattle.lrp_model.specs.declared.raw.RawDefinition.{RawDefinition}
use Rattle.lrp_model.specs.declared.relations.Relation.{Relation}
use Rattle.lrp_model.proofs.FirstFault.{first_of_both}
use Rattle.lrp_sorts.specs.Definitions.{Defined as DefinedBeside, is_taken}
use Rattle.lrp_tense.specs.Expanding.{expanded_question}
use Rattle.lrp_wide.specs.Inlining.{plain_definition, plain_file}
use Rattle.lrp_wide.specs.WideSorting.{faults_beside, name_faults, query_of, defined_relation, starred, starred_plain, text_faults}

-- ---- names

own_name : List Relation → RawDefinitionView → List QueryFault
own_name db d = fault_if (is_named_in (map (λ r. r.name) db) d.name) (query_fault Defined d.place)

-- one definition more
pub names_more : (db : List Relation) (ds : List RawDefinitionView) (d : RawDefinitionView)
    → name_faults db (ds ++ d ∷ []) ≡ name_faults db ds ++ fault_if (is_named_in (map (λ r. r.name) (db ++ map defined_relation ds)) d.name) (query_fault Defined d.place)
unfolding own_name
names_more db [] d = append-nil (own_name db d) ∙ ap (λ l. own_name l d) (sym (append-nil db))
names_more db (e ∷ ds) d =
    ap (λ l. own_name db e ++ l) (names_more (db ++ defined_relation e ∷ []) ds d ∙ ap (λ l. name_faults (db ++ defined_relation e ∷ []) ds ++ own_name l d) (append_assoc db (defined_relation e ∷ []) (map defined_relation ds)))
    ∙ sym (append_assoc (own_name db e) (name_faults (db ++ defined_relation e ∷ []) ds) (own_name (db ++ defined_relation e ∷ map defined_relation ds) d))

-- ---- texts without operators

-- the faults of each definition beside the ones before it
abbrev pub plain_faults : List Relation → List RawDefinitionView → List QueryFault
plain_faults db [] = []
plain_faults db (d ∷ ds) = query_faults db (starred_plain db (query_of d)) ++ plain_faults (db ++ defined_relation d ∷ []) ds

pub plain_more : (db : List Relation) (ds : List RawDefinitionView) (d : RawDefinitionView)
    → plain_faults db (ds ++ d ∷ []) ≡ plain_faults db ds ++ query_faults (db ++ map defined_relation ds) (starred_plain (db ++ map defined_relation ds) (query_of d))
plain_more db [] d = append-nil (query_faults db (starred_plain db (query_of d))) ∙ ap (λ l. query_faults l (starred_plain l (query_of d))) (sym (append-nil db))
plain_more db (e ∷ ds) d =
    let more = db ++ defined_relation e ∷ [] in
    ap (λ l. query_faults db (starred_plain db (query_of e)) ++ l)
    (plain_more more ds d ∙ ap (λ l. plain_faults more ds ++ query_faults l (starred_plain l (query_of d))) (append_assoc db (defined_relation e ∷ []) (map defined_relation ds)))
    ∙ sym (append_assoc (query_faults db (starred_plain db (query_of e))) (plain_faults more ds) (query_faults (db ++ defined_relation e ∷ map defined_relation ds) (starred_plain (db ++ defined_relation e ∷ map defined_relation ds) (query_of d))))

beside_plain : (db : List Relation) (ds : List RawDefinitionView) (q : RawQuestion)
    → faults_beside db ds q ≡ plain_faults db (map plain_definition ds) ++ query_faults (db ++ map defined_relation (map plain_definition ds)) (starred_plain (db ++ map defined_relation (map plain_definition ds)) (expanded_question q))
beside_plain db [] q = ap (λ l. query_faults l (starred_plain l (expanded_question q))) (sym (append-nil db))
beside_plain db (d ∷ ds) q =
    let more = db ++ defined_relation d ∷ [] in
    let all = db ++ defined_relation d ∷ map defined_relation (map plain_definition ds) in
    ap (λ l. query_faults db (starred db (query_of d)) ++ l)
    (beside_plain more ds q ∙ ap (λ l. plain_faults more (map plain_definition ds) ++ query_faults l (starred_plain l (expanded_question q))) (append_assoc db (defined_relation d ∷ []) (map defined_relation (map plain_definition ds))))
    ∙ sym (append_assoc (query_faults db (starred db (query_of d))) (plain_faults more (map plain_definition ds)) (query_faults all (starred_plain all (expanded_question q))))

-- the faults of a file's texts are those of its texts without operators
pub texts_plain : (db : List Relation) (f g : RawFileView) → g ≡ plain_file f
    → plain_faults db g.definitions ++ query_faults (db ++ map defined_relation g.definitions) (starred_plain (db ++ map defined_relation g.definitions) g.query) ≡ text_faults db f
texts_plain db f g e =
    ap (λ h. plain_faults db h.definitions ++ query_faults (db ++ map defined_relation h.definitions) (starred_plain (db ++ map defined_relation h.definitions) h.query)) e
    ∙ sym (beside_plain db f.definitions f.query)

-- ---- one text more

pub one_view : (xs : List RawDefinition) (i : ℕ) (x : RawDefinition) → i < length xs → x ≡ get_or xs i x → map raw_definition_of (take (i + 1) xs) ≡ map raw_definition_of (take i xs) ++ raw_definition_of x ∷ []
one_view xs i x lt is = ap (map raw_definition_of) (take_more xs i x lt ∙ ap (λ y. take i xs ++ y ∷ []) (sym is)) ∙ map-append raw_definition_of (take i xs) (x ∷ [])

pub one_relation : (xs : List RawDefinition) (i : ℕ) (x : RawDefinition) → i < length xs → x ≡ get_or xs i x
    → map defined_relation (map raw_definition_of (take i xs)) ++ defined_relation (raw_definition_of x) ∷ [] ≡ map defined_relation (map raw_definition_of (take (i + 1) xs))
one_relation xs i x lt is = sym (ap (map defined_relation) (one_view xs i x lt is) ∙ map-append defined_relation (map raw_definition_of (take i xs)) (raw_definition_of x ∷ []))

-- the first fault of the names so far, and of one more
pub name_more : (db : List Relation) (xs : List RawDefinition) (i : ℕ) (x : RawDefinition) (old own new : Option QueryFault) (defs : DefinedBeside) → i < length xs → x ≡ get_or xs i x
    → defs ≡ record { relations = db; definitions = map defined_relation (map raw_definition_of (take i xs)) } → old ≡ earliest query_standing (name_faults db (map raw_definition_of (take i xs)))
    → own ≡ earliest query_standing (fault_if (is_taken defs x.name) (query_fault Defined x.place)) → new ≡ sooner query_standing old own
    → new ≡ earliest query_standing (name_faults db (map raw_definition_of (take (i + 1) xs)))
name_more db xs i x old own new defs lt is d o w n =
    let ds = map raw_definition_of (take i xs) in
    let more = fault_if (is_named_in (map (λ r. r.name) (db ++ map defined_relation ds)) x.name) (query_fault Defined x.place) in
    let same : own ≡ earliest query_standing more = w ∙ ap (λ e. earliest query_standing (fault_if (is_taken e x.name) (query_fault Defined x.place))) d in
    n ∙ ap₂ (sooner query_standing) o same ∙ sym (first_of_both query_standing (name_faults db ds) more)
    ∙ ap (earliest query_standing) (sym (names_more db ds (raw_definition_of x))) ∙ ap (λ l. earliest query_standing (name_faults db l)) (sym (one_view xs i x lt is))

-- the first fault of the definitions so far, and of one more
pub text_more : (db all : List Relation) (xs : List RawDefinition) (i : ℕ) (x : RawDefinition) (old own new : Option QueryFault) → i < length xs → x ≡ get_or xs i x
    → all ≡ db ++ map defined_relation (map raw_definition_of (take i xs)) → old ≡ earliest query_standing (plain_faults db (map raw_definition_of (take i xs)))
    → own ≡ earliest query_standing (query_faults all (starred_plain all (query_of (raw_definition_of x)))) → new ≡ sooner query_standing old own
    → new ≡ earliest query_standing (plain_faults db (map raw_definition_of (take (i + 1) xs)))
text_more db all xs i x old own new lt is a o w n =
    let ds = map raw_definition_of (take i xs) in
    let here = db ++ map defined_relation ds in
    let q = query_of (raw_definition_of x) in
    let same : own ≡ earliest query_standing (query_faults here (starred_plain here q)) = w ∙ ap (λ l. earliest query_standing (query_faults l (starred_plain l q))) a in
    n ∙ ap₂ (sooner query_standing) o same ∙ sym (first_of_both query_standing (plain_faults db ds) (query_faults here (starred_plain here q)))
    ∙ ap (earliest query_standing) (sym (plain_more db ds (raw_definition_of x))) ∙ ap (λ l. earliest query_standing (plain_faults db l)) (sym (one_view xs i x lt is))

-- the first fault of all definitions, and of the query
pub text_end : (db all : List Relation) (g f : RawFileView) (old own new : Option QueryFault) → g ≡ plain_file f → all ≡ db ++ map defined_relation g.definitions → old ≡ earliest query_standing (plain_faults db g.definitions)
    → own ≡ earliest query_standing (query_faults all (starred_plain all g.query)) → new ≡ sooner query_standing old own → new ≡ earliest query_standing (text_faults db f)
text_end db all g f old own new e a o w n =
    let here = db ++ map defined_relation g.definitions in
    let same : own ≡ earliest query_standing (query_faults here (starred_plain here g.query)) = w ∙ ap (λ l. earliest query_standing (query_faults l (starred_plain l g.query))) a in
    n ∙ ap₂ (sooner query_standing) o same ∙ sym (first_of_both query_standing (plain_faults db g.definitions) (query_faults here (starred_plain here g.query)))
    ∙ ap (earliest query_standing) (texts_plain db f g e)

-- ---- what the code has

pub denied_twice : (b : Bool) → not (not b) ≡ b
denied_twice true = refl
denied_twice false = refl

-- the first definitions as relations
pub first_relations : (ds : List Relation) (xs : List RawDefinition) (i : ℕ) → ds ≡ map defined_relation (map raw_definition_of xs) → map defined_relation (map raw_definition_of (take i xs)) ≡ take i ds
first_relations ds xs i e = sym (ap (take i) e ∙ take-map defined_relation i (map raw_definition_of xs) ∙ ap (map defined_relation) (take-map raw_definition_of i xs))

-- there are as many of them
pub as_many : (ds : List Relation) (xs : List RawDefinition) → ds ≡ map defined_relation (map raw_definition_of xs) → length ds ≡ length xs
as_many ds xs e = ap length e ∙ length-map (map raw_definition_of xs) defined_relation ∙ length-map xs raw_definition_of
