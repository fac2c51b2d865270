-- The answers of a file that was read and is well-sorted are those of its expanded query.
use Rattle.std.proofs.Common.{◌≡◌, ℕ, List, [], ◌∷◌, refl}
use Rattle.std.specs.List.{AllByRecursion}
use Rattle.lrp_model.specs.QueryReading.{IsFile}
use Rattle.lrp_model.specs.RawQueries.{RawDefinitionView, RawFileView}
use Rattle.lrp_model.specs.Sorting.{query_faults}
use Rattle.lrp_model.specs.declared.faults.QueryFault.{QueryFault}
use Rattle.lrp_model.specs.declared.relations.Relation.{Relation}
use Rattle.lrp_wide.specs.Inlining.{expanded_file}
use Rattle.lrp_wide.specs.Laws.{KeepsAnswers}
use Rattle.lrp_wide.specs.Outcomes.{IsExpandableDefinition, IsExpandableFile}
use Rattle.lrp_wide.specs.Stars.{DefinesNoStar}
use Rattle.lrp_wide.specs.WideSorting.{own_faults, faults_or_later, IsWellSortedFile}
use Rattle.lrp_wide.proofs.FreshWritten.{DefinesLetters, FileLetters, file_letters}
use Rattle.lrp_wide.proofs.LawfulFiles.{expandable_file, nothing_left}
use Rattle.lrp_wide.proofs.SatisfyFresh.{fresh_body}
use Rattle.lrp_wide.proofs.SatisfyAnswers.{answers_kept}
use Rattle.lrp_tense.proofs.HeadNames.{query_distinct}
use Rattle.lrp_wide.proofs.SortedFile.{IsPlainText, ArePlainTexts, IsReached, known_file, sorted_file}
use Rattle.lrp_wide.proofs.TextDomains.{have_same_texts}

-- neither its own texts nor the expanded query have faults
neither_faulty : (own others : List QueryFault) → faults_or_later own others ≡ [] → (own ≡ []) × (others ≡ [])
neither_faulty [] others e = (refl, e)
neither_faulty (f ∷ fs) others e = cc

plain_definitions : (ds : List RawDefinitionView) → AllByRecursion IsExpandableDefinition ds → AllByRecursion DefinesLetters ds → AllByRecursion DefinesNoStar ds → AllByRecursion (λ d. IsPlainText d.body) ds
plain_definitions [] x l s = tt
plain_definitions (d ∷ ds) x l s = (record { names = x.0.names; letters = l.0; stars = s.0 }, plain_definitions ds x.1 l.1 s.1)

plain_texts : (f : RawFileView) → IsExpandableFile f → FileLetters f → ArePlainTexts f.definitions f.query
plain_texts f x l = (plain_definitions f.definitions x.definitions l.definitions x.stars.definitions, record { names = x.query.names; letters = l.query; stars = x.stars.query })

pub keeps_answers : (bytes : List ℕ) (db : List Relation) (f : RawFileView) → IsFile bytes f → IsWellSortedFile db f → KeepsAnswers db f
keeps_answers bytes db f is sorted =
    let x = neither_faulty (own_faults db f) (query_faults db (expanded_file db f)) sorted in
    let t = plain_texts f (expandable_file bytes f is) (file_letters bytes f is) in
    let known = known_file db f t x.0 in
    let texts = have_same_texts db f known (query_distinct db (expanded_file db f) x.1) (fresh_body db (expanded_file db f) x.1) (nothing_left db f) in
    answers_kept db f (IsReached db f) texts (sorted_file db f t known) x.1
