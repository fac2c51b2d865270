-- The answers of a file are those of its expanded query, where the texts of each sort are the same.
use Rattle.std.proofs.Common.{◌↔◌, List, [], ◌∷◌, Contains, map}
use Rattle.std.specs.Prelude.{reverse}
use Rattle.std.specs.List.{AllZip}
use Rattle.lrp_model.specs.Texts.{Identifier, Text}
use Rattle.lrp_model.specs.Rows.{Datum, time, text}
use Rattle.lrp_model.specs.Formulas.{Form, Forms, atom, test, sorted, negation, conjunction, disjunction, implication, exists, forall, no_forms, form}
use Rattle.lrp_model.specs.DatabaseMeaning.{column_of}
use Rattle.lrp_model.specs.Domains.{domain}
use Rattle.lrp_model.specs.Satisfaction.{Structure, Assignment, Satisfies, SatisfiesAll, SatisfiesSome, IsOfSort, assignment, with_value}
use Rattle.lrp_model.specs.Sorting.{IsWellSorted}
use Rattle.lrp_model.specs.Checked.{plain, plain_question}
use Rattle.lrp_model.specs.RawQueries.{RawFileView}
use Rattle.lrp_model.specs.declared.relations.Sort.{Sort}
use Rattle.lrp_model.specs.declared.relations.Sort.TheVariants.{Time, Data, Named}
use Rattle.lrp_model.specs.declared.relations.Relation.{Relation}
use Rattle.lrp_model.specs.declared.raw.RawColumn.{RawColumn}
use Rattle.lrp_model.proofs.Logic.{same, then_iff}
use Rattle.lrp_tense.proofs.Iff.{both_iff, imply_iff, not_iff, either_iff}
use Rattle.lrp_wide.specs.Inlining.{expanded_file}
use Rattle.lrp_wide.specs.Laws.{KeepsAnswers}
use Rattle.lrp_wide.specs.Meaning.{wide_domain, wide_structure}
use Rattle.lrp_wide.proofs.SatisfyNotions.{AreSortedTexts}
use Rattle.lrp_wide.proofs.SatisfyFile.{file_kept}
use Rattle.lrp_wide.proofs.SatisfyFresh.{fresh_body}

-- the same texts are of each sort
abbrev pub HaveSameTexts : (Sort → List Text) → (Sort → List Text) → Type 0
HaveSameTexts a b = (s : Sort) (t : Text) → Contains (a s) t ↔ Contains (b s) t

-- ---- structures with the same texts

module _ (db : List Relation) (a b : Sort → List Text) (h : HaveSameTexts a b) where
  abbrev left : Structure
  left = record { relations = db; domain = a }

  abbrev right : Structure
  right = record { relations = db; domain = b }

  of_sort_same : (s : Sort) (d : Datum) → IsOfSort left s d ↔ IsOfSort right s d
  of_sort_same Time (time x) = same
  of_sort_same Time (text t) = same
  of_sort_same Data (time x) = same
  of_sort_same Data (text t) = h Data t
  of_sort_same (Named n) (time x) = same
  of_sort_same (Named n) (text t) = h (Named n) t

  mutual
    same_satisfied : (f : Form) (env : Assignment) → Satisfies f left env ↔ Satisfies f right env
    same_satisfied (atom name terms) env = same
    same_satisfied (test t) env = same
    same_satisfied (sorted s v) env = h s (env.texts v)
    same_satisfied (negation f) env = not_iff (same_satisfied f env)
    same_satisfied (conjunction fs) env = same_all fs env
    same_satisfied (disjunction fs) env = same_some fs env
    same_satisfied (implication f g) env = imply_iff (same_satisfied f env) (same_satisfied g env)
    same_satisfied (exists v s f) env =
        ((λ y n. y (λ d z. n d ((of_sort_same s d).0 z.0, (same_satisfied f (with_value v d env)).0 z.1))), λ y n. y (λ d z. n d ((of_sort_same s d).1 z.0, (same_satisfied f (with_value v d env)).1 z.1)))
    same_satisfied (forall v s f) env =
        ((λ y d o. (same_satisfied f (with_value v d env)).0 (y d ((of_sort_same s d).1 o))), λ y d o. (same_satisfied f (with_value v d env)).1 (y d ((of_sort_same s d).0 o)))

    same_all : (fs : Forms) (env : Assignment) → SatisfiesAll fs left env ↔ SatisfiesAll fs right env
    same_all no_forms env = same
    same_all (form f fs) env = both_iff (same_satisfied f env) (same_all fs env)

    same_some : (fs : Forms) (env : Assignment) → SatisfiesSome fs left env ↔ SatisfiesSome fs right env
    same_some no_forms env = same
    same_some (form f fs) env = either_iff (same_satisfied f env) (same_some fs env)

  same_fits : (columns : List RawColumn) (ds : List Datum) → AllZip (λ c d. IsOfSort left c.sort d) columns ds ↔ AllZip (λ c d. IsOfSort right c.sort d) (map column_of columns) ds
  same_fits [] [] = same
  same_fits [] (d ∷ ds) = same
  same_fits (c ∷ columns) [] = same
  same_fits (c ∷ columns) (d ∷ ds) = both_iff (of_sort_same c.sort d) (same_fits columns ds)

-- ---- answers

pub answers_kept : (db : List Relation) (f : RawFileView) (R : Identifier → Type 0) → HaveSameTexts (wide_domain db f) (domain db (plain_question (expanded_file db f)))
    → AreSortedTexts db (wide_structure db f) R f.definitions f.query → IsWellSorted db (expanded_file db f) → KeepsAnswers db f
answers_kept db f R h t w tuple =
    let fits = same_fits db (wide_domain db f) (domain db (plain_question (expanded_file db f))) h f.query.head tuple in
    let says =
    then_iff (file_kept (wide_structure db f) R f.definitions f.query t (fresh_body db (expanded_file db f) w) (assignment (map column_of f.query.head) tuple))
    (same_satisfied db (wide_domain db f) (domain db (plain_question (expanded_file db f))) h (plain (expanded_file db f).body (reverse f.query.head)) (assignment (map column_of f.query.head) tuple)) in (
      (λ y. record { fits = fits.0 y.fits; satisfies = says.0 y.satisfies }),
      λ y. record { fits = fits.1 y.fits; satisfies = says.1 y.satisfies },
    )
