-- The answers of an expansion are those of the query as it is written.
use Rattle.std.proofs.Common.{◌↔◌, List, [], ◌∷◌, map, sym, subst}
use Rattle.std.specs.Prelude.{reverse}
use Rattle.std.specs.List.{AllZip}
use Rattle.lrp_model.specs.Rows.{Datum, Tuple}
use Rattle.lrp_model.specs.DatabaseMeaning.{column_of}
use Rattle.lrp_model.specs.Satisfaction.{Structure, Assignment, IsOfSort, IsAnswer, structure, assignment}
use Rattle.lrp_model.specs.Checked.{plain_question}
use Rattle.lrp_model.specs.RawQueries.{RawQuestion}
use Rattle.lrp_model.specs.declared.raw.RawColumn.{RawColumn}
use Rattle.lrp_model.specs.declared.relations.Relation.{Relation}
use Rattle.lrp_tense.specs.Meaning.{TenseSatisfies}
use Rattle.lrp_tense.specs.Expanding.{expanded_question}
use Rattle.lrp_tense.specs.Laws.{KeepsMeaningOver, IsTenseAnswer}

-- values have the sorts of columns with their places exactly where they have those of columns without
module _ (M : Structure) where
  fits_plain : (cs : List RawColumn) (ds : List Datum) → AllZip (λ c d. IsOfSort M c.sort d) cs ds → AllZip (λ c d. IsOfSort M c.sort d) (map column_of cs) ds
  fits_plain [] [] h = tt
  fits_plain [] (d ∷ ds) h = absurd h
  fits_plain (c ∷ cs) [] h = absurd h
  fits_plain (c ∷ cs) (d ∷ ds) h = (h.0, fits_plain cs ds h.1)

  fits_raw : (cs : List RawColumn) (ds : List Datum) → AllZip (λ c d. IsOfSort M c.sort d) (map column_of cs) ds → AllZip (λ c d. IsOfSort M c.sort d) cs ds
  fits_raw [] [] h = tt
  fits_raw [] (d ∷ ds) h = absurd h
  fits_raw (c ∷ cs) [] h = absurd h
  fits_raw (c ∷ cs) (d ∷ ds) h = (h.0, fits_raw cs ds h.1)

pub same_answers : (db : List Relation) (q : RawQuestion) (tuple : Tuple) → KeepsMeaningOver db q (expanded_question q) → IsAnswer db (plain_question (expanded_question q)) tuple ↔ IsTenseAnswer db q tuple
same_answers db q tuple keeps =
    let M : Structure = structure db (plain_question (expanded_question q)) in
    let env : Assignment = assignment (map column_of q.head) tuple in
    let Fits : Structure → Type 0 = λ N. AllZip (λ c d. IsOfSort N c.sort d) q.head tuple in
    let Satisfied : Structure → Type 0 = λ N. TenseSatisfies q.body (reverse q.head) N env in
    let same = keeps.satisfied M env in (
      (λ h. record { fits = subst Fits (sym keeps.texts) (fits_raw M q.head tuple h.fits); satisfies = subst Satisfied (sym keeps.texts) (same.1 h.satisfies) }),
      (λ h. record { fits = fits_plain M q.head tuple (subst Fits keeps.texts h.fits); satisfies = same.0 (subst Satisfied keeps.texts h.satisfies) }),
    )
