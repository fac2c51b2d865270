-- The answers of a query with one time column as a set of numbers with texts.
use Rattle.std.specs.Prelude.{◌≡◌, ℤ, List, [], ◌∷◌}
use Rattle.lrp_model.specs.Formulas.{Question}
use Rattle.lrp_model.specs.Rows.{times_of, texts_of, Tuple}
use Rattle.lrp_model.specs.Satisfaction.{IsAnswer}
use Rattle.lrp_model.specs.Texts.{Text}
use Rattle.lrp_model.specs.declared.relations.Relation.{Relation}

-- the number and the texts are the one time and the texts of an answer
pub record HasNumber (db : List Relation) (q : Question) (x : ℤ) (texts : List Text) : Type 0 where
  pub tuple : Tuple
  pub is : IsAnswer db q tuple
  pub time : times_of tuple ≡ x ∷ []
  pub named : texts_of tuple ≡ texts
