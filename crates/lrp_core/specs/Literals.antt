-- The data texts of a query as they are gathered.
use Rattle.std.specs.Prelude.{◌≡◌, List, [], ◌∷◌, ◌++◌, Option, Some, None}
use Rattle.lrp_model.specs.Texts.{Text}
use Rattle.lrp_model.specs.declared.relations.Sort.{Sort}
use Rattle.lrp_model.specs.declared.relations.Column.{Column}
use Rattle.lrp_model.specs.declared.formulas.Term.{Term}
use Rattle.lrp_model.specs.declared.formulas.Term.TheVariants.{Time as time_term, Data as data_term}
use Rattle.lrp_model.specs.declared.formulas.DataTerm.TheVariants.{Var as data_var, Const as data_const}

-- these texts more, within the same binders
pub record AddsTexts (texts : List (Sort × Text)) (binders then : List Column) (old new : List (Sort × Text)) : Type 0 where
  pub same : then ≡ binders
  pub more : new ≡ old ++ texts

-- the text of a term in a column of this sort, if it is one
abbrev pub one_text : Sort → Term → List (Sort × Text)
one_text s (time_term t) = []
one_text s (data_term (data_var v)) = []
one_text s (data_term (data_const t)) = (s, t) ∷ []

-- the same in a column that may be there
abbrev pub one_in : Option Column → Term → List (Sort × Text)
one_in (Some c) t = one_text c.sort t
one_in None t = []
