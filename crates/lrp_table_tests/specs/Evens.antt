-- The relation of the even times, and the columns of a time and a text.
use Rattle.std.specs.Prelude.{List, [], ◌∷◌, codes, pos}
use Rattle.lrp_model.specs.declared.formulas.Term.{Term}
use Rattle.lrp_model.specs.declared.formulas.Term.TheVariants.{Time as time_term}
use Rattle.lrp_model.specs.declared.formulas.TimeTerm.TheVariants.{Var as time_var}
use Rattle.lrp_model.specs.declared.relations.Column.{Column}
use Rattle.lrp_model.specs.declared.relations.Relation.{Relation}
use Rattle.lrp_model.specs.declared.relations.Sort.TheVariants.{Time, Data}
use Rattle.lrp_model.specs.declared.relations.Value.TheVariants.{Point}

-- one column of times, and one row, whose point has the offset 0 and the period 2
abbrev pub evens : Relation
evens = record {
  name = codes "t";
  columns = record { name = codes "t"; sort = Time } ∷ [];
  rows = record { values = Point (record { offset = pos 0; period = pos 2 }) ∷ []; bounds = [] } ∷ [];
}

-- a time `t`, and a text `d`
abbrev pub time_and_text : List Column
time_and_text = record { name = codes "t"; sort = Time } ∷ record { name = codes "d"; sort = Data } ∷ []

-- the variable `t`
abbrev pub t_alone : List Term
t_alone = time_term (time_var (codes "t") (pos 0)) ∷ []
