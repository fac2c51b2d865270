-- Which sort elements an atom makes needless.
use Rattle.std.specs.Prelude.{Bool, false, ◌&&◌}
use Rattle.std.specs.Str.{bytes_eq}
use Rattle.lrp_model.specs.Texts.{Identifier}
use Rattle.lrp_model.specs.Sorts.{same_sort}
use Rattle.lrp_model.specs.declared.relations.Column.{Column}
use Rattle.lrp_model.specs.declared.formulas.DataTerm.{DataTerm}
use Rattle.lrp_model.specs.declared.formulas.DataTerm.TheVariants.{Var, Const}
use Rattle.lrp_model.specs.declared.formulas.Term.{Term}
use Rattle.lrp_model.specs.declared.formulas.Term.TheVariants.{Time, Data}
use Rattle.lrp_plan_laws.specs.GuardedConjunctions.{SortElement}
use Rattle.lrp_guarded.specs.declared.elements.RankedSort.{RankedSort}

-- the element that a value of the program is
abbrev pub sort_element : RankedSort → SortElement
sort_element e = record { sort = e.sort.now; variable = e.name.now }

-- the term is the variable of this name
abbrev pub is_named_term : Identifier → DataTerm → Bool
is_named_term v (Var w) = bytes_eq w v
is_named_term v (Const t) = false

-- the term is the element's variable, in a column of its sort
abbrev pub is_alone_at : SortElement → Column → Term → Bool
is_alone_at e c (Data t) = is_named_term e.variable t && same_sort c.sort e.sort
is_alone_at e c (Time t) = false
