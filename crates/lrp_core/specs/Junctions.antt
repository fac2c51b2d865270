-- `and` and `or` as one: a list of forms, joined in either way.
use Rattle.lrp_model.specs.Formulas.{Form, Forms, conjunction, disjunction, form, no_forms}
use Rattle.lrp_model.specs.Core.{conjuncts, disjuncts, all_conjuncts, all_disjuncts}
use Rattle.lrp_core.specs.declared.junctions.Junction.{Junction}
use Rattle.lrp_core.specs.declared.junctions.Junction.TheVariants.{And, Or}

-- the forms, joined as they stand
abbrev pub junction_of : Junction → Forms → Form
junction_of And fs = conjunction fs
junction_of Or fs = disjunction fs

-- a form's elements where it is joined to others
abbrev pub elements : Junction → Form → Forms
elements And f = conjuncts f
elements Or f = disjuncts f

-- those of each form
abbrev pub all_elements : Junction → Forms → Forms
all_elements And fs = all_conjuncts fs
all_elements Or fs = all_disjuncts fs

-- the forms, joined by their elements
abbrev pub joined_elements : Junction → Forms → Form
joined_elements junction fs = junction_of junction (all_elements junction fs)

-- two of them
abbrev pub two_of : Junction → Form → Form → Form
two_of junction f g = joined_elements junction (form f (form g no_forms))
