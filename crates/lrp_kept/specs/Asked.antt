-- What is looked for among the elements of a conjunction.
use Rattle.std.specs.Prelude.{Bool}
use Rattle.lrp_model.specs.Formulas.{Form, Forms, form_of}
use Rattle.lrp_model.specs.Variables.{bound_by}
use Rattle.lrp_model.specs.Core.{conjuncts}
use Rattle.lrp_kept.specs.KeptForm.{all_occur, all_pass, tested_variables, is_atom, is_atom_with, is_neither}
use Rattle.lrp_kept.specs.Signs.{kept_signed}
use Rattle.lrp_kept.specs.declared.signs.Signed.{Signed}
use Rattle.lrp_kept.specs.declared.looking.Sought.{Sought}
use Rattle.lrp_kept.specs.declared.looking.Sought.TheVariants.{Neither, Atom, AtomWith}

-- the element is what is looked for
abbrev pub is_sought : Sought → Form → Bool
is_sought Neither f = is_neither f
is_sought Atom f = is_atom f
is_sought (AtomWith sort name) f = is_atom_with (bound_by sort.now name.now) f

-- the core form of a formula by its sign
abbrev pub core_of : Signed → Form
core_of s = kept_signed s.holds (form_of s.formula.now)

-- the elements of the conjunction that it is
abbrev pub conjuncts_of : Signed → Forms
conjuncts_of s = conjuncts (core_of s)

-- the variables of the tests among formulas occur in atoms of the conjunction
abbrev pub tests_in_atoms : Signed → Forms → Bool
tests_in_atoms whole fs = all_pass (λ f. all_occur (conjuncts_of whole) (tested_variables f)) fs
