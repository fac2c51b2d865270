-- Queries in kept form: an `or` of conjunctive queries, each variable of which occurs in an atom.
use Rattle.std.specs.Prelude.{Bool, true, false, not, ◌&&◌, ◌||◌, List, [], ◌∷◌}
use Rattle.std.specs.List.{list_all}
use Rattle.lrp_model.specs.Formulas.{Form, Forms, Question, atom, test, exists, no_forms, form}
use Rattle.lrp_model.specs.Variables.{Variable, bound_by, is_among, head_variables, variables_of_test, free}
use Rattle.lrp_model.specs.Core.{positive, conjuncts, disjuncts}
use Rattle.lrp_model.specs.declared.relations.Column.{Column}

-- each of the formulas passes
abbrev pub all_pass : (Form → Bool) → Forms → Bool
all_pass p no_forms = true
all_pass p (form f fs) = p f && all_pass p fs

-- some of them passes
abbrev pub some_passes : (Form → Bool) → Forms → Bool
some_passes p no_forms = false
some_passes p (form f fs) = p f || some_passes p fs

-- the formula is an atom
abbrev pub is_atom : Form → Bool
is_atom (atom name terms) = true
is_atom f = false

-- neither an atom, nor an `in` point, a comparison or an equality
abbrev pub is_neither : Form → Bool
is_neither (atom name terms) = false
is_neither (test t) = false
is_neither f = true

-- the formula is an atom in which the variable occurs
abbrev pub is_atom_with : Variable → Form → Bool
is_atom_with v (atom name terms) = is_among (free (atom name terms)) v
is_atom_with v f = false

-- the variables of a test
abbrev pub tested_variables : Form → List Variable
tested_variables (test t) = variables_of_test t
tested_variables f = []

-- the formula after the `exists` that a formula begins with
abbrev pub matrix : Form → Form
matrix (exists v s f) = matrix f
matrix f = f

-- the variables that these `exists` bind
abbrev pub bound_variables : Form → List Variable
bound_variables (exists v s f) = bound_by s v ∷ bound_variables f
bound_variables f = []

-- the elements of the `and` after the `exists`, or what stands there in place of an `and`
abbrev pub kept_elements : Form → Forms
kept_elements f = conjuncts (matrix f)

-- each of the variables occurs in an atom among these
abbrev pub all_occur : Forms → List Variable → Bool
all_occur fs vs = list_all (λ v. some_passes (is_atom_with v) fs) vs

-- only atoms and tests, an atom among them, and each variable of a test occurs in an atom
abbrev pub is_conjunctive : Forms → Bool
is_conjunctive fs = not (some_passes is_neither fs) && some_passes is_atom fs && all_pass (λ f. all_occur fs (tested_variables f)) fs

-- `exists` before atoms and tests, in whose atoms the variables of the head and all of its own occur
abbrev pub is_disjunct : List Column → Form → Bool
is_disjunct columns f = is_conjunctive (kept_elements f) && all_occur (kept_elements f) (head_variables columns) && all_occur (kept_elements f) (bound_variables f)

-- the disjuncts of a query: its core form, without sort elements, or the elements of the `or` that it is
abbrev pub query_disjuncts : Question → Forms
query_disjuncts q = disjuncts (positive q.body false)

-- kept form: each of them is a disjunct
abbrev pub is_kept : Question → Bool
is_kept q = all_pass (is_disjunct q.head) (query_disjuncts q)
