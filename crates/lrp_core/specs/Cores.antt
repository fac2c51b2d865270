-- The formula that a core form of the program is.
use Rattle.std.specs.Prelude.{List, [], ◌∷◌, map}
use Rattle.lrp_model.specs.Formulas.{Form, Forms, atom, test, sorted, negation, conjunction, disjunction, exists, no_forms, form}
use Rattle.lrp_model.specs.declared.formulas.Test.{Test}
use Rattle.lrp_model.specs.declared.formulas.Test.TheVariants.{Compare as OwnCompare, Member as OwnMember, Equal as OwnEqual}
use Rattle.lrp_model.specs.RawTerms.{time_of, data_of, said_term}
use Rattle.lrp_core.specs.declared.core_forms.TermTest.{TermTest}
use Rattle.lrp_core.specs.declared.core_forms.TermTest.TheVariants.{Compare, Member, Equal}
use Rattle.lrp_core.specs.declared.core_forms.Core.{Core, Atom, Check, Sorted, Not', And', Or', Exists', Row_of-Core, end_of-Core, more_of-Core}

-- the test that one over the terms of a query is
abbrev pub test_of : TermTest → Test
test_of (Compare l op r) = OwnCompare (time_of l.now.kind) op (time_of r.now.kind)
test_of (Member t at) = OwnMember (time_of t.now.kind) at
test_of (Equal l r) = OwnEqual (data_of l.now.kind) (data_of r.now.kind)

abbrev mutual
  pub core_of : Core → Form
  core_of (Atom relation terms) = atom relation.now (map said_term terms.now)
  core_of (Check t) = test (test_of t)
  core_of (Sorted s v) = sorted s.now v.now
  core_of (Not' p f) = negation (core_of f)
  core_of (And' shape all) = conjunction (row_cores all)
  core_of (Or' shape all) = disjunction (row_cores all)
  core_of (Exists' v s p f) = exists v.now s.now (core_of f)

  pub row_cores : {m : _} → Row_of-Core m → Forms
  row_cores end_of-Core = no_forms
  row_cores (more_of-Core f rest) = form (core_of f) (row_cores rest)

-- those of a list
abbrev pub cores_of : List Core → Forms
cores_of [] = no_forms
cores_of (f ∷ fs) = form (core_of f) (cores_of fs)
