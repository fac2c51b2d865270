use Rattle.std.proofs.Common.{ap, map, sym, ◌∙◌}
use Rattle.lrp_core.specs.Cores.{core_of, test_of}
use Rattle.lrp_model.specs.Formulas.{atom, test, sorted}
use Rattle.lrp_model.specs.RawTerms.{said_term}
use Rattle.lrp_guarded.proofs.Projected.{leaf_steps, test_steps}
use Rattle.lrp_guarded.proofs.making.plan_leaf.Goals as goal

pub returns-in-Atom : goal.returns-in-Atom
returns-in-Atom c = leaf_steps c.plan_atom.result c.args.sources.now (core_of c.args.core.now) (atom c.in-Atom.relation.now (map said_term c.as_slice.result.now)) c.args.draft.now c.plan_atom.new.draft (ap core_of c.in-Atom.is ∙ ap (λ ts. atom c.in-Atom.relation.now (map said_term ts)) (sym c.as_slice.ensures)) c.plan_atom.ensures

pub returns-in-Check : goal.returns-in-Check
returns-in-Check c = test_steps c.plan_test.result c.args.sources.now (core_of c.args.core.now) (test (test_of c.in-Check.test)) c.args.draft.now c.plan_test.new.draft (ap core_of c.in-Check.is) c.plan_test.ensures

pub returns-in-Sorted : goal.returns-in-Sorted
returns-in-Sorted c = leaf_steps c.plan_sorted.result c.args.sources.now (core_of c.args.core.now) (sorted c.in-Sorted.sort.now c.in-Sorted.name.now) c.args.draft.now c.plan_sorted.new.draft (ap core_of c.in-Sorted.is) c.plan_sorted.ensures
