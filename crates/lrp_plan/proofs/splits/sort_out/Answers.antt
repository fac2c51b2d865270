use Rattle.std.proofs.Common.{refl, sym, ap, ◌∙◌, map}
use Rattle.lrp_model.specs.RawTerms.{said_term}
use Rattle.lrp_core.specs.Cores.{core_of, cores_of, test_of}
use Rattle.lrp_core.proofs.CoreViews.{core_of-And, core_of-Or}
use Rattle.lrp_model.specs.Formulas.{exists, conjunction, disjunction, test}
use Rattle.lrp_plan.proofs.Sorting.{atom_sorted, sort_sorted, other_sorted, in_is, test_sorted, negation_sorted}
use Rattle.lrp_plan.proofs.splits.sort_out.Goals as goal

pub returns-in-Not : goal.returns-in-Not
returns-in-Not c = negation_sorted c.add_negation.result c.args.sources.now c.args.index c.args.core.now c.in-Not.of.value c.args.tree.now c.args.parts.now c.add_negation.new.parts (ap core_of c.in-Not.is) c.add_negation.ensures

pub returns-in_ok-push-in-Check : goal.returns-in_ok-push-in-Check
returns-in_ok-push-in-Check c =
    test_sorted c.args.sources.now c.args.index c.args.core.now c.args.tree.now (test_of c.in-Check.test) c.in_ok-test-in-Check.test c.args.parts.now _ (ap core_of c.in-Check.is) c.in_ok-test-in-Check.ensures (sym c.is_test.ensures ∙ c.if-is_test.true) refl c.in_ok-push-in-Check.ensures.ok refl

pub returns-else-is_test : goal.returns-else-is_test
returns-else-is_test c =
    let i = in_is (test_of c.in-Check.test) (sym c.is_test.ensures ∙ c.if-is_test.false) in
    other_sorted c.add_positive.result c.args.sources.now c.args.index c.args.core.now c.args.tree.now (test (test_of c.in-Check.test)) _ c.args.parts.now c.add_positive.new.parts (ap core_of c.in-Check.is) i.0 i.1 refl refl c.add_positive.ensures

pub returns-in-Atom : goal.returns-in-Atom
returns-in-Atom c = atom_sorted c.add_positive-in-Atom.result c.args.sources.now c.args.index c.args.core.now c.args.tree.now c.in-Atom.relation.now (map said_term c.in-Atom.terms.now) c.facts.result c.rank_of-rank.result c.args.parts.now c.add_positive-in-Atom.new.parts (ap core_of c.in-Atom.is) c.facts.ensures c.rank_of-rank.ensures.same c.rank_of-rank.ensures.below c.add_positive-in-Atom.ensures

pub returns-in-Sorted : goal.returns-in-Sorted
returns-in-Sorted c =
    sort_sorted c.add_positive-in-Sorted.result c.args.sources.now c.args.index c.args.core.now c.args.tree.now c.in-Sorted.sort.now c.in-Sorted.name.now c.count.result c.rank_of-rank-in-Sorted.result c.args.parts.now c.add_positive-in-Sorted.new.parts (ap core_of c.in-Sorted.is) c.count.ensures c.rank_of-rank-in-Sorted.ensures.same c.rank_of-rank-in-Sorted.ensures.below c.add_positive-in-Sorted.ensures

pub returns-in-And : goal.returns-in-And
returns-in-And c = other_sorted c.add_positive-in-And.result c.args.sources.now c.args.index c.args.core.now c.args.tree.now (conjunction (cores_of c.in-And.of.items)) _ c.args.parts.now c.add_positive-in-And.new.parts (ap core_of c.in-And.is ∙ core_of-And c.in-And.of) refl refl refl refl c.add_positive-in-And.ensures

pub returns-in-Or : goal.returns-in-Or
returns-in-Or c = other_sorted c.add_positive-in-Or.result c.args.sources.now c.args.index c.args.core.now c.args.tree.now (disjunction (cores_of c.in-Or.of.items)) _ c.args.parts.now c.add_positive-in-Or.new.parts (ap core_of c.in-Or.is ∙ core_of-Or c.in-Or.of) refl refl refl refl c.add_positive-in-Or.ensures

pub returns-in-Exists : goal.returns-in-Exists
returns-in-Exists c = other_sorted c.add_positive-in-Exists.result c.args.sources.now c.args.index c.args.core.now c.args.tree.now (exists c.in-Exists.name.now c.in-Exists.sort.now (core_of c.in-Exists.of.value)) _ c.args.parts.now c.add_positive-in-Exists.new.parts (ap core_of c.in-Exists.is) refl refl refl refl c.add_positive-in-Exists.ensures
