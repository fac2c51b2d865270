use Rattle.std.proofs.Common.{refl, ap, ◌∙◌, map}
use Rattle.lrp_model.specs.RawTerms.{said_term}
use Rattle.lrp_core.specs.Cores.{core_of, cores_of, test_of}
use Rattle.lrp_core.proofs.CoreViews.{core_of-And, core_of-Or}
use Rattle.lrp_model.specs.Formulas.{exists, conjunction, disjunction}
use Rattle.lrp_guarded.proofs.SortedOut.{atom_out, sort_out, other_out, negation_out, check_out}
use Rattle.lrp_guarded.proofs.elements.Elements.add.Goals as goal

pub returns-in_ok-push-in-Not : goal.returns-in_ok-push-in-Not
returns-in_ok-push-in-Not c = λ over K s.
    negation_out over K c.args.index c.args.core.now c.args.tree.now c.args.self.now _ (core_of c.in-Not.of.value) (record { index = c.args.index; tree = c.args.tree }) (ap core_of c.in-Not.is) refl refl c.in_ok-push-in-Not.ensures.items refl refl refl refl

pub returns-in_ok-add_check-in-Check : goal.returns-in_ok-add_check-in-Check
returns-in_ok-add_check-in-Check c = λ over K s.
    check_out over K c.args.index c.args.core.now c.args.tree.now c.args.self.now c.add_check.new.self (test_of c.in-Check.test) _ (ap core_of c.in-Check.is) refl refl c.in_ok-add_check-in-Check.ensures

pub returns-in_ok-push-in-Atom : goal.returns-in_ok-push-in-Atom
returns-in_ok-push-in-Atom c = λ over K s.
    atom_out over K c.args.index c.args.core.now c.args.tree.now c.args.self.now _ c.in-Atom.relation.now (map said_term c.in-Atom.terms.now) _ (ap core_of c.in-Atom.is) refl refl refl (c.facts.ensures over.structure s).rows c.in_ok-push-in-Atom.ensures.items refl refl refl refl

pub returns-in_ok-push-in-Sorted : goal.returns-in_ok-push-in-Sorted
returns-in_ok-push-in-Sorted c = λ over K s.
    sort_out over K c.args.index c.args.core.now c.args.tree.now c.args.self.now _ c.in-Sorted.sort.now c.in-Sorted.name.now _ (ap core_of c.in-Sorted.is) refl refl refl (c.count.ensures over.structure s) c.in_ok-push-in-Sorted.ensures.items refl refl refl refl

pub returns-in_ok-push-in-And : goal.returns-in_ok-push-in-And
returns-in_ok-push-in-And c = λ over K s.
    other_out over K c.args.index c.args.core.now c.args.tree.now c.args.self.now _ (conjunction (cores_of c.in-And.of.items)) (record { index = c.args.index; tree = c.args.tree }) (ap core_of c.in-And.is ∙ core_of-And c.in-And.of) refl refl refl refl refl refl refl c.in_ok-push-in-And.ensures.items refl refl refl refl

pub returns-in_ok-push-in-Or : goal.returns-in_ok-push-in-Or
returns-in_ok-push-in-Or c = λ over K s.
    other_out over K c.args.index c.args.core.now c.args.tree.now c.args.self.now _ (disjunction (cores_of c.in-Or.of.items)) (record { index = c.args.index; tree = c.args.tree }) (ap core_of c.in-Or.is ∙ core_of-Or c.in-Or.of) refl refl refl refl refl refl refl c.in_ok-push-in-Or.ensures.items refl refl refl refl

pub returns-in_ok-push-in-Exists : goal.returns-in_ok-push-in-Exists
returns-in_ok-push-in-Exists c = λ over K s.
    other_out over K c.args.index c.args.core.now c.args.tree.now c.args.self.now _ (exists c.in-Exists.name.now c.in-Exists.sort.now (core_of c.in-Exists.of.value)) (record { index = c.args.index; tree = c.args.tree }) (ap core_of c.in-Exists.is) refl refl refl refl refl refl refl c.in_ok-push-in-Exists.ensures.items refl refl refl refl
