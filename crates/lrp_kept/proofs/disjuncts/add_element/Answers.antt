use Rattle.std.proofs.Common.{refl, ap, ◌∙◌, map}
use Rattle.lrp_model.specs.RawTerms.{said_term}
use Rattle.lrp_model.specs.Formulas.{sorted, negation, conjunction, disjunction, exists}
use Rattle.lrp_core.specs.Cores.{core_of, cores_of, test_of}
use Rattle.lrp_core.proofs.CoreViews.{core_of-And, core_of-Or}
use Rattle.lrp_kept.proofs.Drafted.{atom_added, nothing_of, test_added}
use Rattle.lrp_kept.proofs.disjuncts.add_element.Goals as goal

pub returns-in_ok-push-in-Atom : goal.returns-in_ok-push-in-Atom
returns-in_ok-push-in-Atom c =
    atom_added (core_of c.args.element.now) c.in-Atom.relation.now (map said_term c.in-Atom.terms.now) (record { name = c.in_ok-name-in-Atom.name; terms = c.in_ok-terms-in-Atom.terms }) c.args.draft.now _ (ap core_of c.in-Atom.is) c.in_ok-name-in-Atom.ensures (c.in_ok-terms-in-Atom.ensures ∙ ap (map said_term) c.as_slice.ensures) c.in_ok-push-in-Atom.ensures.items refl refl

pub returns-in_ok-push-in-Check : goal.returns-in_ok-push-in-Check
returns-in_ok-push-in-Check c = test_added (core_of c.args.element.now) (test_of c.in-Check.test) c.in_ok-test-in-Check.test c.args.draft.now _ (ap core_of c.in-Check.is) c.in_ok-test-in-Check.ensures refl c.in_ok-push-in-Check.ensures.ok refl

pub returns-in-Sorted : goal.returns-in-Sorted
returns-in-Sorted c = nothing_of (core_of c.args.element.now) (sorted c.in-Sorted.sort.now c.in-Sorted.name.now) c.args.draft.now (ap core_of c.in-Sorted.is) refl refl

pub returns-in-Not : goal.returns-in-Not
returns-in-Not c = nothing_of (core_of c.args.element.now) (negation (core_of c.in-Not.of.value)) c.args.draft.now (ap core_of c.in-Not.is) refl refl

pub returns-in-And : goal.returns-in-And
returns-in-And c = nothing_of (core_of c.args.element.now) (conjunction (cores_of c.in-And.of.items)) c.args.draft.now (ap core_of c.in-And.is ∙ core_of-And c.in-And.of) refl refl

pub returns-in-Or : goal.returns-in-Or
returns-in-Or c = nothing_of (core_of c.args.element.now) (disjunction (cores_of c.in-Or.of.items)) c.args.draft.now (ap core_of c.in-Or.is ∙ core_of-Or c.in-Or.of) refl refl

pub returns-in-Exists : goal.returns-in-Exists
returns-in-Exists c = nothing_of (core_of c.args.element.now) (exists c.in-Exists.name.now c.in-Exists.sort.now (core_of c.in-Exists.of.value)) c.args.draft.now (ap core_of c.in-Exists.is) refl refl
