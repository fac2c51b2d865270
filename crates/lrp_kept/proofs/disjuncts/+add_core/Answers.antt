use Rattle.std.proofs.Common.{refl, sym, ap, ◌∙◌, map}
use Rattle.lrp_model.specs.RawTerms.{said_term}
use Rattle.lrp_model.specs.Formulas.{atom, test, sorted, negation, conjunction, disjunction, exists}
use Rattle.lrp_core.specs.Cores.{core_of, cores_of, test_of}
use Rattle.lrp_core.proofs.CoreViews.{core_of-And, core_of-Or}
use Rattle.lrp_kept.proofs.Drafted.{all_elements_of, bound_added, one_element_of, same_column}
use Rattle.lrp_kept.proofs.disjuncts.+add_core.Goals as goal

pub returns-in_ok-push-in-Exists : goal.returns-in_ok-push-in-Exists
returns-in_ok-push-in-Exists t c =
    bound_added (core_of c.args.core.now) (core_of c.deref.result.now) c.in-Exists.name.now c.in-Exists.sort.now (record { name = c.in_ok-name-in-Exists.name; sort = c.in_ok-sort-in-Exists.sort }) c.args.draft.now c.add_core.new.draft _
    (ap core_of c.in-Exists.is ∙ ap (λ x. exists c.in-Exists.name.now c.in-Exists.sort.now (core_of x)) (sym c.deref.ensures)) (same_column c.in_ok-name-in-Exists.name c.in-Exists.name.now c.in_ok-sort-in-Exists.sort c.in-Exists.sort.now c.in_ok-name-in-Exists.ensures c.in_ok-sort-in-Exists.ensures)
    c.in_ok-add_core-in-Exists.ensures refl refl c.in_ok-push-in-Exists.ensures.ok

pub returns-in-And : goal.returns-in-And
returns-in-And t c =
    all_elements_of c.add_each.result (core_of c.args.core.now) (cores_of c.deref-in-And.result.now) c.args.draft.now c.add_each.new.draft (ap core_of c.in-And.is ∙ core_of-And c.in-And.of ∙ ap (λ xs. conjunction (cores_of xs)) (sym c.deref-in-And.ensures.value)) c.add_each.ensures

pub returns-in-Atom : goal.returns-in-Atom
returns-in-Atom t c = one_element_of c.add_element.result (core_of c.args.core.now) (atom c.in-Atom.relation.now (map said_term c.in-Atom.terms.now)) c.args.draft.now c.add_element.new.draft (ap core_of c.in-Atom.is) refl refl c.add_element.ensures

pub returns-in-Check : goal.returns-in-Check
returns-in-Check t c = one_element_of c.add_element-in-Check.result (core_of c.args.core.now) (test (test_of c.in-Check.test)) c.args.draft.now c.add_element-in-Check.new.draft (ap core_of c.in-Check.is) refl refl c.add_element-in-Check.ensures

pub returns-in-Sorted : goal.returns-in-Sorted
returns-in-Sorted t c = one_element_of c.add_element-in-Sorted.result (core_of c.args.core.now) (sorted c.in-Sorted.sort.now c.in-Sorted.name.now) c.args.draft.now c.add_element-in-Sorted.new.draft (ap core_of c.in-Sorted.is) refl refl c.add_element-in-Sorted.ensures

pub returns-in-Not : goal.returns-in-Not
returns-in-Not t c = one_element_of c.add_element-in-Not.result (core_of c.args.core.now) (negation (core_of c.in-Not.of.value)) c.args.draft.now c.add_element-in-Not.new.draft (ap core_of c.in-Not.is) refl refl c.add_element-in-Not.ensures

pub returns-in-Or : goal.returns-in-Or
returns-in-Or t c = one_element_of c.add_element-in-Or.result (core_of c.args.core.now) (disjunction (cores_of c.in-Or.of.items)) c.args.draft.now c.add_element-in-Or.new.draft (ap core_of c.in-Or.is ∙ core_of-Or c.in-Or.of) refl refl c.add_element-in-Or.ensures
