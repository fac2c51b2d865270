use Rattle.std.proofs.Common.{map, refl, sym, ap, subst, ◌∙◌}
use Rattle.lrp_model.specs.RawTerms.{said_term}
use Rattle.lrp_core.specs.Cores.{core_of, cores_of}
use Rattle.lrp_core.specs.FreeVariables.{variable_of}
use Rattle.lrp_core.proofs.CoreViews.{core_of-And, core_of-Or}
use Rattle.lrp_model.specs.Formulas.{atom}
use Rattle.lrp_plan_laws.specs.Binding.{binds as bound_in, binds_some as bound_in_some, binds_each as bound_in_each}
use Rattle.lrp_plan.specs.Taking.{HaveSame}
use Rattle.lrp_guarded.proofs.Bound.{leaf_bound, as_bound, exists_bound, some_more, each_more, each_end}
use Rattle.lrp_guarded.proofs.binding.+binding.Goals as goal

pub binds-returns-in-Atom : goal.binds-returns-in-Atom
binds-returns-in-Atom t c = leaf_bound c.free_variables.result (core_of c.args.core.now) (atom c.in-Atom.relation.now (map said_term c.in-Atom.terms.now)) (ap core_of c.in-Atom.is) refl c.free_variables.ensures.members

pub binds-returns-in-And : goal.binds-returns-in-And
binds-returns-in-And t c =
    as_bound c.binds_some.result (core_of c.args.core.now) (bound_in_some (cores_of c.deref.result.now)) (ap (λ x. bound_in (core_of x)) c.in-And.is ∙ ap bound_in (core_of-And c.in-And.of) ∙ ap (λ xs. bound_in_some (cores_of xs)) (sym c.deref.ensures.value)) c.binds_some.ensures

pub binds-returns-in-Or : goal.binds-returns-in-Or
binds-returns-in-Or t c =
    as_bound c.binds_each.result (core_of c.args.core.now) (bound_in_each (cores_of c.deref-in-Or.result.now)) (ap (λ x. bound_in (core_of x)) c.in-Or.is ∙ ap bound_in (core_of-Or c.in-Or.of) ∙ ap (λ xs. bound_in_each (cores_of xs)) (sym c.deref-in-Or.ensures.value)) c.binds_each.ensures

pub binds-returns-in_ok-inner-in-Exists : goal.binds-returns-in_ok-inner-in-Exists
binds-returns-in_ok-inner-in-Exists t c =
    exists_bound c.outside.result (core_of c.args.core.now) (core_of c.in-Exists.of.value) c.in-Exists.name.now c.in-Exists.sort.now c.in_ok-inner-in-Exists.inner c.as_slice.result.now (ap core_of c.in-Exists.is)
    (subst (λ x. HaveSame (map variable_of c.in_ok-inner-in-Exists.inner) (bound_in (core_of x))) c.deref-in-Exists.ensures c.in_ok-inner-in-Exists.ensures) c.as_slice.ensures c.outside.ensures

pub binds_some-loop-core-preserved : goal.binds_some-loop-core-preserved
binds_some-loop-core-preserved t c =
    some_more c.args.of.now c.loop-core.core-index c.core-item.result c.loop-core.all c.in_ok-part.part c.as_slice.result.now c.add_variables.new.all c.loop-core-test.true c.core-item.is c.loop-core.invariant c.in_ok-part.ensures c.as_slice.ensures c.in_ok-add_variables.ensures

pub binds_each-loop-core-preserved : goal.binds_each-loop-core-preserved
binds_each-loop-core-preserved t c =
    each_more c.args.of.now c.loop-core.core-index c.core-item.result c.loop-core.all c.in_ok-part.part c.in_ok-both.field-0 c.loop-core-test.true c.core-item.is c.loop-core.invariant c.in_ok-part.ensures c.in_ok-both.ensures.none c.in_ok-both.ensures.some
