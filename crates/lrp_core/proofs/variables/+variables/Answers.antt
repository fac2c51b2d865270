use Rattle.std.proofs.Common.{◌≡◌, map, ap, sym, subst, OnOk, ◌∙◌}
use Rattle.lrp_model.specs.Variables.{bound_by, free}
use Rattle.lrp_core.specs.Cores.{core_of}
use Rattle.lrp_core.specs.FreeVariables.{variable_of, with_variables, others}
use Rattle.lrp_core.proofs.VariableLists.{cores-step, free-And, free-Or, free-exists}
use Rattle.lrp_core.proofs.variables.+variables.Goals as goal

pub add_free-returns-in-And : goal.add_free-returns-in-And
add_free-returns-in-And t c =
    subst (λ x. OnOk c.add_each.result (map variable_of c.add_each.new.all ≡ with_variables (map variable_of c.args.all.now) x))
    (free-And c.args.core.now c.in-And.of c.in-And.is) (rw c.deref-in-And.ensures.value at c.add_each.ensures)

pub add_free-returns-in-Or : goal.add_free-returns-in-Or
add_free-returns-in-Or t c =
    subst (λ x. OnOk c.add_each-in-Or.result (map variable_of c.add_each-in-Or.new.all ≡ with_variables (map variable_of c.args.all.now) x))
    (free-Or c.args.core.now c.in-Or.of c.in-Or.is) (rw c.deref-in-Or.ensures.value at c.add_each-in-Or.ensures)

pub add_free-returns-in_ok-add_free-in-Exists : goal.add_free-returns-in_ok-add_free-in-Exists
add_free-returns-in_ok-add_free-in-Exists t c =
    subst (λ x. OnOk c.add_others.result (map variable_of c.add_others.new.all ≡ x))
    (free-exists (bound_by c.in-Exists.sort.now c.in-Exists.name.now) (map variable_of c.args.all.now) _ (free (core_of c.deref-in-Exists.result.now)) (free (core_of c.args.core.now))
    (c.in_ok-add_free-in-Exists.ensures ∙ ap (λ x. with_variables (map variable_of x) (free (core_of c.deref-in-Exists.result.now))) c.new-inner.ensures)
    (ap (λ x. free (core_of x)) c.in-Exists.is ∙ ap (λ x. others (bound_by c.in-Exists.sort.now c.in-Exists.name.now) (free (core_of x))) (sym c.deref-in-Exists.ensures)))
    c.add_others.ensures

pub add_each-loop-core-preserved : goal.add_each-loop-core-preserved
add_each-loop-core-preserved t c =
    cores-step c.args.cores.now c.loop-core.core-index c.core-item.result (map variable_of c.args.all.now) (map variable_of c.loop-core.all) (map variable_of c.add_free.new.all) c.loop-core-test.true c.core-item.is c.loop-core.invariant c.in_ok-add_free.ensures
