use Rattle.std.proofs.Common.{◌≡◌, ◌∙◌, map, refl, sym, ap, take, arith}
use Rattle.lrp_model.specs.Formulas.{conjunction, disjunction, exists}
use Rattle.lrp_model.specs.Variables.{free_each}
use Rattle.lrp_core.specs.Cores.{core_of, cores_of}
use Rattle.lrp_core.specs.FreeVariables.{variable_of, each_once, with_variables}
use Rattle.lrp_core.specs.VariableTrees.{free_tree, free_trees}
use Rattle.lrp_core.proofs.CoreViews.{core_of-And, core_of-Or}
use Rattle.lrp_core.proofs.TreeViews.{leaf-is, tree-as, tree-exists, tree-all, tree-variables-step, trees-step, all_taken}
use Rattle.lrp_core.proofs.variable_trees.+trees.Goals as goal

pub variable_tree-returns-in-Atom : goal.variable_tree-returns-in-Atom
variable_tree-returns-in-Atom t c = leaf-is c.leaf.result (core_of c.args.core.now) _ (ap core_of c.in-Atom.is) refl c.leaf.ensures

pub variable_tree-returns-in-Check : goal.variable_tree-returns-in-Check
variable_tree-returns-in-Check t c = leaf-is c.leaf-in-Check.result (core_of c.args.core.now) _ (ap core_of c.in-Check.is) refl c.leaf-in-Check.ensures

pub variable_tree-returns-in-Sorted : goal.variable_tree-returns-in-Sorted
variable_tree-returns-in-Sorted t c = leaf-is c.leaf-in-Sorted.result (core_of c.args.core.now) _ (ap core_of c.in-Sorted.is) refl c.leaf-in-Sorted.ensures

pub variable_tree-returns-in-Not : goal.variable_tree-returns-in-Not
variable_tree-returns-in-Not t c =
    tree-as c.variable_tree.result (core_of c.args.core.now) (core_of c.deref.result.now) (sym (ap (λ x. free_tree (core_of x)) c.in-Not.is ∙ ap (λ x. free_tree (core_of x)) (sym c.deref.ensures))) c.variable_tree.ensures

pub variable_tree-returns-in-And : goal.variable_tree-returns-in-And
variable_tree-returns-in-And t c =
    tree-as c.tree_of_all.result (core_of c.args.core.now) (conjunction (cores_of c.deref-in-And.result.now))
    (ap free_tree (sym (ap core_of c.in-And.is ∙ core_of-And c.in-And.of ∙ ap (λ xs. conjunction (cores_of xs)) (sym c.deref-in-And.ensures.value)))) c.tree_of_all.ensures

pub variable_tree-returns-in-Or : goal.variable_tree-returns-in-Or
variable_tree-returns-in-Or t c =
    tree-as c.tree_of_all-in-Or.result (core_of c.args.core.now) (disjunction (cores_of c.deref-in-Or.result.now))
    (ap free_tree (sym (ap core_of c.in-Or.is ∙ core_of-Or c.in-Or.of ∙ ap (λ xs. disjunction (cores_of xs)) (sym c.deref-in-Or.ensures.value)))) c.tree_of_all-in-Or.ensures

pub variable_tree-returns-in-Exists : goal.variable_tree-returns-in-Exists
variable_tree-returns-in-Exists t c =
    tree-as c.tree_under.result (core_of c.args.core.now) (exists c.in-Exists.name.now c.in-Exists.sort.now (core_of c.deref-in-Exists.result.now))
    (ap free_tree (sym (ap core_of c.in-Exists.is ∙ ap (λ x. exists c.in-Exists.name.now c.in-Exists.sort.now (core_of x)) (sym c.deref-in-Exists.ensures)))) c.tree_under.ensures

pub tree_under-returns : goal.tree_under-returns
tree_under-returns t c =
    tree-exists c.without.result c.args.name.now c.args.sort.now (core_of c.args.core.now) (exists c.args.name.now c.args.sort.now (core_of c.args.core.now)) c.in_ok-inner.inner c.in_ok-inner.ensures refl c.without.ensures

pub tree_of_all-loop-core-preserved : goal.tree_of_all-loop-core-preserved
tree_of_all-loop-core-preserved t c = record {
  variables = tree-variables-step c.args.of.now c.loop-core.core-index c.core-item.result (map variable_of c.loop-core.variables) (map variable_of c.add_variables.new.all) c.in_ok-part.part c.loop-core-test.true c.core-item.is c.loop-core.invariant.variables c.in_ok-part.ensures
      (c.in_ok-add_variables.ensures ∙ ap (λ vs. with_variables (map variable_of c.loop-core.variables) (map variable_of vs)) c.as_slice.ensures);
  inner = trees-step c.args.of.now c.loop-core.core-index c.core-item.result c.loop-core.inner.items c.push.new.self.items c.in_ok-part.part c.loop-core-test.true c.core-item.is c.loop-core.invariant.inner c.in_ok-part.ensures c.in_ok-push.ensures.items;
}

pub tree_of_all-returns : goal.tree_of_all-returns
tree_of_all-returns t c =
    let all : take c.loop-core.core-index c.args.of.now ≡ c.args.of.now = all_taken c.args.of.now c.loop-core.core-index (omega (arith, c.loop-core-test.false)) in
    tree-all c.args.of.now _ (c.loop-core.invariant.variables ∙ ap (λ xs. each_once (free_each (cores_of xs))) all) (c.loop-core.invariant.inner ∙ ap (λ xs. free_trees (cores_of xs)) all)
