-- The free variables of a formula and of the elements in it.
use Rattle.std.specs.Prelude.{List, [], ◌∷◌, map}
use Rattle.lrp_model.specs.Formulas.{Form, Forms, atom, test, sorted, negation, conjunction, disjunction, implication, exists, forall, no_forms, form}
use Rattle.lrp_model.specs.Variables.{Variable, free}
use Rattle.lrp_core.specs.FreeVariables.{variable_of, each_once}
use Rattle.lrp_core.specs.declared.variable_trees.VariableTree.{VariableTree, VariableTree', Row_of-VariableTree, end_of-VariableTree, more_of-VariableTree}

-- some variables, and the same of each of several elements
mutual
  pub data Tree : Type 0 where
    tree : List Variable → Trees → Tree

  pub data Trees : Type 0 where
    no_trees : Trees
    one_more : Tree → Trees → Trees

-- the tree that a value of the program is
abbrev mutual
  pub tree_of : VariableTree → Tree
  tree_of (VariableTree' variables shape inner) = tree (map variable_of variables) (row_trees inner)

  pub row_trees : {m : _} → Row_of-VariableTree m → Trees
  row_trees end_of-VariableTree = no_trees
  row_trees (more_of-VariableTree t rest) = one_more (tree_of t) (row_trees rest)

-- those of a list
abbrev pub trees_of : List VariableTree → Trees
trees_of [] = no_trees
trees_of (t ∷ ts) = one_more (tree_of t) (trees_of ts)

-- each element of the `and` or the `or` that a formula is, or that stands in it after denials and quantifiers alone, with the element's free variables, each once
abbrev mutual
  pub inner_trees : Form → Trees
  inner_trees (conjunction fs) = free_trees fs
  inner_trees (disjunction fs) = free_trees fs
  inner_trees (negation f) = inner_trees f
  inner_trees (exists v s f) = inner_trees f
  inner_trees (forall v s f) = inner_trees f
  inner_trees (atom name terms) = no_trees
  inner_trees (test t) = no_trees
  inner_trees (sorted s v) = no_trees
  inner_trees (implication f g) = no_trees

  pub free_trees : Forms → Trees
  free_trees no_forms = no_trees
  free_trees (form f fs) = one_more (tree (each_once (free f)) (inner_trees f)) (free_trees fs)

-- a formula's free variables, each once, and those of the elements in it
abbrev pub free_tree : Form → Tree
free_tree f = tree (each_once (free f)) (inner_trees f)
