-- The trees of the elements in a list, place by place.
use Rattle.std.proofs.Common.{◌≡◌, ◌<◌, ◌≤◌, ℕ, zero, suc, List, [], ◌∷◌, length, Some, slice_get, get_or, refl, sym, ap, ◌∙◌, arith}
use Rattle.lrp_core.specs.Cores.{core_of, cores_of}
use Rattle.lrp_core.specs.VariableTrees.{no_trees, one_more, tree_of, trees_of, free_tree, free_trees}
use Rattle.lrp_core.specs.declared.core_forms.Core.{Core}
use Rattle.lrp_core.specs.declared.variable_trees.VariableTree.{VariableTree}

-- the tree at the place of an element is the element's
pub tree_there : (ts : List VariableTree) (fs : List Core) (i : ℕ) (f : Core) → trees_of ts ≡ free_trees (cores_of fs) → i < length fs → f ≡ get_or fs i f → (t : VariableTree) × (slice_get ts i ≡ Some t) × (tree_of t ≡ free_tree (core_of f))
tree_there ts [] i f e lt is = absurd (omega arith)
tree_there [] (g ∷ fs) i f e lt is = let k : no_trees ≡ one_more (free_tree (core_of g)) (free_trees (cores_of fs)) = e in cc
tree_there (t ∷ ts) (g ∷ fs) zero f e lt is =
    let k : one_more (tree_of t) (trees_of ts) ≡ one_more (free_tree (core_of g)) (free_trees (cores_of fs)) = e in
    let first : tree_of t ≡ free_tree (core_of g) = cc in
    (t, refl, first ∙ ap (λ x. free_tree (core_of x)) (sym is))
tree_there (t ∷ ts) (g ∷ fs) (suc i) f e lt is =
    let k : one_more (tree_of t) (trees_of ts) ≡ one_more (free_tree (core_of g)) (free_trees (cores_of fs)) = e in
    let rest : trees_of ts ≡ free_trees (cores_of fs) = cc in
    tree_there ts fs i f rest (omega arith) is

-- what stands at a place is what was read there
pub tree_read : (ts : List VariableTree) (i : ℕ) (t own : VariableTree) → slice_get ts i ≡ Some t → tree_of (get_or ts i own) ≡ tree_of t
tree_read [] i t own e = cc
tree_read (u ∷ ts) zero t own e = let k : u ≡ t = cc in ap tree_of k
tree_read (u ∷ ts) (suc i) t own e = tree_read ts i t own e

pub none_past : (ts : List VariableTree) (i : ℕ) (t : VariableTree) → length ts ≤ i → slice_get ts i ≡ Some t → ⊥
none_past [] i t le e = cc
none_past (u ∷ ts) zero t le e = absurd (omega arith)
none_past (u ∷ ts) (suc i) t le e = none_past ts i t (omega arith) e
