-- Trees of variables as they are made.
use Rattle.std.proofs.Common.{◌≡◌, ℕ, zero, suc, ◌+◌, ◌<◌, ◌≤◌, Bool, true, false, ◌||◌, List, [], ◌∷◌, ◌++◌, refl, ap, sym, ◌∙◌, length, take, drop, get_or, map, if◌then◌else◌, Result, Ok, Err, rules, arith}
use Rattle.std.proofs.lemmas.List.{take_more, drop_more}
use Rattle.lrp_model.specs.Formulas.{Form, Forms, form, no_forms, joined, conjunction, exists}
use Rattle.std.specs.Result.{IfOk}
use Rattle.lrp_model.specs.Texts.{Identifier}
use Rattle.lrp_model.specs.declared.relations.Sort.{Sort}
use Rattle.lrp_model.specs.Variables.{Variable, free, free_each, is_among, bound_by}
use Rattle.lrp_core.specs.Cores.{core_of, cores_of}
use Rattle.lrp_core.specs.FreeVariables.{variable_of, with_variable, with_variables, each_once, others}
use Rattle.lrp_core.specs.VariableTrees.{Trees, tree, no_trees, one_more, tree_of, row_trees, trees_of, inner_trees, free_trees, free_tree}
use Rattle.lrp_core.specs.declared.core_forms.Core.{Core}
use Rattle.lrp_core.specs.declared.variable_trees.VariableTree.{VariableTree, Row_of-VariableTree, end_of-VariableTree, more_of-VariableTree, items-the_row-VariableTree}
use Rattle.lrp_core.specs.declared.variable_trees.VariableTree.TheOpen.{VariableTree-F}
use Rattle.lrp_core.specs.declared.variable_trees.VariableTree.TheViews.{the_lemmas, roll-VariableTree, out-VariableTree, roll-out-VariableTree}
use Rattle.lrp_core.proofs.CoreViews.{cores_of-append}
use Rattle.lrp_core.proofs.VariableLists.{with_known, is_among-with_variables, with_variables-append, cores-step, free-exists}

-- the trees in a row are those of the list
row_trees-items : (n : _) (k : Row_of-VariableTree n) → row_trees k ≡ trees_of (items-the_row-VariableTree n k)
row_trees-items _ end_of-VariableTree = refl
row_trees-items _ (more_of-VariableTree t rest) = ap (one_more (tree_of t)) (row_trees-items _ rest)

-- a value that is made of its variables and a vector
pub tree_of-made : (x : VariableTree-F VariableTree) → tree_of (roll-VariableTree x) ≡ tree (map variable_of x.variables) (trees_of x.inner.items)
tree_of-made x = search (rules, the_lemmas, row_trees-items)

-- and one that is looked into
pub tree_of-opened : (t : VariableTree) → tree_of t ≡ tree (map variable_of (out-VariableTree t).variables) (trees_of (out-VariableTree t).inner.items)
tree_of-opened t = sym (ap tree_of (roll-out-VariableTree t)) ∙ tree_of-made (out-VariableTree t)

-- the first trees and then the second
abbrev pub joined_trees : Trees → Trees → Trees
joined_trees no_trees us = us
joined_trees (one_more t ts) us = one_more t (joined_trees ts us)

trees_of-append : (ts us : List VariableTree) → trees_of (ts ++ us) ≡ joined_trees (trees_of ts) (trees_of us)
trees_of-append [] us = refl
trees_of-append (t ∷ ts) us = ap (one_more (tree_of t)) (trees_of-append ts us)

free_trees-joined : (fs gs : Forms) → free_trees (joined fs gs) ≡ joined_trees (free_trees fs) (free_trees gs)
free_trees-joined no_forms gs = refl
free_trees-joined (form f fs) gs = ap (one_more (free_tree f)) (free_trees-joined fs gs)

-- one tree more
pub trees-step : (fs : List Core) (i : ℕ) (f : Core) (made now : List VariableTree) (part : VariableTree) → i < length fs → f ≡ get_or fs i f → trees_of made ≡ free_trees (cores_of (take i fs)) → tree_of part ≡ free_tree (core_of f) → now ≡ made ++ part ∷ [] → trees_of now ≡ free_trees (cores_of (take (i + 1) fs))
trees-step fs i f made now part lt is before one e =
    ap trees_of e ∙ trees_of-append made (part ∷ []) ∙ ap (λ ts. joined_trees ts (one_more (tree_of part) no_trees)) before ∙ ap (λ t. joined_trees (free_trees (cores_of (take i fs))) (one_more t no_trees)) one
    ∙ sym (ap (λ xs. free_trees (cores_of xs)) (take_more fs i f lt ∙ ap (λ x. take i fs ++ x ∷ []) (sym is)) ∙ ap free_trees (cores_of-append (take i fs) (f ∷ [])) ∙ free_trees-joined (cores_of (take i fs)) (form (core_of f) no_forms))

-- variables that are added once more, and then others
or_true : (t : Bool) → (t || true) ≡ true
or_true true = refl
or_true false = refl

with_one_more : (vs us : List Variable) (x : Variable) (known : Bool) → is_among us x ≡ known → with_variables vs (if known then us else us ++ x ∷ []) ≡ with_variable (with_variables vs us) x
with_one_more vs us x true e = sym (with_known (with_variables vs us) x (is_among-with_variables vs us x ∙ ap (λ t. is_among vs x || t) e ∙ or_true (is_among vs x)))
with_one_more vs us x false e = with_variables-append vs us (x ∷ [])

with_variables-twice : (vs us xs : List Variable) → with_variables vs (with_variables us xs) ≡ with_variables (with_variables vs us) xs
with_variables-twice vs us [] = refl
with_variables-twice vs us (x ∷ xs) = with_variables-twice vs (with_variable us x) xs ∙ ap (λ y. with_variables y xs) (with_one_more vs us x (is_among us x) refl)

-- the first of a tree that is known
pub tree_variables : (vs ws : List Variable) (ts us : Trees) → tree vs ts ≡ tree ws us → vs ≡ ws
tree_variables vs ws ts us e = cc

pub tree_inner : (vs ws : List Variable) (ts us : Trees) → tree vs ts ≡ tree ws us → ts ≡ us
tree_inner vs ws ts us e = cc

-- the variables of one element more
pub tree-variables-step : (fs : List Core) (i : ℕ) (f : Core) (made now : List Variable) (part : VariableTree) → i < length fs → f ≡ get_or fs i f → made ≡ each_once (free_each (cores_of (take i fs))) → tree_of part ≡ free_tree (core_of f) → now ≡ with_variables made (map variable_of (out-VariableTree part).variables)
    → now ≡ each_once (free_each (cores_of (take (i + 1) fs)))
tree-variables-step fs i f made now part lt is before one step =
    let own : map variable_of (out-VariableTree part).variables ≡ each_once (free (core_of f)) = tree_variables _ _ _ _ (sym (tree_of-opened part) ∙ one) in
    cores-step fs i f [] made now lt is before (step ∙ ap (with_variables made) own ∙ with_variables-twice made [] (free (core_of f)))

-- all elements
pub tree-all : (fs : List Core) (x : VariableTree-F VariableTree) → map variable_of x.variables ≡ each_once (free_each (cores_of fs)) → trees_of x.inner.items ≡ free_trees (cores_of fs) → tree_of (roll-VariableTree x) ≡ free_tree (conjunction (cores_of fs))
tree-all fs x vs ts = tree_of-made x ∙ ap (λ us. tree us (trees_of x.inner.items)) vs ∙ ap (tree (each_once (free_each (cores_of fs)))) ts

-- no elements
pub tree-leaf : (vs : List Variable) (x : VariableTree-F VariableTree) → map variable_of x.variables ≡ vs → x.inner.items ≡ [] → tree_of (roll-VariableTree x) ≡ tree vs no_trees
tree-leaf vs x is none = tree_of-made x ∙ ap (λ us. tree us (trees_of x.inner.items)) is ∙ ap (λ ts. tree vs (trees_of ts)) none

-- a formula with no elements in it
pub leaf-is : {E : Type 0} (r : Result VariableTree E) (f g : Form) → f ≡ g → inner_trees g ≡ no_trees → IfOk r (λ made. tree_of made ≡ tree (each_once (free f)) no_trees) → IfOk r (λ made. tree_of made ≡ free_tree f)
leaf-is (Ok made) f g e none h = h ∙ ap (tree (each_once (free f))) (sym (ap inner_trees e ∙ none))
leaf-is (Err x) f g e none h = tt

-- another formula with the same tree
pub tree-as : {E : Type 0} (r : Result VariableTree E) (f g : Form) → free_tree g ≡ free_tree f → IfOk r (λ made. tree_of made ≡ free_tree g) → IfOk r (λ made. tree_of made ≡ free_tree f)
tree-as (Ok made) f g e h = h ∙ e
tree-as (Err x) f g e h = tt

-- the variables but for one that is bound
pub tree-without : (b : Variable) (vs start : List Variable) (inner : Trees) (of : VariableTree) (x : VariableTree-F VariableTree) → tree_of of ≡ tree vs inner → x.inner ≡ (out-VariableTree of).inner → map variable_of x.variables ≡ with_variables start (others b (map variable_of (out-VariableTree of).variables)) → start ≡ []
    → tree_of (roll-VariableTree x) ≡ tree (each_once (others b vs)) inner
tree-without b vs start inner of x e same made none =
    let own : tree (map variable_of (out-VariableTree of).variables) (trees_of (out-VariableTree of).inner.items) ≡ tree vs inner = sym (tree_of-opened of) ∙ e in
    tree_of-made x
    ∙ ap (λ us. tree us (trees_of x.inner.items)) (made ∙ ap (λ us. with_variables us (others b (map variable_of (out-VariableTree of).variables))) none ∙ ap (λ us. each_once (others b us)) (tree_variables _ _ _ _ own))
    ∙ ap (λ ts. tree (each_once (others b vs)) (trees_of ts.items)) same ∙ ap (tree (each_once (others b vs))) (tree_inner _ _ _ _ own)

-- the tree of a quantifier
pub tree-exists : {E : Type 0} (r : Result VariableTree E) (v : Identifier) (s : Sort) (f g : Form) (of : VariableTree) → tree_of of ≡ free_tree f → g ≡ exists v s f
    → IfOk r (λ made. (vs : List Variable) (inner : Trees) → tree_of of ≡ tree vs inner → tree_of made ≡ tree (each_once (others (bound_by s v) vs)) inner) → IfOk r (λ made. tree_of made ≡ free_tree g)
tree-exists (Ok made) v s f g of e is h =
    h (each_once (free f)) (inner_trees f) e ∙ ap (λ us. tree us (inner_trees f)) (free-exists (bound_by s v) [] (each_once (free f)) (free f) (others (bound_by s v) (free f)) refl refl) ∙ ap free_tree (sym is)
tree-exists (Err x) v s f g of e is h = tt

-- all of a list
pub all_taken : {X : Type 0} (xs : List X) (i : ℕ) → length xs ≤ i → take i xs ≡ xs
all_taken [] zero h = refl
all_taken [] (suc i) h = refl
all_taken (x ∷ xs) zero h = absurd (omega arith)
all_taken (x ∷ xs) (suc i) h = ap (λ ys. x ∷ ys) (all_taken xs i (omega arith))

-- the trees of the elements in a formula whose tree is known
pub inner_known : (t : VariableTree) (f : Form) → tree_of t ≡ free_tree f → trees_of (out-VariableTree t).inner.items ≡ inner_trees f
inner_known t f e = tree_inner _ _ _ _ (sym (tree_of-opened t) ∙ e)

-- the trees of those that are left are that of the next one and those of the others
pub trees-next : (fs : List Core) (i : ℕ) (f : Core) → i < length fs → f ≡ get_or fs i f → free_trees (cores_of (drop i fs)) ≡ one_more (free_tree (core_of f)) (free_trees (cores_of (drop (i + 1) fs)))
trees-next fs i f lt is = ap (λ xs. free_trees (cores_of xs)) (drop_more fs i f lt) ∙ ap (λ x. one_more (free_tree (core_of x)) (free_trees (cores_of (drop (i + 1) fs)))) (sym is)
