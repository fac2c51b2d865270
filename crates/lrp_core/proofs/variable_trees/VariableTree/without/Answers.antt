use Rattle.std.proofs.Common.{◌≡◌, [], map, refl, ap, rules}
use Rattle.lrp_model.specs.Variables.{bound_by}
use Rattle.lrp_core.specs.FreeVariables.{variable_of}
use Rattle.lrp_core.proofs.TreeViews.{tree-without}
use Rattle.lrp_core.proofs.variable_trees.VariableTree.without.Goals as goal

pub returns : goal.returns
returns c = λ vs inner e.
    let empty : c.from_vec-variables.result ≡ [] = search rules in
    tree-without (bound_by c.args.sort.now c.args.name.now) vs (map variable_of c.from_vec-variables.result) inner c.args.self _ e refl c.in_ok-add_others.ensures (ap (map variable_of) empty)
