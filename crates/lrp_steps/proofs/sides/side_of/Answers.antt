-- The column has the value of the variable.
use Rattle.std.proofs.Common.{◌≡◌, rules, to_z, of_z}
use Rattle.std.specs.Int.{w64}
use Rattle.lrp_model.specs.Reach.{term_offset}
use Rattle.lrp_steps.proofs.Conditioned.{var_value}
use Rattle.lrp_steps.proofs.sides.side_of.Goals as goal

pub returns-in-Var-clause-value : goal.returns-in-Var-clause-value
returns-in-Var-clause-value c = λ env.
    let e : to_z w64 (of_z w64 c.in-Var.plus) ≡ term_offset c.args.term.now = search rules in
    var_value env c.args.names.now c.args.term.now c.in-Var.name c.in-Var.plus (to_z w64 (of_z w64 c.in-Var.plus)) c.column_among.result c.in-Var.is c.column_among.ensures.place e
