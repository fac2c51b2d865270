use Rattle.std.proofs.Common.{[], ◌∷◌, ◌++◌, map, ap, ◌∙◌}
use Rattle.lrp_core.specs.FreeVariables.{variable_of}
use Rattle.lrp_guarded.proofs.Projected.{columns_but_made}
use Rattle.lrp_guarded.proofs.making.Making.columns_without.Goals as goal

pub returns : goal.returns
returns c =
    columns_but_made c.without.result c.args.self.now c.args.of c.args.variable.now c.columns_of.result.now c.as_slice.result.now
    (ap (map variable_of) (c.as_slice.ensures ∙ c.in_ok-push.ensures.ok ∙ ap (λ us. us ++ c.in_ok-copy.field-0 ∷ []) c.new-dropped.ensures) ∙ ap (λ x. variable_of x ∷ []) c.in_ok-copy.ensures)
    c.columns_of.ensures c.without.ensures
