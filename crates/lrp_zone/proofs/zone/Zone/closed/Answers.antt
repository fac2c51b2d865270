-- The zone's tuples meet its bounds, so the closing succeeds.
use Rattle.std.proofs.Common.{rules, ◌∙◌, IsTrue}
use Rattle.lrp_zone.proofs.Members.{integers_of}
use Rattle.lrp_zone.proofs.zone.Zone.closed.Goals as goal

pub returns-clause-closed : goal.returns-clause-closed
returns-clause-closed c =
    let met : IsTrue c.close.result = c.close.ensures.exact.1 (integers_of c.args.self.now c.of_cells-matrix.result (c.of_cells-matrix.ensures.columns ∙ c.columns.ensures.value) (c.of_cells-matrix.ensures.cells ∙ c.widened.ensures ∙ c.bounds.ensures.value) c.bounds.ensures.valid.some) in
    c.close.ensures.closed (search rules)
