-- Past the last row, the texts of all rows were seen.
use Rattle.std.proofs.Common.{take_all, ap, arith}
use Rattle.std.specs.List.{flat_map}
use Rattle.lrp_model.specs.Domains.{row_texts}
use Rattle.lrp_database.proofs.SeenLemmas.{seen_as}
use Rattle.lrp_database.proofs.seen.Seen.see_rows.Goals as goal

pub returns-clause-seen : goal.returns-clause-seen
returns-clause-seen c =
    seen_as _ _ c.args.self.now c.loop-row.self (ap (flat_map (λ row. row_texts c.args.columns.now row.values)) (take_all c.loop-row.row-index c.args.rows.now (omega (arith, c.loop-row-test.false)))) c.loop-row.invariant.seen
