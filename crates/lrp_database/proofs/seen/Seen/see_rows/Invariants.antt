-- The texts so far were seen.
use Rattle.std.proofs.Common.{take}
use Rattle.std.specs.List.{flat_map}
use Rattle.lrp_model.specs.Domains.{row_texts}
use Rattle.lrp_database.specs.Seen.{IsPaired, SeesMore}
use Rattle.lrp_database.proofs.seen.Seen.see_rows.Given as goal

abbrev pub invariant-loop-row : goal.invariant-loop-row
invariant-loop-row l = record {
  seen : SeesMore (flat_map (λ row. row_texts l.columns row.values) (take l.row-index l.rows)) l.fn.self l.self;
  paired : IsPaired l.self;
}
