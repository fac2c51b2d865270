-- The texts so far were seen.
use Rattle.std.proofs.Common.{take}
use Rattle.lrp_model.specs.Domains.{row_texts}
use Rattle.lrp_database.specs.Seen.{IsPaired, SeesMore}
use Rattle.lrp_database.proofs.seen.Seen.see_row.Given as goal

abbrev pub invariant-loop-i : goal.invariant-loop-i
invariant-loop-i l = record {
  seen : SeesMore (row_texts (take l.i l.columns) (take l.i l.values)) l.fn.self l.self;
  paired : IsPaired l.self;
}
