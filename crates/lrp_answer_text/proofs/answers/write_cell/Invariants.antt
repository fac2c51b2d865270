use Rattle.std.proofs.Common.{◌≤◌}
use Rattle.lrp_store.specs.Stores.{zones_at}
use Rattle.lrp_answer_text.proofs.Rows.{AreDone, zone_line}
use Rattle.lrp_answer_text.proofs.answers.write_cell.Given as goal

-- the lines of the zones so far were written
abbrev pub invariant-loop-zone : goal.invariant-loop-zone
invariant-loop-zone g l =
    let written = g.S.Sink.written in
    let faults = g.S.Sink.faults in
    record {
      so_far : AreDone (zone_line l.answer.head.columns l.answer.domain l.answer.store l.cell) (zones_at l.answer.store l.cell) l.zone-iterator (written l.fn.out) (written l.out);
      later : faults l.fn.out ≤ faults l.out;
    }
