use Rattle.std.proofs.Common.{◌≤◌}
use Rattle.lrp_store.specs.Reading.{entries_of}
use Rattle.lrp_answer_text.proofs.Rows.{AreDone, entry_lines}
use Rattle.lrp_answer_text.proofs.answers.write_cells.Given as goal

-- the lines of the cells so far were written
abbrev pub invariant-loop-cell : goal.invariant-loop-cell
invariant-loop-cell g l =
    let written = g.S.Sink.written in
    let faults = g.S.Sink.faults in
    record {
      so_far : AreDone (entry_lines l.answer.head.columns l.answer.domain l.answer.store) (entries_of l.answer.store) l.cell-iterator (written l.fn.out) (written l.out);
      later : faults l.fn.out ≤ faults l.out;
    }
