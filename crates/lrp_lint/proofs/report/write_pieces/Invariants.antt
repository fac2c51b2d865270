-- The pieces so far were written.
use Rattle.std.proofs.Common.{◌≡◌, ◌≤◌, take}
use Rattle.std.specs.List.{flat_map}
use Rattle.lrp_io.specs.Bytes.{appended}
use Rattle.lrp_lint.proofs.report.write_pieces.Given as goal

abbrev pub invariant-loop-piece : goal.invariant-loop-piece
invariant-loop-piece g l =
    let written = g.S.Sink.written in
    let faults = g.S.Sink.faults in
    record {
      so_far : written l.out ≡ appended (written l.fn.out) (flat_map (λ piece. piece.now) (take l.piece-index l.pieces));
      later : faults l.fn.out ≤ faults l.out;
    }
