use Rattle.std.proofs.Common.{◌≡◌, ◌≤◌, ◌∷◌, take}
use Rattle.std.specs.List.{flat_map}
use Rattle.lrp_io.specs.Bytes.{appended}
use Rattle.lrp_model.specs.Printed.{escaped}
use Rattle.lrp_print.proofs.pieces.write_quoted.Given as goal

-- the quote and the bytes so far were written
abbrev pub invariant-loop-byte : goal.invariant-loop-byte
invariant-loop-byte g l =
    let written = g.S.Sink.written in
    let faults = g.S.Sink.faults in
    record {
      so_far : written l.out ≡ appended (written l.fn.out) (34 ∷ flat_map escaped (take l.byte-index l.text));
      later : faults l.fn.out ≤ faults l.out;
    }
