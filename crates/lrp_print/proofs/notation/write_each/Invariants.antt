use Rattle.std.proofs.Common.{◌≡◌, ◌≤◌, take}
use Rattle.std.specs.List.{flat_map}
use Rattle.lrp_io.specs.Bytes.{appended}
use Rattle.lrp_print.proofs.notation.write_each.Given as goal

-- those so far were written
abbrev pub invariant-loop-item : goal.invariant-loop-item
invariant-loop-item g l =
    let written = g.S.Sink.written in
    let faults = g.S.Sink.faults in
    record {
      so_far : written l.out ≡ appended (written l.fn.out) (flat_map (g.N.Notation.bytes l.notation) (take l.item-index l.items));
      later : faults l.fn.out ≤ faults l.out;
    }
