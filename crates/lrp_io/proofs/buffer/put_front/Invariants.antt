-- What the loop over the pieces keeps.
use Rattle.std.proofs.Common.{◌≡◌, ◌≤◌, ◌-◌, length, take}
use Rattle.lrp_io.specs.Bytes.{appended}
use Rattle.lrp_io.proofs.buffer.put_front.Given as goal

-- the bytes so far were appended
abbrev pub invariant-loop-count : goal.invariant-loop-count
invariant-loop-count g l =
    let written = g.S.Sink.written in
    let faults = g.S.Sink.faults in
    record {
      within : l.count ≤ length l.bytes;
      so_far : written l.out ≡ appended (written l.fn.out) (take l.count l.bytes);
      later : faults l.fn.out ≤ faults l.out;
    }

abbrev pub decreases-loop-count : goal.decreases-loop-count
decreases-loop-count g l = length l.bytes - l.count
