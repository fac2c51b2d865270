-- The lines so far were written.
use Rattle.std.proofs.Common.{◌≡◌, ◌≤◌, take, option_map}
use Rattle.std.specs.List.{flat_map}
use Rattle.lrp_io.specs.Bytes.{appended}
use Rattle.lrp_outputs.specs.First.{first_line}
use Rattle.lrp_outputs.specs.Spots.{answer_tuple}
use Rattle.lrp_outputs.proofs.leasts.LeastAnswersText.write_to.Given as goal

abbrev pub invariant-loop-least : goal.invariant-loop-least
invariant-loop-least g l =
    let written = g.S.Sink.written in
    let faults = g.S.Sink.faults in
    record {
      so_far : written l.out ≡ appended (written l.fn.out) (flat_map (λ least. first_line (option_map (answer_tuple l.self.answer) least)) (take l.least-index l.spots));
      later : faults l.fn.out ≤ faults l.out;
    }
