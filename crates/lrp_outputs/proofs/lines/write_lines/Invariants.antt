-- The lines so far were written.
use Rattle.std.proofs.Common.{◌≡◌, ◌≤◌, take}
use Rattle.std.specs.List.{flat_map}
use Rattle.lrp_io.specs.Bytes.{appended}
use Rattle.lrp_answer_text.specs.Lines.{is_json}
use Rattle.lrp_outputs.specs.Spots.{answer_tuple}
use Rattle.lrp_outputs.specs.PageLines.{line_as}
use Rattle.lrp_outputs.proofs.lines.write_lines.Given as goal

abbrev pub invariant-loop-spot : goal.invariant-loop-spot
invariant-loop-spot g l =
    let written = g.S.Sink.written in
    let faults = g.S.Sink.faults in
    record {
      so_far : written l.out ≡ appended (written l.fn.out) (flat_map (λ spot. line_as l.page.civil (is_json l.page.form) (answer_tuple l.page.answer spot)) (take l.spot-index l.spots));
      later : faults l.fn.out ≤ faults l.out;
    }
