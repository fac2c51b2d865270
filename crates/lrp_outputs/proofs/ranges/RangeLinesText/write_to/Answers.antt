-- The lines, and then the line after them.
use Rattle.std.proofs.Common.{ap, subst}
use Rattle.std.specs.Prelude.{flat_map}
use Rattle.std.specs.List.{AllByRecursion}
use Rattle.std.proofs.lemmas.Result.{err_from_is_err_and}
use Rattle.lrp_io.proofs.PieceLemmas.{front_before, written_after, written_err}
use Rattle.lrp_print.proofs.Lines.{front_as, ok_as}
use Rattle.lrp_outputs.specs.Outputs.{ranges_text}
use Rattle.lrp_outputs.specs.RangeLines.{HasEndsAs, last_line, range_line}
use Rattle.lrp_outputs.proofs.ranges.RangeLinesText.write_to.Goals as goal

pub returns-in_err-write_each-clause-text : goal.returns-in_err-write_each-clause-text
returns-in_err-write_each-clause-text g c =
    let s = c.args.self.now in
    let p = err_from_is_err_and c.from_residual.result c.from_residual.ensures.1 in
    written_err _ _ (ranges_text s) _ p.0 p.1
    (front_before _ _ (flat_map (range_line s.civil s.json) s.found.ranges) (last_line s.json s.found.more) (front_as _ _ _ _ (ap (flat_map (range_line s.civil s.json)) c.as_slice.ensures) c.in_err-write_each.ensures.text))

pub returns-clause-text : goal.returns-clause-text
returns-clause-text g c =
    let s = c.args.self.now in
    written_after _ _ _ (flat_map (range_line s.civil s.json) s.found.ranges) (last_line s.json s.found.more) _
    (ok_as _ _ _ _ (ap (flat_map (range_line s.civil s.json)) c.as_slice.ensures) c.in_ok-write_each.ensures.text) c.write_last.ensures.text
