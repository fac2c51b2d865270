-- A front of a line is a front of all.
use Rattle.std.proofs.Common.{ap}
use Rattle.std.specs.Prelude.{ℕ, List}
use Rattle.std.specs.List.{flat_map}
use Rattle.std.proofs.lemmas.Result.{err_from_is_err_and}
use Rattle.lrp_io.proofs.PieceLemmas.{written_err}
use Rattle.lrp_print.proofs.Lines.{front_as, item_front}
use Rattle.lrp_answer_text.specs.Lines.{is_json}
use Rattle.lrp_model.specs.declared.tuples.Spot.{Spot}
use Rattle.lrp_outputs.specs.Spots.{answer_tuple}
use Rattle.lrp_outputs.specs.PageLines.{line_as}
use Rattle.lrp_outputs.proofs.LineLemmas.{there}
use Rattle.lrp_outputs.proofs.lines.write_lines.Goals as goal

pub returns-in_err-write_spot-clause-text : goal.returns-in_err-write_spot-clause-text
returns-in_err-write_spot-clause-text g c =
    let page = c.args.page.now in
    let line : Spot → List ℕ = λ spot. line_as page.civil (is_json page.form) (answer_tuple page.answer spot) in
    let p = err_from_is_err_and c.from_residual.result c.from_residual.ensures.1 in
    written_err _ _ (flat_map line page.spots) _ p.0 p.1
    (front_as _ _ _ _ (ap (flat_map line) c.as_slice-spots.ensures)
    (item_front line c.as_slice-spots.result.now c.loop-spot.spot-index _ _ _ _ c.loop-spot-test.true (there c.as_slice-spots.result.now c.loop-spot.spot-index _ c.loop-spot-test.true) c.loop-spot.invariant.so_far c.in_err-write_spot.ensures.text))
