-- A front of a line is a front of all.
use Rattle.std.proofs.Common.{ap, option_map}
use Rattle.std.specs.Prelude.{ℕ, List, Option}
use Rattle.std.specs.List.{flat_map}
use Rattle.std.proofs.lemmas.Result.{err_from_is_err_and}
use Rattle.lrp_io.proofs.PieceLemmas.{written_err}
use Rattle.lrp_print.proofs.Lines.{front_as, item_front}
use Rattle.lrp_model.specs.declared.tuples.Spot.{Spot}
use Rattle.lrp_outputs.specs.First.{first_line}
use Rattle.lrp_outputs.specs.Spots.{answer_tuple}
use Rattle.lrp_outputs.proofs.LineLemmas.{there}
use Rattle.lrp_outputs.proofs.leasts.LeastAnswersText.write_to.Goals as goal

pub returns-in_err-write_first-clause-text : goal.returns-in_err-write_first-clause-text
returns-in_err-write_first-clause-text g c =
    let l = c.args.self.now in
    let line : Option Spot → List ℕ = λ least. first_line (option_map (answer_tuple l.answer) least) in
    let p = err_from_is_err_and c.from_residual.result c.from_residual.ensures.1 in
    written_err _ _ (flat_map line l.spots) _ p.0 p.1
    (front_as _ _ _ _ (ap (flat_map line) c.as_slice-spots.ensures)
    (item_front line c.as_slice-spots.result.now c.loop-least.least-index _ _ _ _ c.loop-least-test.true (there c.as_slice-spots.result.now c.loop-least.least-index _ c.loop-least-test.true) c.loop-least.invariant.so_far c.in_err-write_first.ensures.text))
