-- The word, and then the line of the spot.
use Rattle.std.proofs.Common.{codes, sym, ap}
use Rattle.std.proofs.lemmas.Result.{err_from_is_err_and}
use Rattle.lrp_io.proofs.PieceLemmas.{front_before, written_after, written_err}
use Rattle.lrp_print.proofs.Lines.{front_as, written_as}
use Rattle.lrp_outputs.specs.First.{least_line}
use Rattle.lrp_outputs.specs.Spots.{answer_tuple}
use Rattle.lrp_outputs.specs.Outputs.{spot_text, witness_text}
use Rattle.lrp_outputs.proofs.witness.WitnessText.write_to.Goals as goal

pub returns-in_err-write_bytes-in-Some-clause-text : goal.returns-in_err-write_bytes-in-Some-clause-text
returns-in_err-write_bytes-in-Some-clause-text g c =
    let w = c.args.self.now in
    let p = err_from_is_err_and c.from_residual.result c.from_residual.ensures.1 in
    written_err _ _ (witness_text w) _ p.0 p.1
    (front_as _ _ _ _ (sym (ap (spot_text w.dates w.answer) c.in-Some.is)) (front_before _ _ (codes "Nonempty\n") (least_line w.dates (answer_tuple w.answer c.in-Some.spot)) c.in_err-write_bytes-in-Some.ensures.text))

pub returns-in_ok-write_bytes-in-Some-clause-text : goal.returns-in_ok-write_bytes-in-Some-clause-text
returns-in_ok-write_bytes-in-Some-clause-text g c =
    let w = c.args.self.now in
    written_as _ _ _ _ _ (sym (ap (spot_text w.dates w.answer) c.in-Some.is)) (written_after _ _ _ (codes "Nonempty\n") (least_line w.dates (answer_tuple w.answer c.in-Some.spot)) _ c.in_ok-write_bytes-in-Some.ensures.text c.write_least.ensures.text)
