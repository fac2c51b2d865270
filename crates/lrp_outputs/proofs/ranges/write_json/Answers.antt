-- The ends between brackets.
use Rattle.std.proofs.Common.{SFits, rules, w64, ◌++◌, codes}
use Rattle.std.proofs.lemmas.Result.{err_from_is_err_and}
use Rattle.lrp_io.proofs.PieceLemmas.{front_before, front_after, written_after, written_err}
use Rattle.lrp_print.proofs.Lines.{front_as, ok_as}
use Rattle.lrp_model.specs.Printed.{joined_by}
use Rattle.lrp_outputs.specs.RangeLines.{end_bytes, range_ends}
use Rattle.lrp_outputs.proofs.RangeTexts.{ends_by_words}
use Rattle.lrp_outputs.proofs.ranges.write_json.Goals as goal

pub returns-in_err-write_bytes-clause-text : goal.returns-in_err-write_bytes-clause-text
returns-in_err-write_bytes-clause-text g c =
    let ends = c.args.ends.now in
    let range = c.args.range.now in
    let both = joined_by (codes ",") (end_bytes ends.civil ends.json) (range_ends range) in
    let p = err_from_is_err_and c.from_residual.result c.from_residual.ensures.1 in
    written_err _ _ _ _ p.0 p.1 (front_before _ _ (codes "[") (both ++ codes "]\n") c.in_err-write_bytes.ensures.text)

pub returns-in_err-write_joined-clause-text : goal.returns-in_err-write_joined-clause-text
returns-in_err-write_joined-clause-text g c =
    let ends = c.args.ends.now in
    let range = c.args.range.now in
    let low : SFits w64 range.from = search rules in
    let high : SFits w64 range.to = search rules in
    let both = joined_by (codes ",") (end_bytes ends.civil ends.json) (range_ends range) in
    let p = err_from_is_err_and c.from_residual-in_err-write_joined.result c.from_residual-in_err-write_joined.ensures.1 in
    written_err _ _ _ _ p.0 p.1 (front_after _ _ _ (codes "[") (both ++ codes "]\n") c.in_ok-write_bytes.ensures.text (front_before _ _ both (codes "]\n") (front_as _ _ _ _ (ends_by_words ends.civil ends.json (codes ",") range low high) c.in_err-write_joined.ensures.text)))

pub returns-clause-text : goal.returns-clause-text
returns-clause-text g c =
    let ends = c.args.ends.now in
    let range = c.args.range.now in
    let low : SFits w64 range.from = search rules in
    let high : SFits w64 range.to = search rules in
    let both = joined_by (codes ",") (end_bytes ends.civil ends.json) (range_ends range) in
    written_after _ _ _ (codes "[") (both ++ codes "]\n") _ c.in_ok-write_bytes.ensures.text (written_after _ _ _ both (codes "]\n") _ (ok_as _ _ _ _ (ends_by_words ends.civil ends.json (codes ",") range low high) c.in_ok-write_joined.ensures.text) c.write_bytes-2.ensures.text)
