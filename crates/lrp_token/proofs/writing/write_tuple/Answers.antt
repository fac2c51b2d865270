use Rattle.std.proofs.Common.{◌++◌, codes, take}
use Rattle.std.specs.Fmt.{signed_decimal}
use Rattle.std.proofs.lemmas.Result.{err_from_is_err_and}
use Rattle.lrp_model.specs.Printed.{joined_by}
use Rattle.lrp_model.specs.PrintedPages.{text_part}
use Rattle.lrp_io.proofs.PieceLemmas.{written_after, written_err, front_after, front_before}
use Rattle.lrp_print.proofs.Lines.{written_as}
use Rattle.lrp_token.specs.Spots.{times_in, texts_in}
use Rattle.lrp_token.proofs.Lists.{joined_map}
use Rattle.lrp_token.proofs.writing.write_tuple.Goals as goal
use Rattle.lrp_model.specs.Tuples.{text_at}

pub returns-in_err-write_bytes-clause-text : goal.returns-in_err-write_bytes-clause-text
returns-in_err-write_bytes-clause-text g c =
    let shape = c.args.shape in
    let spot = c.args.spot.now in
    let times = joined_by (codes ",") signed_decimal (times_in shape spot) in
    let texts = joined_by (codes ",") text_part (texts_in shape c.args.domain.now spot) in
    let p = err_from_is_err_and c.from_residual-in_err-write_bytes.result c.from_residual-in_err-write_bytes.ensures.1 in
    written_err _ _ (times ++ (codes "/" ++ texts)) _ p.0 p.1
    (front_after _ _ _ times (codes "/" ++ texts) c.in_ok-write_joined.ensures.text (front_before _ _ (codes "/") texts c.in_err-write_bytes.ensures.text))

pub returns-clause-text : goal.returns-clause-text
returns-clause-text g c =
    let shape = c.args.shape in
    let spot = c.args.spot.now in
    let domain = c.args.domain.now in
    let numbers = take shape.texts spot.texts in
    let times = joined_by (codes ",") signed_decimal (times_in shape spot) in
    let texts = joined_by (codes ",") text_part (texts_in shape domain spot) in
    let same = joined_map (codes ",") text_part (text_at domain) numbers in
    written_after _ _ _ times (codes "/" ++ texts) _ c.in_ok-write_joined.ensures.text
    (written_after _ _ _ (codes "/") texts _ c.in_ok-write_bytes.ensures.text (written_as _ _ _ _ _ same c.write_joined-2.ensures.text))
