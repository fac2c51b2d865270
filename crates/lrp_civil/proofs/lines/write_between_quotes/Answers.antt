use Rattle.std.proofs.Common.{◌++◌, codes}
use Rattle.std.proofs.lemmas.Result.{err_from_is_err_and}
use Rattle.lrp_io.proofs.PieceLemmas.{written_after, written_err, front_before, front_after}
use Rattle.lrp_calendar.specs.Moments.{moment_bytes}
use Rattle.lrp_civil.proofs.lines.write_between_quotes.Goals as goal

pub returns-in_err-write_moment-clause-text : goal.returns-in_err-write_moment-clause-text
returns-in_err-write_moment-clause-text g c =
    let bytes = moment_bytes c.args.minute.now in
    let p = err_from_is_err_and c.from_residual-in_err-write_moment.result c.from_residual-in_err-write_moment.ensures.1 in
    written_err _ _ (codes "\"" ++ (bytes ++ codes "\"")) _ p.0 p.1
    (front_after _ _ _ (codes "\"") (bytes ++ codes "\"") c.in_ok-write_bytes.ensures.text (front_before _ _ bytes (codes "\"") c.in_err-write_moment.ensures.text))

pub returns-clause-text : goal.returns-clause-text
returns-clause-text g c =
    let bytes = moment_bytes c.args.minute.now in
    written_after _ _ _ (codes "\"") (bytes ++ codes "\"") _ c.in_ok-write_bytes.ensures.text (written_after _ _ _ bytes (codes "\"") _ c.in_ok-write_moment.ensures.text c.write_bytes-2.ensures.text)
