use Rattle.std.proofs.Common.{◌++◌, codes, refl, ap, append_assoc}
use Rattle.std.proofs.lemmas.Result.{err_from_is_err_and}
use Rattle.lrp_model.specs.PrintedPages.{hex, tuple_text}
use Rattle.lrp_io.proofs.PieceLemmas.{written_after, written_err, front_before}
use Rattle.lrp_print.proofs.Lines.{front_as, written_as}
use Rattle.lrp_token.specs.Spots.{spot_token, times_in, texts_in}
use Rattle.lrp_token.proofs.HexLaws.{bytes_by}
use Rattle.lrp_token.proofs.writing.write_token.Goals as goal

pub returns-in_err-write_head-clause-text : goal.returns-in_err-write_head-clause-text
returns-in_err-write_head-clause-text g c =
    let digest = c.args.digest.now in
    let tuple = tuple_text (times_in c.args.shape c.args.spot.now) (texts_in c.args.shape c.args.domain.now c.args.spot.now) in
    let head = codes "T2/" ++ (hex digest ++ codes "/") in
    let p = err_from_is_err_and c.from_residual.result c.from_residual.ensures.1 in
    written_err _ _ (spot_token c.args.shape c.args.domain.now digest c.args.spot.now) _ p.0 p.1
    (front_as _ _ _ _ (ap (λ x. codes "T2/" ++ x) (append_assoc (hex digest) (codes "/") tuple)) (front_before _ _ head tuple c.in_err-write_head.ensures.text))

pub returns-in_err-write_head-clause-token : goal.returns-in_err-write_head-clause-token
returns-in_err-write_head-clause-token g c h = record { spelled = refl; digest_is = record { size = c.told-digest; bytes = bytes_by c.args.digest.now c.fits-digest }; small = c.requires.small; whole = h }

pub returns-clause-text : goal.returns-clause-text
returns-clause-text g c =
    let digest = c.args.digest.now in
    let tuple = tuple_text (times_in c.args.shape c.args.spot.now) (texts_in c.args.shape c.args.domain.now c.args.spot.now) in
    let head = codes "T2/" ++ (hex digest ++ codes "/") in
    written_as _ _ _ _ _ (ap (λ x. codes "T2/" ++ x) (append_assoc (hex digest) (codes "/") tuple))
    (written_after _ _ _ head tuple _ c.in_ok-write_head.ensures.text c.write_tuple.ensures.text)

pub returns-clause-token : goal.returns-clause-token
returns-clause-token g c h = record { spelled = refl; digest_is = record { size = c.told-digest; bytes = bytes_by c.args.digest.now c.fits-digest }; small = c.requires.small; whole = h }
