-- A front of a piece is a front of all.
use Rattle.std.specs.List.{flat_map}
use Rattle.std.proofs.lemmas.Result.{err_from_is_err_and}
use Rattle.lrp_io.proofs.PieceLemmas.{written_err}
use Rattle.lrp_lint.proofs.Lines.{piece_front}
use Rattle.lrp_lint.proofs.report.write_pieces.Goals as goal

pub returns-in_err-write_bytes-clause-text : goal.returns-in_err-write_bytes-clause-text
returns-in_err-write_bytes-clause-text g c =
    let p = err_from_is_err_and c.from_residual.result c.from_residual.ensures.1 in
    written_err _ _ (flat_map (λ piece. piece.now) c.args.pieces.now) _ p.0 p.1
    (piece_front c.args.pieces.now c.loop-piece.piece-index _ _ _ _ c.loop-piece-test.true c.loop-piece.invariant.so_far c.in_err-write_bytes.ensures.text)
