-- One zone more meets the bound.
use Rattle.std.proofs.Common.{◌≡◌, ◌<◌, length, refl, arith, get_or}
use Rattle.std.proofs.lemmas.Int.{ints}
use Rattle.lrp_zone.specs.Zones.{columns_of}
use Rattle.lrp_hulls.proofs.Commoned.{met_more, met_all}
use Rattle.lrp_hulls.proofs.common.common_bound.Goals as goal
use Rattle.lrp_hulls.proofs.common.common_bound.Goals.{then-most-bound, else-most-bound}

pub loop-number-preserved : goal.loop-number-preserved
loop-number-preserved c =
    let low : c.loop-number.number < length c.args.pieces.now = omega (arith, c.loop-number-test.true, c.len-number-end.ensures) in
    let at : get_or c.args.pieces.now c.loop-number.number c.piece-piece.result ≡ c.piece-piece.result = c.piece-piece.ensures c.piece-piece.result in
    let count : columns_of c.piece-piece.result.zone ≡ c.args.columns = c.requires.columns.each c.piece-piece.result (c.loop-number.number, low, at) in
    let one = c.in_ok-bound.ensures in
    let before = c.loop-number.invariant in
    elim c.if-most-bound.branch [
      | then-most-bound w ↦ met_more c.args.pieces.now c.args.i c.args.j c.loop-number.number _ c.in_ok-bound.bound _ c.piece-piece.result low at (omega (arith, count, c.requires.left)) (omega (arith, count, c.requires.right)) before one (omega (arith, ints, w.most-is, one.small)) (omega (arith, ints, w.most-is, w.if-most-bound.true)) (omega (arith, ints, w.most-is))
      | else-most-bound w ↦ met_more c.args.pieces.now c.args.i c.args.j c.loop-number.number _ c.in_ok-bound.bound _ c.piece-piece.result low at (omega (arith, count, c.requires.left)) (omega (arith, count, c.requires.right)) before one (omega (arith, ints, w.most-is, before.small)) (omega (arith, ints, w.most-is)) (omega (arith, ints, w.most-is, w.if-most-bound.false))
    ]

pub returns : goal.returns
returns c = met_all c.args.columns c.args.pieces.now c.args.i c.args.j c.loop-number.number _ (omega (arith, c.loop-number-test.false, c.len-number-end.ensures)) c.requires.left c.requires.right refl refl c.loop-number.invariant
