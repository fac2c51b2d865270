use Rattle.std.proofs.Common.{sym, ap, subst, ◌^◌, ◌∙◌}
use Rattle.lrp_tables.specs.Pieces.{ArePieces}
use Rattle.lrp_tables.proofs.Passing.{IsPassing, next_is, passing_more, passing_none}
use Rattle.lrp_keep.specs.Taken.{StaysSame}
use Rattle.lrp_keep.proofs.Taken.{all_taken, fits_there}
use Rattle.lrp_keep.proofs.unions.add_all.Goals as goal

pub loop-piece-init : goal.loop-piece-init
loop-piece-init c = passing_none StaysSame (λ high. high) 4294967295 c.args.from.now c.args.out.now c.requires.valid _ (subst (λ l. ArePieces c.args.from.now l) (sym c.into_iter-piece-iterator.ensures.into_iter_gives) c.pieces-piece-items.ensures.all)

pub add_piece-requires-clause-valid : goal.add_piece-requires-clause-valid
add_piece-requires-clause-valid c = (c.loop-piece.invariant.grown (2 ^ 62) c.pieces-piece-items.ensures.reach).valid

pub add_piece-requires-clause-place : goal.add_piece-requires-clause-place
add_piece-requires-clause-place c =
    let is = next_is StaysSame (λ high. high) 4294967295 c.args.from.now c.args.out.now c.loop-piece.out c.loop-piece.out c.loop-piece.piece-iterator c.next.new.self c.in-Some.piece c.in-Some.ensures.steps c.loop-piece.invariant in
    let grown = c.loop-piece.invariant.grown (2 ^ 62) c.pieces-piece-items.ensures.reach in
    fits_there c.in-Some.piece c.args.from.now c.loop-piece.out (grown.shape ∙ c.requires.like.shape) (grown.period ∙ c.requires.like.period) (c.pieces-piece-items.ensures.fit c.in-Some.piece is)

pub loop-piece-preserved : goal.loop-piece-preserved
loop-piece-preserved c =
    let grown = c.loop-piece.invariant.grown (2 ^ 62) c.pieces-piece-items.ensures.reach in
    passing_more StaysSame (λ high. high) 4294967295 c.args.from.now c.args.out.now c.loop-piece.out c.add_piece.new.out c.loop-piece.piece-iterator c.next.new.self c.in-Some.piece c.in-Some.ensures.steps c.loop-piece.invariant
    c.loop-piece.out.shape.texts (ap (λ s. s.texts) (grown.shape ∙ c.requires.like.shape)) (λ low high le. le) c.in_ok-add_piece.ensures

pub returns : goal.returns
returns c =
    all_taken c.args.from.now c.args.out.now c.loop-piece.out (subst (λ l. IsPassing StaysSame (λ high. high) 4294967295 c.args.from.now c.args.out.now c.loop-piece.out l) c.in-None.ensures.steps.0 c.loop-piece.invariant) c.pieces-piece-items.ensures.reach
