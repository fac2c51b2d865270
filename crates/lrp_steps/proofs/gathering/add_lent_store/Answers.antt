-- Zone after zone, all that is found in the store is added.
use Rattle.std.proofs.Common.{subst, sym}
use Rattle.lrp_tables.specs.Pieces.{ArePieces}
use Rattle.lrp_steps.proofs.Found.{IsFinding, finding_none, finding_more, finding_refused, next_stands, next_adds, found_all}
use Rattle.lrp_steps.proofs.gathering.add_lent_store.Goals as goal

pub loop-piece-init : goal.loop-piece-init
loop-piece-init c = finding_none c.args.operand.store.now c.args.out.now c.requires.stands.valid c.requires.adds.valid c.args.operand.places.now c.requires.stands c.args.wanted.pattern.now c.args.wanted.size c.args.wanted.cap _ (subst (λ l. ArePieces c.args.operand.store.now l) (sym c.into_iter-piece-iterator.ensures.into_iter_gives) c.of-piece-items.ensures)

pub add_piece-requires-clause-stands : goal.add_piece-requires-clause-stands
add_piece-requires-clause-stands c = next_stands c.args.operand.store.now c.args.out.now c.requires.stands.valid c.requires.adds.valid c.args.operand.places.now c.requires.stands c.args.wanted.pattern.now c.args.wanted.size c.args.wanted.cap c.loop-piece.out c.loop-piece.piece-iterator c.loop-piece.invariant c.next.new.self c.in-Some.piece c.in-Some.ensures.steps c.loop-piece.out

pub add_piece-requires-clause-adds : goal.add_piece-requires-clause-adds
add_piece-requires-clause-adds c = next_adds c.args.operand.store.now c.args.out.now c.requires.stands.valid c.requires.adds.valid c.args.operand.places.now c.requires.stands c.args.wanted.pattern.now c.args.wanted.size c.args.wanted.cap c.loop-piece.out c.loop-piece.piece-iterator c.loop-piece.invariant c.next.new.self c.in-Some.piece c.in-Some.ensures.steps c.loop-piece.out c.requires.adds

pub loop-piece-preserved : goal.loop-piece-preserved
loop-piece-preserved c = finding_more c.args.operand.store.now c.args.out.now c.requires.stands.valid c.requires.adds.valid c.args.operand.places.now c.requires.stands c.args.wanted.pattern.now c.args.wanted.size c.args.wanted.cap c.loop-piece.out c.loop-piece.piece-iterator c.loop-piece.invariant c.next.new.self c.in-Some.piece c.in-Some.ensures.steps c.add_piece.new.out c.in-Ok.ensures.ok

pub returns-clause-ok : goal.returns-clause-ok
returns-clause-ok c = found_all c.args.operand.store.now c.args.out.now c.requires.stands.valid c.requires.adds.valid c.args.operand.places.now c.requires.stands c.args.wanted.pattern.now c.args.wanted.size c.args.wanted.cap c.loop-piece.out (subst (λ l. IsFinding c.args.operand.store.now c.args.operand.places.now c.args.wanted.pattern.now c.args.wanted.size c.args.wanted.cap c.args.out.now c.loop-piece.out l) c.in-None.ensures.steps.0 c.loop-piece.invariant)

pub returns-in-Err-clause-too_many : goal.returns-in-Err-clause-too_many
returns-in-Err-clause-too_many c = λ e. finding_refused c.args.operand.store.now c.args.out.now c.requires.stands.valid c.requires.adds.valid c.args.operand.places.now c.requires.stands c.args.wanted.pattern.now c.args.wanted.size c.args.wanted.cap c.loop-piece.out c.loop-piece.piece-iterator c.loop-piece.invariant c.next.new.self c.in-Some.piece c.in-Some.ensures.steps c.add_piece.new.out (c.in-Err.ensures.too_many e)
