-- What is found in the zones that are after was added.
use Rattle.lrp_steps.proofs.Found.{IsFinding}
use Rattle.lrp_steps.proofs.gathering.add_lent_store.Given as goal

abbrev pub invariant-loop-piece : goal.invariant-loop-piece
invariant-loop-piece l = IsFinding l.operand.store.now l.operand.places.now l.wanted.pattern.now l.wanted.size l.wanted.cap l.initial.out l.out l.piece-iterator
