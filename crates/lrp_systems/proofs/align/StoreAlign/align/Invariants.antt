-- The tuples of the zones that are after were added, and no others.
use Rattle.lrp_systems.proofs.Aligning.{IsAligning}
use Rattle.lrp_systems.proofs.align.StoreAlign.align.Given as goal

abbrev pub invariant-loop-piece : goal.invariant-loop-piece
invariant-loop-piece l = IsAligning l.cap l.self l.initial.out l.out l.piece-iterator
