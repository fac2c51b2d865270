use Rattle.lrp_packed.proofs.Unpacked.{IsPacking}
use Rattle.lrp_packed.proofs.lists.PackedList.of.Given as goal

-- the zones after are packed
abbrev pub invariant-loop-piece : goal.invariant-loop-piece
invariant-loop-piece l = IsPacking l.store l.piece-iterator l.zones.items
