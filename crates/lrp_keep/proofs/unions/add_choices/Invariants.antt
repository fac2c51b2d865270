use Rattle.lrp_keep.specs.Taken.{HasTakenSome}
use Rattle.lrp_keep.proofs.Taken.{HoldsBelow}
use Rattle.lrp_keep.proofs.unions.add_choices.Given as goal

-- the values in the slots so far
abbrev pub invariant-loop-slot : goal.invariant-loop-slot
invariant-loop-slot l = HasTakenSome (HoldsBelow l.choices l.slot) l.fn.out l.out
