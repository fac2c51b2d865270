use Rattle.lrp_keep.specs.States.{levels_of}
use Rattle.lrp_keep.specs.Taken.{HasTakenSome}
use Rattle.lrp_keep.specs.Unions.{HoldsAmong}
use Rattle.lrp_keep.proofs.states.State.answer.Given as goal

-- the answers of the disjuncts so far
abbrev pub invariant-loop-derived : goal.invariant-loop-derived
invariant-loop-derived l = HasTakenSome (HoldsAmong (levels_of l.self) l.derived-index) l.initial.store l.store
