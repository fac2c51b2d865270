use Rattle.lrp_keep.specs.States.{levels_of}
use Rattle.lrp_keep.specs.Unions.{HoldsAmong}
use Rattle.lrp_parts.specs.Firsts.{IsFirstOfHeld}
use Rattle.lrp_keep.proofs.states.State.first.Given as goal

-- the first answer of the disjuncts so far
abbrev pub invariant-loop-derived : goal.invariant-loop-derived
invariant-loop-derived l = IsFirstOfHeld (HoldsAmong (levels_of l.self) l.derived-index) l.first
