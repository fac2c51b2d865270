use Rattle.std.proofs.Common.{take}
use Rattle.lrp_core.specs.Cores.{cores_of}
use Rattle.lrp_model.specs.Formulas.{disjunction}
use Rattle.lrp_plan.specs.Elements.{AreInner}
use Rattle.lrp_guarded.specs.Building.{FollowsIn}
use Rattle.lrp_guarded.specs.Standing.{turned_so_often}
use Rattle.lrp_guarded.proofs.Wholly.{MembersSoFar}
use Rattle.lrp_guarded.proofs.builder.+building.Given as goal

-- the members so far were united
abbrev pub invariant-build_members-loop-index : goal.invariant-build_members-loop-index
invariant-build_members-loop-index l = AreInner l.inner (disjunction (cores_of l.of)) → MembersSoFar (cores_of (take l.index l.of)) l.guard l.fn.making l.making l.left

-- this many turns were made
abbrev pub invariant-take_each-loop-turn : goal.invariant-take_each-loop-turn
invariant-take_each-loop-turn l = FollowsIn l.of (λ over at. turned_so_often over l._turn at) l.fn.making l.making l.fn.standing l.standing
