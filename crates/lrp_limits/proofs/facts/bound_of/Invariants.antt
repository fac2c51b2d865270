use Rattle.std.proofs.Common.{◌≡◌, take, map, nat_abs}
use Rattle.lrp_model.specs.Reach.{greatest}
use Rattle.lrp_limits.proofs.facts.bound_of.Given as goal

-- the greatest of the bounds so far
abbrev pub invariant-loop-bound : goal.invariant-loop-bound
invariant-loop-bound l = l.most ≡ greatest (map (λ bound. nat_abs bound.most) (take l.bound-index l.bound-items))
