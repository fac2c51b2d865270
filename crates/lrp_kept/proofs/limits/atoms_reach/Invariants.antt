use Rattle.std.proofs.Common.{◌≡◌, take, map}
use Rattle.lrp_model.specs.Reach.{greatest}
use Rattle.lrp_limits.specs.Capped.{capped}
use Rattle.lrp_kept.specs.Held.{greatest_bounds}
use Rattle.lrp_kept.specs.Sizes.{joined_reach}
use Rattle.lrp_kept.proofs.limits.atoms_reach.Given as goal

-- of the atoms so far
abbrev pub invariant-loop-atom : goal.invariant-loop-atom
invariant-loop-atom l = l.reach ≡ capped (greatest (map (joined_reach (greatest_bounds l.relations) l.period.number) (take l.atom-index l.atoms.items)))
