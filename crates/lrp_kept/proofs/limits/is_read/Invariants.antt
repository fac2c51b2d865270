use Rattle.std.proofs.Common.{◌≡◌, drop}
use Rattle.std.specs.List.{list_any}
use Rattle.lrp_kept.specs.Sizes.{is_reader}
use Rattle.lrp_kept.proofs.limits.is_read.Given as goal

-- some does if one of those that are left does
abbrev pub invariant-loop-disjunct : goal.invariant-loop-disjunct
invariant-loop-disjunct l = list_any (is_reader l.relation) (drop l.disjunct-index l.disjuncts) ≡ list_any (is_reader l.relation) l.disjuncts
