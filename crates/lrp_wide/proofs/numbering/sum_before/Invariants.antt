use Rattle.std.proofs.Common.{◌≡◌, take}
use Rattle.lrp_wide.specs.Inlining.{numbers_before}
use Rattle.lrp_wide.specs.Counts.{counted_of, stopped}
use Rattle.lrp_wide.proofs.numbering.sum_before.Given as goal

-- the sum of the atoms so far
abbrev pub invariant-loop-atom : goal.invariant-loop-atom
invariant-loop-atom l = l.sum ≡ stopped (numbers_before (counted_of (take l.atom-index l.atoms)) l.place)
