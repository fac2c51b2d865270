use Rattle.std.proofs.Common.{◌≡◌, take, flat_map}
use Rattle.lrp_model.specs.Reach.{greatest, term_magnitudes}
use Rattle.lrp_limits.proofs.reaches.greatest_offset.Given as goal

-- the greatest of the terms so far
abbrev pub invariant-loop-term : goal.invariant-loop-term
invariant-loop-term l = l.most ≡ greatest (flat_map term_magnitudes (take l.term-index l.terms))
