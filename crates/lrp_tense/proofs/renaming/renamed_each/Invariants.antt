use Rattle.std.proofs.Common.{◌≡◌, map, take}
use Rattle.lrp_tense.specs.Expanding.{renamed}
use Rattle.lrp_tense.proofs.renaming.renamed_each.Given as goal

-- the terms so far
abbrev pub invariant-loop-term : goal.invariant-loop-term
invariant-loop-term l = l.all ≡ map (renamed l.scope.names) (take l.term-index l.terms)
