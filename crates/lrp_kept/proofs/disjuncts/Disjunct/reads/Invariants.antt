use Rattle.std.proofs.Common.{◌≡◌, drop}
use Rattle.std.specs.Prelude.{◌==◌}
use Rattle.std.specs.List.{list_any}
use Rattle.lrp_kept.proofs.disjuncts.Disjunct.reads.Given as goal

-- some does if one of those that are left does
abbrev pub invariant-loop-atom : goal.invariant-loop-atom
invariant-loop-atom l = list_any (λ a. a.relation == l.relation) (drop l.atom-index l.self.atoms.items) ≡ list_any (λ a. a.relation == l.relation) l.self.atoms.items
