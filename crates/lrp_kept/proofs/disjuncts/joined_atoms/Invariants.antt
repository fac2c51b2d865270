use Rattle.std.proofs.Common.{take, map}
use Rattle.lrp_kept.specs.Drafts.{atom_in}
use Rattle.lrp_kept.specs.Held.{names_of}
use Rattle.lrp_kept.proofs.JoinedUp.{AreJoinedUp}
use Rattle.lrp_kept.proofs.disjuncts.joined_atoms.Given as goal

-- the atoms so far
abbrev pub invariant-loop-atom : goal.invariant-loop-atom
invariant-loop-atom l = AreJoinedUp (names_of l.rows) (map atom_in (take l.atom-index l.named.items)) l.tests l.vars l.atoms.items
