use Rattle.std.proofs.Common.{◌≡◌}
use Rattle.slab.specs.Slab.{get}
use Rattle.lrp_slots.specs.Links.{key_after}
use Rattle.lrp_slots.proofs.chains.key_after.Given as goal

-- the key so far
abbrev pub invariant-loop-place : goal.invariant-loop-place
invariant-loop-place g l = l.key ≡ key_after (get l.links) l._place l.first
