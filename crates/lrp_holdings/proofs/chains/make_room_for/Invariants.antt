use Rattle.std.proofs.Common.{◌+◌, ◌-◌, length}
use Rattle.lrp_holdings.specs.Chains.{HasRoomForFirst}
use Rattle.lrp_holdings.proofs.chains.make_room_for.Given as goal

-- all chains begin as they did
abbrev pub invariant-loop-chains : goal.invariant-loop-chains
invariant-loop-chains l = HasRoomForFirst l.fn.chains.items l.chains.items

abbrev pub decreases-loop-chains : goal.decreases-loop-chains
decreases-loop-chains l = l.number + 1 - length l.chains.items
