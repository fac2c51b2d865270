use Rattle.std.proofs.Common.{◌<◌, length, take}
use Rattle.std.specs.List.{All}
use Rattle.lrp_holdings.specs.Chains.{HasRoomForFirst}
use Rattle.lrp_holdings.proofs.chains.make_room.Given as goal

-- the first owners have room
abbrev pub invariant-loop-number : goal.invariant-loop-number
invariant-loop-number l = record { room : All (λ n. n < length l.chains.items) (take l.number-index l.numbers); same : HasRoomForFirst l.fn.chains.items l.chains.items }
