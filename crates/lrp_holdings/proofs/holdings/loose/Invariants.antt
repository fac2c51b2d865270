use Rattle.std.proofs.Common.{◌≡◌, map, take}
use Rattle.lrp_holdings.specs.Chains.{loose_owner}
use Rattle.lrp_holdings.proofs.holdings.loose.Given as goal

abbrev pub invariant-loop-number : goal.invariant-loop-number
invariant-loop-number l = l.owners.items ≡ map loose_owner (take l.number-index l.numbers)
