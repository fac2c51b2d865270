use Rattle.std.proofs.Common.{◌≡◌, map, take}
use Rattle.lrp_holdings.proofs.holdings.numbers_of.Given as goal

abbrev pub invariant-loop-owner : goal.invariant-loop-owner
invariant-loop-owner l = l.numbers.items ≡ map (λ o. o.number) (take l.owner-index l.owners.items)
