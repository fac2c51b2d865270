use Rattle.lrp_holdings.specs.Chains.{AreChainedBelow, AreLoose, IsRelinked}
use Rattle.lrp_holdings.proofs.chains.link_all.Given as goal

-- the first owners are in their chains
abbrev pub invariant-loop-place : goal.invariant-loop-place
invariant-loop-place g l = record { chained : AreChainedBelow l.slots l.chains.items l.slot l.place; loose : AreLoose l.slots l.chains.items l.slot l.place; same : IsRelinked l.fn.slots l.slots }
