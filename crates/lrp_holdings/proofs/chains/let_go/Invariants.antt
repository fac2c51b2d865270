use Rattle.lrp_holdings.specs.Chains.{AreChainedFrom, IsRelinked}
use Rattle.lrp_holdings.proofs.chains.let_go.Given as goal

-- the first owners are out of their chains
abbrev pub invariant-loop-place : goal.invariant-loop-place
invariant-loop-place g l = record { chained : AreChainedFrom l.slots l.chains.items l.slot l.place; same : IsRelinked l.fn.slots l.slots }
