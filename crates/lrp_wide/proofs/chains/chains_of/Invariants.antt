use Rattle.std.proofs.Common.{◌≡◌, length}
use Rattle.lrp_wide.specs.Chains.{AreChains}
use Rattle.lrp_wide.proofs.chains.chains_of.Given as goal

-- the chains of the definitions so far
abbrev pub invariant-loop-text : goal.invariant-loop-text
invariant-loop-text l = (length l.chains.items ≡ l.text-index) × AreChains l.definitions l.texts l.chains.items
