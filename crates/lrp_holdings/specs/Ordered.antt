-- What is held, by the chains of its owners and in order.
use Rattle.std.specs.Prelude.{ℕ, List, Option}
use Rattle.slab.specs.Slab.{Slab}
use Rattle.lrp_holdings.specs.Chains.{IsHeldInChains}
use Rattle.lrp_holdings.specs.Winners.{HasWinners}
use Rattle.lrp_holdings.specs.declared.chains.OwnerLink.{OwnerLink}
use Rattle.lrp_holdings.specs.declared.chains.Holding.{Holding}

-- all links are chained, and each match has its winner
pub record IsHeldInOrder {V : Type 0} (leads : V → V → Type 0) (slots : Slab (Holding V)) (chains : List (Option OwnerLink)) (winners : List (Option ℕ)) : Type 0 where
  pub chained : IsHeldInChains slots chains
  pub ranked : HasWinners leads slots winners
