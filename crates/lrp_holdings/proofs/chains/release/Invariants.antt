use Rattle.slab.specs.Slab.{slab_len}
use Rattle.lrp_holdings.specs.Chains.{AreAllChained}
use Rattle.lrp_holdings.specs.Winners.{HasWinners}
use Rattle.lrp_holdings.proofs.LetGo.{ArePartlyReleased}
use Rattle.lrp_holdings.proofs.chains.release.Given as goal

-- some values of the owner are gone
abbrev pub invariant-loop-link : goal.invariant-loop-link
invariant-loop-link g l = record {
  chained : AreAllChained l.slots l.chains.items;
  partly : ArePartlyReleased l.number l.fn.slots l.slots;
  ranked : HasWinners g.V.Ranked.leads l.slots l.winners.items;
}

abbrev pub decreases-loop-link : goal.decreases-loop-link
decreases-loop-link g l = slab_len l.slots
