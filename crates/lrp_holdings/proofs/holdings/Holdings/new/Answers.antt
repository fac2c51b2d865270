use Rattle.lrp_holdings.proofs.LetGo.{nothing_held}
use Rattle.lrp_holdings.proofs.Ordering.{won_none}
use Rattle.lrp_holdings.proofs.holdings.Holdings.new.Goals as goal

pub invariant_of-result : goal.invariant_of-result
invariant_of-result g c = record {
  chained = nothing_held c.new.result c.new-2.result.items c.new.ensures.empty c.new-2.ensures.items;
  ranked = won_none g.V.Ranked.leads g.met.V.Ranked.itself g.met.V.Ranked.onward c.new.result c.new-3.result.items c.new.ensures.empty c.new-3.ensures.items;
}
