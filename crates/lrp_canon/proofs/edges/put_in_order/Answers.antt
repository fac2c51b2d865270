-- Sorted edges, each once.
use Rattle.std.proofs.lemmas.List.Filters.{dedup_is}
use Rattle.lrp_canon.proofs.SortLaws.{in_order, ties}
use Rattle.lrp_canon.proofs.edges.put_in_order.Goals as goal

pub returns : goal.returns
returns c = in_order c.args.edges.now.items c.sort_unstable.new.self.items c.dedup.new.self.items _ c.sort_unstable.ensures.permutation c.sort_unstable.ensures.sorted (dedup_is _ _ _ c.dedup.ensures.filtered) ties
