use Rattle.std.proofs.Common.{◌≡◌, ◌<◌, suc, length}
use Rattle.std.specs.Prelude.{IfSome, option_map, unwrap_or}
use Rattle.lrp_holdings.specs.Winners.{AreMatchedBut, value_numbered}
use Rattle.lrp_holdings.proofs.winners.replay.Given as goal

-- all matches are played but the next one
abbrev pub invariant-loop-next : goal.invariant-loop-next
invariant-loop-next g l = record {
  matched : AreMatchedBut g.V.Ranked.leads (value_numbered l.slots) l.next l.winners.items;
  within : IfSome l.next (λ slot. slot < length l.winners.items);
  size : length l.winners.items ≡ length l.fn.winners.items;
}

abbrev pub decreases-loop-next : goal.decreases-loop-next
decreases-loop-next g l = unwrap_or (option_map suc l.next) 0
