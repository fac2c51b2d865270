use Rattle.std.proofs.Common.{◌≡◌, ◌+◌, ◌-◌, ◌≤◌, ℕ, length}
use Rattle.lrp_holdings.specs.Winners.{winner_at}
use Rattle.lrp_holdings.proofs.winners.make_room_for_match.Given as goal

-- all winners are as they were
abbrev pub invariant-loop-winners : goal.invariant-loop-winners
invariant-loop-winners l = record {
  same : (s : ℕ) → winner_at l.winners.items s ≡ winner_at l.fn.winners.items s;
  more : length l.fn.winners.items ≤ length l.winners.items;
}

abbrev pub decreases-loop-winners : goal.decreases-loop-winners
decreases-loop-winners l = l.slot + 1 - length l.winners.items
