use Rattle.std.proofs.Common.{◌≡◌}
use Rattle.lrp_keep.proofs.EachDerived.{AreLetGoBelow}
use Rattle.lrp_keep.proofs.states.State.let_go.Given as goal

-- the row is gone, and in the disjuncts so far what it helped to derive
abbrev pub invariant-loop-number : goal.invariant-loop-number
invariant-loop-number l = record {
  released : AreLetGoBelow l.key l.number l.fn.self.derived.items l.self.derived.items;
  rows : l.self.rows ≡ l.initial.self.rows;
  period : l.self.period ≡ l.initial.self.period;
}
