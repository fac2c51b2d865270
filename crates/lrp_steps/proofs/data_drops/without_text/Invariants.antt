-- What is left of the tuples of the zones that are after was added.
use Rattle.std.proofs.Common.{◌-◌, ◌^◌}
use Rattle.lrp_steps.specs.Tuples.{IsWithoutText}
use Rattle.lrp_tables.proofs.Passing.{IsPassing}
use Rattle.lrp_steps.proofs.data_drops.without_text.Given as goal

abbrev pub invariant-loop-piece : goal.invariant-loop-piece
invariant-loop-piece l = IsPassing (IsWithoutText l.place l.size) (λ high. high) (2 ^ 32 - 1) l.store l.initial.out l.out l.piece-iterator
