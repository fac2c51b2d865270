use Rattle.std.proofs.Common.{◌-◌, ◌^◌}
use Rattle.lrp_tables.proofs.Passing.{IsPassing}
use Rattle.lrp_keep.specs.Taken.{StaysSame}
use Rattle.lrp_keep.proofs.unions.add_all.Given as goal

-- the tuples of the zones that are after were added
abbrev pub invariant-loop-piece : goal.invariant-loop-piece
invariant-loop-piece l = IsPassing StaysSame (λ high. high) (2 ^ 32 - 1) l.from l.fn.out l.out l.piece-iterator
