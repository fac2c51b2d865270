use Rattle.std.proofs.Common.{take}
use Rattle.std.specs.Prelude.{All}
use Rattle.lrp_kept.specs.EqualRows.{AreEqualRows}
use Rattle.lrp_watch.proofs.edited.place_of.Given as goal

-- none so far is equal
abbrev pub invariant-loop-i : goal.invariant-loop-i
invariant-loop-i l = All (λ other. AreEqualRows other l.row → ⊥) (take l.i l.rows)
