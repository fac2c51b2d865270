use Rattle.std.proofs.Common.{◌≡◌, take}
use Rattle.lrp_model.proofs.names.are_same.Given as goal

-- the bytes so far are the same
abbrev pub invariant-loop-i : goal.invariant-loop-i
invariant-loop-i l = take l.i l.left ≡ take l.i l.right
