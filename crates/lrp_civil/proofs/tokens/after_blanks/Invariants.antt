use Rattle.std.proofs.Common.{◌≡◌, ◌≤◌, false, length}
use Rattle.lrp_model.specs.Lexing.{skip, start}
use Rattle.lrp_civil.proofs.tokens.after_blanks.Given as goal

-- going on from here gives the same
abbrev pub invariant-loop-rest : goal.invariant-loop-rest
invariant-loop-rest l = record { same : (skip l.comment start l.rest).bytes ≡ (skip false start l.fn.bytes).bytes; shorter : length l.rest ≤ length l.fn.bytes }

abbrev pub decreases-loop-rest : goal.decreases-loop-rest
decreases-loop-rest l = length l.rest
