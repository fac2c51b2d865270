use Rattle.std.proofs.Common.{◌≡◌, ◌+◌, ◌<◌, ◌^◌, length, false}
use Rattle.lrp_model.specs.Lexing.{skip}
use Rattle.lrp_text.proofs.bytes.skip.Given as goal

-- going on from here gives the same, and the places stay in range
abbrev pub invariant-loop-rest : goal.invariant-loop-rest
invariant-loop-rest l = record { same : skip l.comment l.at l.rest ≡ skip false l.fn.place l.fn.bytes; line : l.at.line + length l.rest < 2 ^ 32; column : l.at.column + length l.rest < 2 ^ 32 }

abbrev pub decreases-loop-rest : goal.decreases-loop-rest
decreases-loop-rest l = length l.rest
