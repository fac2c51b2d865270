use Rattle.std.proofs.Common.{◌<◌, ◌≤◌, ℕ, length}
use Rattle.lrp_text.specs.Taking.{is_end}
use Rattle.lrp_edits.specs.EditRules.{edit}
use Rattle.lrp_edits.specs.EditGathered.{AreEditsOf}
use Rattle.lrp_rel.proofs.KeptTurns.{KeptTurn}
use Rattle.lrp_edits.proofs.reading.read_all.Given as goal

-- those so far are kept, and with those that follow are the rule's
abbrev pub invariant-edits : goal.invariant-edits
invariant-edits l = record {
  same : (turns : ℕ) → length l.fn.tokens < turns → KeptTurn (edit turns) is_end (AreEditsOf l.database) turns l.fn.tokens l.tokens l.kept;
  shorter : length l.tokens ≤ length l.fn.tokens;
}

abbrev pub decreases-edits : goal.decreases-edits
decreases-edits l = length l.tokens
