use Rattle.std.proofs.Common.{◌<◌, ◌≤◌, ℕ, length}
use Rattle.lrp_text.specs.Taking.{is_end}
use Rattle.lrp_rel.specs.Rules.{relation}
use Rattle.lrp_rel.specs.Gathered.{AreRelationsGathered}
use Rattle.lrp_rel.proofs.KeptTurns.{KeptTurn}
use Rattle.lrp_rel.proofs.reading.read_relations.Given as goal

-- those so far are kept, and with those that follow are the rule's
abbrev pub invariant-relations : goal.invariant-relations
invariant-relations l = record {
  same : (turns : ℕ) → length l.fn.tokens < turns → KeptTurn (relation turns) is_end AreRelationsGathered turns l.fn.tokens l.tokens l.gathered;
  shorter : length l.tokens ≤ length l.fn.tokens;
}

abbrev pub decreases-relations : goal.decreases-relations
decreases-relations l = length l.tokens
