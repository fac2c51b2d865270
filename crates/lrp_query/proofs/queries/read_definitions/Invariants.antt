use Rattle.std.proofs.Common.{◌≡◌, ◌<◌, ◌≤◌, ℕ, [], map, length}
use Rattle.lrp_query.specs.Rules.{definitions_from}
use Rattle.lrp_query.specs.Grammars.{meant, wide_after, read_definition_of}
use Rattle.lrp_query.proofs.queries.read_definitions.Given as goal

-- those so far and those that follow are the rule's
abbrev pub invariant-loop-alloc : goal.invariant-loop-alloc
invariant-loop-alloc l = record {
  same : (turns : ℕ) → length l.fn.tokens < turns → (n : ℕ) × (length l.tokens < n) × (definitions_from meant wide_after n turns (map read_definition_of l.found.items) l.tokens ≡ definitions_from meant wide_after turns turns [] l.fn.tokens);
  shorter : length l.tokens ≤ length l.fn.tokens;
}

abbrev pub decreases-loop-alloc : goal.decreases-loop-alloc
decreases-loop-alloc l = length l.tokens
