use Rattle.std.proofs.Common.{◌≡◌, ◌<◌, ◌≤◌, ℕ, [], length}
use Rattle.lrp_model.specs.declared.tokens.Symbol.TheVariants.{Comma}
use Rattle.lrp_text.specs.Parsers.{separated_from}
use Rattle.lrp_text.specs.Taking.{is_symbol, name}
use Rattle.lrp_query.specs.Grammars.{names_and_places}
use Rattle.lrp_query.proofs.binders.read_names.Given as goal

-- those so far and those that follow are the rule's
abbrev pub invariant-loop-names : goal.invariant-loop-names
invariant-loop-names l = record {
  same : (turns : ℕ) → length l.fn.tokens < turns → (n : ℕ) × (length l.tokens < n) × (separated_from name (is_symbol Comma) n (names_and_places l.names) l.tokens ≡ separated_from name (is_symbol Comma) turns [] l.fn.tokens);
  shorter : length l.tokens ≤ length l.fn.tokens;
}

abbrev pub decreases-loop-names : goal.decreases-loop-names
decreases-loop-names l = length l.tokens
