use Rattle.std.proofs.Common.{◌≡◌, ◌<◌, ◌≤◌, ℕ, [], ◌∷◌, length}
use Rattle.lrp_model.specs.declared.tokens.Symbol.TheVariants.{Comma}
use Rattle.lrp_text.specs.Parsers.{separated_from}
use Rattle.lrp_text.specs.Taking.{is_symbol}
use Rattle.lrp_query.specs.Rules.{raw_terms, argument}
use Rattle.lrp_query.proofs.terms.read_more_terms.Given as goal

-- those so far and those that follow are the rule's
abbrev pub invariant-loop-found : goal.invariant-loop-found
invariant-loop-found l = record {
  same : (turns : ℕ) → length l.fn.tokens < turns → (n : ℕ) × (length l.tokens < n) × (separated_from (argument l.fn.wide raw_terms) (is_symbol Comma) n l.found l.tokens ≡ separated_from (argument l.fn.wide raw_terms) (is_symbol Comma) turns (l.fn.first ∷ []) l.fn.tokens);
  shorter : length l.tokens ≤ length l.fn.tokens;
}

abbrev pub decreases-loop-found : goal.decreases-loop-found
decreases-loop-found l = length l.tokens
