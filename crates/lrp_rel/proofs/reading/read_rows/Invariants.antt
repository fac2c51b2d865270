use Rattle.std.proofs.Common.{◌<◌, ◌≤◌, ℕ, length}
use Rattle.lrp_model.specs.declared.tokens.Symbol.TheVariants.{CloseBrace}
use Rattle.lrp_text.specs.Taking.{is_symbol, located}
use Rattle.lrp_rel.specs.Rules.{row}
use Rattle.lrp_rel.specs.Gathered.{IsBodyOf}
use Rattle.lrp_rel.proofs.KeptTurns.{KeptTurn}
use Rattle.lrp_rel.proofs.reading.read_rows.Given as goal

-- those so far are kept, and with those that follow are the rule's
abbrev pub invariant-rows : goal.invariant-rows
invariant-rows l = record {
  same : (turns : ℕ) → length l.fn.tokens < turns → KeptTurn (located (row turns)) (is_symbol CloseBrace) (IsBodyOf l.heading) turns l.fn.tokens l.tokens l.body;
  shorter : length l.tokens ≤ length l.fn.tokens;
}

abbrev pub decreases-rows : goal.decreases-rows
decreases-rows l = length l.tokens
