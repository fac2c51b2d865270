use Rattle.std.proofs.Common.{◌≡◌, ◌≤◌, ◌+◌, ◌++◌, length}
use Rattle.std.specs.Prelude.{◌≤ℤ◌, neg_ℤ, pos}
use Rattle.std.specs.List.{AllByRecursion}
use Rattle.lrp_model.specs.Limits.{greatest_number}
use Rattle.lrp_theory.specs.Entries.{entry}
use Rattle.lrp_answer_text.specs.AnswerText.{bounds_in_row}
use Rattle.lrp_answer_text.proofs.closures.push_row.Given as goal

-- the bounds of the columns so far were pushed
abbrev pub invariant-loop-column : goal.invariant-loop-column
invariant-loop-column l = record {
  bounds : l.bounds ≡ l.fn.bounds ++ bounds_in_row l.column (entry l.closed.cells) l.row;
  few : length l.bounds ≤ length l.fn.bounds + l.column;
  small : AllByRecursion (λ b. neg_ℤ (pos greatest_number) ≤ℤ b.most) l.fn.bounds → AllByRecursion (λ b. neg_ℤ (pos greatest_number) ≤ℤ b.most) l.bounds;
}
