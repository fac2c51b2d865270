use Rattle.std.proofs.Common.{◌≡◌, ◌≤◌, ◌*◌, length}
use Rattle.std.specs.Prelude.{◌≤ℤ◌, neg_ℤ, pos}
use Rattle.std.specs.List.{AllByRecursion, flat_map, range_with_len}
use Rattle.lrp_model.specs.Limits.{greatest_number}
use Rattle.lrp_theory.specs.Entries.{entry}
use Rattle.lrp_answer_text.specs.AnswerText.{bounds_in_row}
use Rattle.lrp_answer_text.proofs.closures.bounds_of_all.Given as goal

-- the bounds of the rows so far were pushed
abbrev pub invariant-loop-row : goal.invariant-loop-row
invariant-loop-row l = record {
  bounds : l.bounds ≡ flat_map (bounds_in_row l.nodes (entry l.closed.cells)) (range_with_len 0 l.row);
  few : length l.bounds ≤ 9 * l.row;
  small : AllByRecursion (λ b. neg_ℤ (pos greatest_number) ≤ℤ b.most) l.bounds;
}
