-- The texts among the terms so far.
use Rattle.std.specs.Prelude.{All}
use Rattle.lrp_steps.specs.Rows.{IsAskedText}
use Rattle.lrp_steps.proofs.asked.asked_texts.Given as goal

abbrev pub invariant-loop-place : goal.invariant-loop-place
invariant-loop-place l = All (IsAskedText l.terms) l.asked.items
