-- The number is that of the column among the terms that are left.
use Rattle.std.proofs.Common.{◌≡◌, drop}
use Rattle.lrp_theory.specs.Entries.{node}
use Rattle.lrp_model.specs.Satisfaction.{Assignment}
use Rattle.lrp_steps.specs.Rows.{term_times}
use Rattle.lrp_steps.proofs.row_bounds.side_at.Given as goal

abbrev pub invariant-loop-term : goal.invariant-loop-term
invariant-loop-term l = (env : Assignment) → node (term_times env l.terms) l.place ≡ node (term_times env (drop l.term-index l.terms)) l.left
