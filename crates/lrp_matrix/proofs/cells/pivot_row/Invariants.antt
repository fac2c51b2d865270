-- The bounds of the row before column j are lowered, and nothing else is written.
use Rattle.std.proofs.Common.{◌≡◌, ◌≢◌, ◌<◌, ◌≤◌, ℕ}
use Rattle.lrp_theory.specs.Entries.{entry, IsThrough}
use Rattle.lrp_matrix.proofs.cells.pivot_row.Given as goal

abbrev pub invariant-loop-j : goal.invariant-loop-j
invariant-loop-j l = record {
  done : (q : ℕ) → q < l.j → IsThrough l.initial.cells l.k l.cells l.i q;
  left : (q : ℕ) → l.j ≤ q → q < 9 → entry l.cells l.i q ≡ entry l.initial.cells l.i q;
  others : (p q : ℕ) → q < 9 → p ≢ l.i → entry l.cells p q ≡ entry l.initial.cells p q;
}
