use Rattle.std.proofs.Common.{◌*◌, ◌^◌}
use Rattle.std.specs.Prelude.{neg_ℤ}
use Rattle.lrp_theory.specs.Entries.{AtMost}
use Rattle.lrp_matrix.proofs.RangeLemmas.{Gives, FromLow, FromHigh}
use Rattle.lrp_matrix.proofs.ranges.ends.Given as goal

abbrev pub invariant-loop-p : goal.invariant-loop-p
invariant-loop-p l = record {
  low : Gives (FromLow l.cells l.i l.prefix) neg_ℤ l.p l.low;
  high : Gives (FromHigh l.cells l.i l.prefix) (λ v. v) l.p l.high;
  low_small : AtMost (9 * 2 ^ 62) l.low;
  high_small : AtMost (9 * 2 ^ 62) l.high;
}
