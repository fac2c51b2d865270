-- The rows above, and this row so far, have their paths; nothing stands outside.
use Rattle.std.proofs.Common.{◌<◌, ℕ}
use Rattle.lrp_theory.specs.Entries.{entry}
use Rattle.lrp_zone.specs.Zones.{IsEmptyFrom}
use Rattle.lrp_zone.specs.Columns.{IsPath}
use Rattle.lrp_zone.proofs.columns.without.Given as goal

abbrev pub invariant-loop-q : goal.invariant-loop-q
invariant-loop-q l = record {
  above : (r s : ℕ) → r < l.p → s < l.n → IsPath l.bounds l.k r s (entry l.out r s);
  here : (s : ℕ) → s < l.q → IsPath l.bounds l.k l.p s (entry l.out l.p s);
  outside : IsEmptyFrom l.n l.out;
}

abbrev pub invariant-loop-p : goal.invariant-loop-p
invariant-loop-p l = record {
  above : (r s : ℕ) → r < l.p → s < l.n → IsPath l.bounds l.k r s (entry l.out r s);
  outside : IsEmptyFrom l.n l.out;
}
