use Rattle.std.proofs.Common.{◌≡◌, ◌+◌, ◌≤◌, take}
use Rattle.lrp_wide.specs.Inlining.{star_total}
use Rattle.lrp_wide.specs.Sizes.{compared_total}
use Rattle.lrp_wide.proofs.measures.terms_of.Given as goal

-- the terms so far
abbrev pub invariant-loop-term : goal.invariant-loop-term
invariant-loop-term l = record {
  stars : l.found.stars ≡ star_total l.columns (take l.term-index l.beside);
  compared : l.found.compared ≡ compared_total l.columns (take l.term-index l.beside);
  few : l.found.stars + l.found.compared ≤ l.term-index;
}
