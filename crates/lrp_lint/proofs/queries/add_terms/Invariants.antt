-- The terms so far.
use Rattle.std.proofs.Common.{◌≡◌, ◌++◌, take}
use Rattle.std.specs.Prelude.{flat_map}
use Rattle.lrp_lint.specs.Mentions.{mention_findings, term_mentions}
use Rattle.lrp_lint.proofs.queries.add_terms.Given as goal

abbrev pub invariant-loop-i : goal.invariant-loop-i
invariant-loop-i l = l.found.items ≡ l.fn.found.items ++ flat_map (mention_findings l.catalog) (term_mentions l.columns (take l.i l.terms))
