-- The first spans are counted.
use Rattle.std.proofs.Common.{◌≡◌, take}
use Rattle.std.specs.Prelude.{sum_by}
use Rattle.lrp_canon.specs.Counting.{capped_count, turns_of}
use Rattle.lrp_canon.proofs.counting.numbers_of.Given as goal

abbrev pub invariant-loop-span : goal.invariant-loop-span
invariant-loop-span l = l.count ≡ capped_count (sum_by turns_of (take l.span-index l.spans))
