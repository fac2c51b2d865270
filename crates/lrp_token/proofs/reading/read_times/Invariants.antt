use Rattle.std.proofs.Common.{◌≡◌, map}
use Rattle.std.specs.List.{AllByRecursion}
use Rattle.std.specs.Fmt.{signed_decimal}
use Rattle.lrp_model.specs.PrintedPages.{IsSmall}
use Rattle.lrp_token.proofs.reading.read_times.Given as goal

-- the values so far are those of the pieces so far
abbrev pub invariant-loop-part : goal.invariant-loop-part
invariant-loop-part l = record {
  can : (goal.iterator-loop-part).can_next l.part-iterator;
  finite : (goal.iterator-loop-part).is_finite l.part-iterator;
  spelled : map signed_decimal l.times ≡ map (λ x. x.now) l.yielded;
  fit : AllByRecursion IsSmall l.times;
}
