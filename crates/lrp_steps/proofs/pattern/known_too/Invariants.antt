-- The numbers before this one are known too.
use Rattle.std.proofs.Common.{◌≡◌, ℕ, List, length}
use Rattle.lrp_steps.specs.Patterns.{AreKnown, AreNumbersAt}
use Rattle.lrp_steps.proofs.pattern.known_too.Given as goal

abbrev pub invariant-loop-i : goal.invariant-loop-i
invariant-loop-i l = record {
  size : length l.found ≡ 8;
  to : (texts : List ℕ) → AreKnown l.found texts → AreKnown l.initial.found texts × AreNumbersAt l.places l.numbers l.i texts;
  from : (texts : List ℕ) → AreKnown l.initial.found texts → AreNumbersAt l.places l.numbers l.i texts → AreKnown l.found texts;
}
