use Rattle.std.proofs.Common.{◌≡◌, map}
use Rattle.std.specs.List.{AllByRecursion}
use Rattle.lrp_model.specs.PrintedPages.{text_part}
use Rattle.lrp_model.specs.DataTexts.{IsDataText}
use Rattle.lrp_token.proofs.reading.read_texts.Given as goal

-- the values so far are those of the pieces so far
abbrev pub invariant-loop-part : goal.invariant-loop-part
invariant-loop-part l = record {
  can : (goal.iterator-loop-part).can_next l.part-iterator;
  finite : (goal.iterator-loop-part).is_finite l.part-iterator;
  spelled : map text_part l.texts ≡ map (λ x. x.now) l.yielded;
  fit : AllByRecursion IsDataText l.texts;
}
