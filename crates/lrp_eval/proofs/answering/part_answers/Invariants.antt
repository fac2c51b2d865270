-- Each table that is left stands under the head, and the answers so far are those of the tables so far.
use Rattle.std.specs.List.{AllByRecursion, AllZip}
use Rattle.std.specs.Vec.Iter.{into_iter_items}
use Rattle.lrp_eval.specs.Ending.{CanStandUnder, IsAnswerUnder}
use Rattle.lrp_eval.proofs.answering.part_answers.Given as goal

abbrev pub invariant-loop-table : goal.invariant-loop-table
invariant-loop-table l = record {
  left : AllByRecursion (λ table. CanStandUnder l.plan table.store) (into_iter_items l.table-iterator);
  under : AllZip (λ table. IsAnswerUnder l.plan table.store) l.yielded l.parts;
}
