-- A row for each text so far.
use Rattle.std.proofs.Common.{◌≡◌, map, take}
use Rattle.lrp_eval.specs.Running.{text_row}
use Rattle.lrp_eval.proofs.sorting.relation_of.Given as goal

abbrev pub invariant-loop-text : goal.invariant-loop-text
invariant-loop-text l = l.rows ≡ map text_row (take l.text-index l.text-items)
