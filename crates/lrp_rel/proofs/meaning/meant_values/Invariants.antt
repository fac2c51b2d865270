-- The values so far are meant by those taken so far.
use Rattle.std.proofs.Common.{◌≡◌, ◌++◌, map}
use Rattle.std.specs.Vec.Iter.{into_iter_items}
use Rattle.lrp_model.specs.DatabaseMeaning.{value_of}
use Rattle.lrp_rel.proofs.meaning.meant_values.Given as goal

abbrev pub invariant-loop-value : goal.invariant-loop-value
invariant-loop-value l = record {
  all : l.yielded ++ into_iter_items l.value-iterator ≡ into_iter_items l.initial.value-iterator;
  meant : l.made.items ≡ map (λ v. value_of v.item) l.yielded;
}
