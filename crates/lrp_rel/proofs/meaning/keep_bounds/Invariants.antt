-- The bounds that were there, and then those of the written ones so far.
use Rattle.std.proofs.Common.{◌≡◌, ◌++◌, List, take}
use Rattle.std.specs.List.{flat_map}
use Rattle.indexmap.specs.IndexSet.{keys}
use Rattle.lrp_model.specs.DatabaseMeaning.{kept_bounds}
use Rattle.lrp_model.specs.declared.raw.RawColumn.{RawColumn}
use Rattle.lrp_rel.specs.Times.{AreTimePlaces}
use Rattle.lrp_rel.proofs.meaning.keep_bounds.Given as goal

abbrev pub invariant-loop-bound : goal.invariant-loop-bound
invariant-loop-bound l = (columns : List RawColumn) → AreTimePlaces columns (keys l.times) → l.bounds ≡ l.fn.bounds ++ flat_map (kept_bounds columns) (take l.bound-index l.written)
