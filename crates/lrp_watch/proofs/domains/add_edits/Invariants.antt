use Rattle.std.proofs.Common.{◌≡◌, ◌++◌, take}
use Rattle.std.specs.Prelude.{flat_map}
use Rattle.lrp_watch.specs.Watching.{row_texts_of}
use Rattle.lrp_watch.proofs.domains.add_edits.Given as goal

-- those of the edits so far were added
abbrev pub invariant-loop-edit : goal.invariant-loop-edit
invariant-loop-edit l = l.all.items ≡ l.fn.all.items ++ flat_map row_texts_of (take l.edit-index l.edits)
