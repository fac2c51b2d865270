use Rattle.std.proofs.Common.{◌+◌, ◌*◌}
use Rattle.lrp_model.specs.RawQueries.{raw_form_of, raw_forms_of}
use Rattle.lrp_wide.specs.Limits.{depth_of, depth_of_each}
use Rattle.lrp_wide.proofs.InPlace.{AreWrittenTo}
use Rattle.lrp_wide.proofs.inlining.+writing.Given as goal

abbrev pub decreases-write_out : goal.decreases-write_out
decreases-write_out l = 2 * depth_of (raw_form_of l.f.now)

abbrev pub decreases-write_each_out : goal.decreases-write_each_out
decreases-write_each_out l = 2 * depth_of_each (raw_forms_of l.fs.now.items) + 1

-- the formulas so far are written out, and the others are as they were
abbrev pub invariant-write_each_out-loop-i : goal.invariant-write_each_out-loop-i
invariant-write_each_out-loop-i l = record {
  others : goal.unvisited-write_each_out-loop-i l;
  so_far : AreWrittenTo l.scene l.initial.fs.items l.i l.fs.items;
}
