use Rattle.std.proofs.Common.{◌≡◌, take}
use Rattle.lrp_model.specs.RawQueries.{raw_forms_of}
use Rattle.lrp_model.proofs.raw_copies.+raw_copying.Given as goal

-- the copies so far are of the formulas so far
abbrev pub invariant-copy_each_raw-loop-f : goal.invariant-copy_each_raw-loop-f
invariant-copy_each_raw-loop-f l = raw_forms_of l.all.items ≡ raw_forms_of (take l.f-index l.fs)
