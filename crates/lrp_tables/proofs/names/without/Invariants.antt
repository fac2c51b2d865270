-- Those so far but the name are kept.
use Rattle.std.proofs.Common.{◌≡◌, take}
use Rattle.lrp_tables.proofs.names.without.Given as goal
use Rattle.lrp_model.specs.Texts.{without}

abbrev pub invariant-loop-other : goal.invariant-loop-other
invariant-loop-other l = l.kept ≡ without l.name (take l.other-index l.names)
