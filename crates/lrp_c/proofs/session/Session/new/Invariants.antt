-- The files so far.
use Rattle.std.proofs.Common.{◌≡◌}
use Rattle.lrp_c.proofs.session.Session.new.Given as goal

abbrev pub invariant-loop-file : goal.invariant-loop-file
invariant-loop-file l = record { so_far : l.kept ≡ l.yielded }
