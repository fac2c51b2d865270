-- The entries so far are written.
use Rattle.lrp_store.specs.Stored.{bounds_of}
use Rattle.lrp_store.proofs.Written.{IsWritten}
use Rattle.lrp_store.proofs.stored.written.Given as goal

abbrev pub invariant-loop-entry : goal.invariant-loop-entry
invariant-loop-entry l = IsWritten (bounds_of l.entries) l.entry-index l.table
