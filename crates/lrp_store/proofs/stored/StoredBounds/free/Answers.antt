-- No entry is a table without bounds.
use Rattle.std.proofs.Common.{ap, ◌∙◌}
use Rattle.lrp_store.specs.Stored.{bounds_of, table_of}
use Rattle.lrp_store.proofs.Looser.{free_table}
use Rattle.lrp_store.proofs.stored.StoredBounds.free.Goals as goal

pub returns : goal.returns
returns c = ap (λ es. table_of (bounds_of es)) c.new.ensures.items ∙ free_table
