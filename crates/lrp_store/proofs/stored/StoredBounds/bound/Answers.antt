-- What is listed for a place stands there in the table.
use Rattle.std.proofs.Common.{None, get_or, ap, sym, ◌∙◌}
use Rattle.lrp_store.specs.Stored.{bounds_of, listed_at}
use Rattle.lrp_store.proofs.Listed.{get_or-table_of}
use Rattle.lrp_store.proofs.stored.StoredBounds.bound.Goals as goal

pub returns : goal.returns
returns c =
    c.bound_in.ensures ∙ ap (λ es. listed_at (bounds_of es) c.args.place) c.as_slice.ensures
    ∙ sym (get_or-table_of (bounds_of c.self.inside.entries.items) c.args.place c.requires) ∙ ap (λ t. get_or t c.args.place None) c.self.view_is
