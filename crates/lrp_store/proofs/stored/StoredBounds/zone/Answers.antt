-- A zone is made again of its table.
use Rattle.std.proofs.Common.{sym, ap, subst, ◌∙◌}
use Rattle.lrp_zone.specs.Zones.{IsZone}
use Rattle.lrp_store.specs.Stored.{bounds_of, AreListed}
use Rattle.lrp_store.proofs.Written.{shown_table, with_table, zone_small}
use Rattle.lrp_store.proofs.stored.StoredBounds.zone.Goals as goal

pub written-requires-clause-listed : goal.written-requires-clause-listed
written-requires-clause-listed c = subst (λ es. AreListed (bounds_of es)) (sym c.as_slice.ensures) c.self.invariant

pub written-requires-clause-small : goal.written-requires-clause-small
written-requires-clause-small c = zone_small c.args.period c.args.residues.now c.args.self.now c.self.inside.entries.items c.as_slice.result.now c.as_slice.ensures c.self.invariant c.self.view_is c.requires

pub of_table-requires : goal.of_table-requires
of_table-requires c =
    subst (λ t. IsZone (with_table c.args.period c.args.residues.now t)) (sym (shown_table c.written.result c.args.self.now c.self.inside.entries.items c.as_slice.result.now c.as_slice.ensures c.written.ensures c.self.view_is)) c.requires

pub returns : goal.returns
returns c = c.of_table.ensures ∙ ap (with_table c.args.period c.args.residues.now) (shown_table c.written.result c.args.self.now c.self.inside.entries.items c.as_slice.result.now c.as_slice.ensures c.written.ensures c.self.view_is)
