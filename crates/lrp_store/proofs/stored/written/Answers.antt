-- Each turn writes one entry.
use Rattle.std.proofs.Common.{refl, sym, ap, subst, arith, Some, get_or, to_z, of_z, ◌<◌}
use Rattle.std.specs.Int.{w64}
use Rattle.lrp_zone.specs.Numbers.{FitsNumber}
use Rattle.lrp_zone.proofs.Stands.{stands_small}
use Rattle.lrp_store.specs.Stored.{bound_with, bounds_of}
use Rattle.lrp_store.proofs.Written.{nothing, written_none, entry_low, entry_small, entry_word, entry_written, entries_written}
use Rattle.lrp_store.proofs.stored.written.Goals as goal

pub loop-entry-init : goal.loop-entry-init
loop-entry-init c = written_none (bounds_of c.args.entries.now) _ c.free-table.ensures

pub set-requires-clause-place : goal.set-requires-clause-place
set-requires-clause-place c =
    let low : (get_or c.args.entries.now c.loop-entry.entry-index nothing).place < 81 = entry_low c.args.entries.now c.loop-entry.entry-index c.requires.listed (omega arith) in
    omega (arith, low, c.from.ensures)

pub set-requires-clause-stands : goal.set-requires-clause-stands
set-requires-clause-stands c =
    subst (λ m. FitsNumber (Some m)) (sym (entry_word c.args.entries.now c.loop-entry.entry-index c.most.result c.requires.small (omega arith) c.most.ensures))
    (stands_small (Some (bound_with (get_or c.args.entries.now c.loop-entry.entry-index nothing)).most) (entry_small c.args.entries.now c.loop-entry.entry-index c.requires.small (omega arith)))

pub loop-entry-preserved : goal.loop-entry-preserved
loop-entry-preserved c =
    entry_written c.args.entries.now c.loop-entry.entry-index (get_or c.args.entries.now c.loop-entry.entry-index nothing) _ (Some (to_z w64 (of_z w64 c.most.result))) c.loop-entry.table _ c.requires.listed (omega arith) refl
    c.from.ensures (ap Some (entry_word c.args.entries.now c.loop-entry.entry-index c.most.result c.requires.small (omega arith) c.most.ensures)) c.set.ensures.value c.loop-entry.invariant

pub returns : goal.returns
returns c = entries_written c.args.entries.now c.loop-entry.entry-index c.loop-entry.table c.requires.listed (omega arith) c.loop-entry.invariant
