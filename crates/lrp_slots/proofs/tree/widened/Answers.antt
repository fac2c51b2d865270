-- One key more has become a cell, after those before it.
use Rattle.std.proofs.Common.{◌++◌, ap, sym, ◌∙◌}
use Rattle.std.specs.BTreeMap.{insert_entry}
use Rattle.lrp_slots.specs.Lists.{cell_cmp}
use Rattle.lrp_slots.specs.Narrow.{wide_entries}
use Rattle.lrp_slots.proofs.Shortened.{one_widened, wide_line}
use Rattle.lrp_slots.proofs.tree.widened.Goals as goal

pub loop-entry-preserved : goal.loop-entry-preserved
loop-entry-preserved c =
    ap (λ es. es ++ wide_entries c.next.new.self) (c.in_ok-insert.ensures.entries ∙ ap (λ cell. insert_entry cell_cmp c.loop-entry.wide.entries cell c.in-Some.entry.1.now) c.cell.ensures)
    ∙ one_widened c.loop-entry.wide.entries (c.in-Some.entry.0.now, c.in-Some.entry.1.now) c.next.new.self (wide_entries c.args.narrow.now.entries) (wide_line c.args.narrow.now.entries c.iter-entry-items.ensures.ordered)
    (ap (λ es. c.loop-entry.wide.entries ++ wide_entries es) (sym c.in-Some.ensures.steps) ∙ c.loop-entry.invariant)
