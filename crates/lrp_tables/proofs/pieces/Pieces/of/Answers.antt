-- The zones of all cells are left.
use Rattle.std.proofs.Common.{sym, ◌∙◌}
use Rattle.lrp_tables.proofs.Pieced.{entries_are, first_are, entries_have, rest_have, none_have}
use Rattle.lrp_tables.proofs.pieces.Pieces.of.Goals as goal

pub invariant_of-result : goal.invariant_of-result
invariant_of-result c = rest_have c.in-Some.cell c.in-Some.zones c.next.new.self c.entries-entries.result c.in-Some.ensures.steps (entries_have c.args.store.now c.entries-entries.ensures.valid c.entries-entries.result c.entries-entries.ensures.value)

pub returns-in-Some : goal.returns-in-Some
returns-in-Some c = first_are c.args.store.now c.entries-entries.ensures.valid c.in-Some.cell c.in-Some.zones c.next.new.self c.entries-entries.result c.in-Some.ensures.steps c.entries-entries.ensures.value

pub invariant_of-result-2 : goal.invariant_of-result-2
invariant_of-result-2 c = none_have c.next.new.self c.in_default.ensures.steps.1

pub returns : goal.returns
returns c = entries_are c.args.store.now c.entries-entries.ensures.valid _ c.zones_of.result c.next.new.self c.zones_of.ensures (c.in_default.ensures.steps.1 ∙ sym c.in_default.ensures.steps.0 ∙ c.entries-entries.ensures.value)
