-- Zone after zone, all that the store holds is added.
use Rattle.std.proofs.Common.{◌∙◌, rules, subst, sym}
use Rattle.lrp_tables.specs.Pieces.{pieces_from}
use Rattle.lrp_tables.proofs.Pieced.{one_given}
use Rattle.lrp_steps.proofs.Likeness.{IsTaking, copied_added, pieces_of, entries_pieces, taking_none, taking_fits, taking_more, taking_refused, taken_all}
use Rattle.lrp_steps.proofs.alike.add_zones.Goals as goal

pub returns-then-can_be_copied-clause-ok : goal.returns-then-can_be_copied-clause-ok
returns-then-can_be_copied-clause-ok c = copied_added c.args.store.now c.args.out.now c.in_ok-copied.copied c.requires.held c.requires.valid c.requires.shape c.requires.period (c.can_be_copied.ensures.none (search rules)) c.in_ok-copied.ensures.value c.args.cap (c.can_be_copied.ensures.few (search rules))

pub loop-cell-init : goal.loop-cell-init
loop-cell-init c = taking_none c.args.store.now c.args.out.now c.requires.held c.requires.valid c.requires.shape c.requires.period c.args.cap _ (entries_pieces c.args.store.now c.requires.held _ (c.into_iter-cell-iterator.ensures.into_iter_gives ∙ c.entries-cell-items.ensures.value))

pub loop-zone-init : goal.loop-zone-init
loop-zone-init c =
    subst (λ l. IsTaking c.args.store.now c.args.cap c.args.out.now c.loop-cell.out (pieces_from c.in-Some.cell l c.next.new.self)) (sym c.into_iter-zone-iterator.ensures.into_iter_gives)
    (subst (λ l. IsTaking c.args.store.now c.args.cap c.args.out.now c.loop-cell.out (pieces_of l)) c.in-Some.ensures.steps c.loop-cell.invariant)

pub add_new-requires-clause-period : goal.add_new-requires-clause-period
add_new-requires-clause-period c = (taking_fits c.args.store.now c.args.out.now c.requires.held c.requires.valid c.requires.shape c.requires.period c.args.cap c.loop-zone.out _ _ (record { cell = c.in-Some.cell; zone = c.in-Some-zone.zone }) (one_given c.in-Some.cell c.in-Some-zone.zone c.next-in-loop-zone.new.self c.loop-zone.zone-iterator c.next.new.self c.in-Some-zone.ensures.steps) c.loop-zone.invariant).period_is

pub add_new-requires-clause-residues : goal.add_new-requires-clause-residues
add_new-requires-clause-residues c = (taking_fits c.args.store.now c.args.out.now c.requires.held c.requires.valid c.requires.shape c.requires.period c.args.cap c.loop-zone.out _ _ (record { cell = c.in-Some.cell; zone = c.in-Some-zone.zone }) (one_given c.in-Some.cell c.in-Some-zone.zone c.next-in-loop-zone.new.self c.loop-zone.zone-iterator c.next.new.self c.in-Some-zone.ensures.steps) c.loop-zone.invariant).residues

pub add_new-requires-clause-texts : goal.add_new-requires-clause-texts
add_new-requires-clause-texts c = (taking_fits c.args.store.now c.args.out.now c.requires.held c.requires.valid c.requires.shape c.requires.period c.args.cap c.loop-zone.out _ _ (record { cell = c.in-Some.cell; zone = c.in-Some-zone.zone }) (one_given c.in-Some.cell c.in-Some-zone.zone c.next-in-loop-zone.new.self c.loop-zone.zone-iterator c.next.new.self c.in-Some-zone.ensures.steps) c.loop-zone.invariant).cell.texts

pub add_new-requires-clause-times : goal.add_new-requires-clause-times
add_new-requires-clause-times c = (taking_fits c.args.store.now c.args.out.now c.requires.held c.requires.valid c.requires.shape c.requires.period c.args.cap c.loop-zone.out _ _ (record { cell = c.in-Some.cell; zone = c.in-Some-zone.zone }) (one_given c.in-Some.cell c.in-Some-zone.zone c.next-in-loop-zone.new.self c.loop-zone.zone-iterator c.next.new.self c.in-Some-zone.ensures.steps) c.loop-zone.invariant).cell.residues

pub loop-zone-preserved : goal.loop-zone-preserved
loop-zone-preserved c = taking_more c.args.store.now c.args.out.now c.requires.held c.requires.valid c.requires.shape c.requires.period c.args.cap c.loop-zone.out _ _ (record { cell = c.in-Some.cell; zone = c.in-Some-zone.zone }) (one_given c.in-Some.cell c.in-Some-zone.zone c.next-in-loop-zone.new.self c.loop-zone.zone-iterator c.next.new.self c.in-Some-zone.ensures.steps) c.loop-zone.invariant c.add_new.new.self c.in-Ok.ensures.ok

pub loop-cell-preserved : goal.loop-cell-preserved
loop-cell-preserved c = subst (λ l. IsTaking c.args.store.now c.args.cap c.args.out.now c.loop-zone.out (pieces_from c.in-Some.cell l c.next.new.self)) c.in-None-zone.ensures.steps.0 c.loop-zone.invariant

pub returns-clause-ok : goal.returns-clause-ok
returns-clause-ok c = taken_all c.args.store.now c.args.out.now c.requires.held c.requires.valid c.requires.shape c.requires.period c.args.cap c.loop-cell.out (subst (λ l. IsTaking c.args.store.now c.args.cap c.args.out.now c.loop-cell.out (pieces_of l)) c.in-None.ensures.steps.0 c.loop-cell.invariant)

pub returns-in-Err-clause-too_many : goal.returns-in-Err-clause-too_many
returns-in-Err-clause-too_many c = λ e. taking_refused c.args.store.now c.args.out.now c.requires.held c.requires.valid c.requires.shape c.requires.period c.args.cap c.loop-zone.out _ _ (record { cell = c.in-Some.cell; zone = c.in-Some-zone.zone }) (one_given c.in-Some.cell c.in-Some-zone.zone c.next-in-loop-zone.new.self c.loop-zone.zone-iterator c.next.new.self c.in-Some-zone.ensures.steps) c.loop-zone.invariant c.add_new.new.self (c.in-Err.ensures.too_many e)
