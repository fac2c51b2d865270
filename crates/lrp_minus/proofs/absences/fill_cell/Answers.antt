-- A cell that is not held is added whole, and one that is held whole leaves nothing.
use Rattle.std.proofs.Common.{◌≡◌, ◌∷◌, ◌+◌, ◌*◌, sym, subst, ◌∙◌, refl, arith, length, take}
use Rattle.std.specs.Prelude.{Contains}
use Rattle.lrp_store.specs.Stores.{zones_at}
use Rattle.lrp_minus.proofs.EmptyCells.{no_table, nothing_added, proper_there, whole_absent, whole_absent_refused, whole_leaves}
use Rattle.lrp_cutting.proofs.Lists.{on_ok}
use Rattle.lrp_cutting.specs.Thresholds.{pairs_below}
use Rattle.lrp_minus.proofs.Growth.{grows_by_none, grows_within, one_at_least}
use Rattle.lrp_minus.proofs.absences.fill_cell.Goals as goal

pub returns-then-is_remembered-clause-ok : goal.returns-then-is_remembered-clause-ok
returns-then-is_remembered-clause-ok c = λ high r.
    whole_leaves c.args.absences.now.store.now c.requires.fill.store c.args.cell.now c.requires.chosen (c.is_remembered.ensures.held c.if-is_remembered.true) c.args.out.now c.requires.fill.valid c.args.absences.now.cap (high + 2 * c.args.absences.now.store.now.period)

pub add_whole-requires : goal.add_whole-requires
add_whole-requires c = record { proper = proper_there c.args.absences.now.store.now c.requires.fill.store c.args.cell.now c.requires.chosen (no_table c.args.absences.now.store.now c.args.cell.now (sym c.zones_of.ensures ∙ c.in_default.ensures.steps.0)) c.args.out.now c.requires.fill.like }

pub returns-in_default-clause-ok : goal.returns-in_default-clause-ok
returns-in_default-clause-ok c = on_ok _ _ c.add_whole.result
    (λ a high r. whole_absent c.args.absences.now.store.now c.requires.fill.store c.args.cell.now c.requires.chosen (no_table c.args.absences.now.store.now c.args.cell.now (sym c.zones_of.ensures ∙ c.in_default.ensures.steps.0)) c.args.out.now c.requires.fill.like c.args.absences.now.cap (high + 2 * c.args.absences.now.store.now.period) c.requires.fill.valid c.add_whole.new.self a)
    c.add_whole.ensures.ok

pub returns-in_default-clause-refused : goal.returns-in_default-clause-refused
returns-in_default-clause-refused c = λ e high r. whole_absent_refused c.args.absences.now.store.now c.requires.fill.store c.args.cell.now c.requires.chosen (no_table c.args.absences.now.store.now c.args.cell.now (sym c.zones_of.ensures ∙ c.in_default.ensures.steps.0)) c.args.out.now c.requires.fill.like c.args.absences.now.cap (high + 2 * c.args.absences.now.store.now.period) c.requires.fill.valid c.add_whole.new.self (c.add_whole.ensures.too_many e)

pub returns-in-Everything-clause-ok : goal.returns-in-Everything-clause-ok
returns-in-Everything-clause-ok c =
    let listed : zones_at c.args.absences.now.store.now c.args.cell.now ≡ c.in-Some.zone ∷ c.next.new.self = sym c.zones_of.ensures ∙ c.in-Some.ensures.steps in
    λ high r. nothing_added c.args.absences.now.store.now c.requires.fill.store c.args.cell.now c.requires.chosen c.in-Some.zone (subst (λ l. Contains l c.in-Some.zone) (sym listed) (0, omega arith, refl)) (c.in-Everything.ensures.everything refl)
    c.args.out.now c.requires.fill.valid c.args.absences.now.cap (high + 2 * c.args.absences.now.store.now.period)

pub returns-then-is_remembered-clause-few : goal.returns-then-is_remembered-clause-few
returns-then-is_remembered-clause-few c = grows_within 0 _ c.args.cell.now c.args.out.now c.args.out.now (omega arith) (grows_by_none c.args.cell.now c.args.out.now)

pub returns-in-Everything-clause-few : goal.returns-in-Everything-clause-few
returns-in-Everything-clause-few c = grows_within 0 _ c.args.cell.now c.args.out.now c.args.out.now (omega arith) (grows_by_none c.args.cell.now c.args.out.now)

pub returns-in_default-clause-few : goal.returns-in_default-clause-few
returns-in_default-clause-few c = on_ok _ _ c.add_whole.result (λ g. grows_within 1 _ c.args.cell.now c.args.out.now c.add_whole.new.self
    (one_at_least c.args.absences.now.store.now.period (zones_at c.args.absences.now.store.now c.args.cell.now) (pairs_below (length (take c.args.absences.now.store.now.shape.times c.args.cell.now.residues) + 1))) g) c.add_whole.ensures.one
