-- The entries of all places stand for the zone.
use Rattle.std.proofs.Common.{◌+◌, ◌∙◌, ap, arith, subst, sym}
use Rattle.lrp_packed.specs.Entries.{ArePacked}
use Rattle.lrp_packed.proofs.Listed.{AreFirst, all_first, first_none, first_pass, first_push}
use Rattle.lrp_packed.proofs.zones.entries_of.Goals as goal
use Rattle.lrp_packed.proofs.zones.entries_of.Goals.{in-Some+in_ok-push, in_default}

pub loop-place-init : goal.loop-place-init
loop-place-init c = first_none c.args.cell.now c.args.bounds.now _ c.new-entries.ensures.items

pub loop-place-preserved : goal.loop-place-preserved
loop-place-preserved c = elim c.match-entry_at.branch [
  | in-Some+in_ok-push w ↦ subst (λ es. AreFirst c.args.cell.now c.args.bounds.now (c.loop-place.place + 1) es) (sym (ap (λ e. e.items) w.entries-is ∙ w.in_ok-push.ensures.ok)) (first_push c.args.cell.now c.args.bounds.now c.loop-place.place c.loop-place.entries.items w.in-Some.entry w.in-Some.ensures.is w.in-Some.ensures.proper c.loop-place.invariant)
  | in_default w ↦ subst (λ e. AreFirst c.args.cell.now c.args.bounds.now (c.loop-place.place + 1) e.items) (sym w.entries-is) (first_pass c.args.cell.now c.args.bounds.now c.loop-place.place c.loop-place.entries.items w.in_default.ensures.is c.loop-place.invariant)
]

pub returns : goal.returns
returns c =
    subst (λ es. ArePacked c.args.cell.now c.args.bounds.now es) (sym c.shrink_to_fit.ensures.items)
    (all_first c.args.cell.now c.args.bounds.now c.loop-place.place c.loop-place.entries.items (omega (arith, c.loop-place.auto.place-end, c.loop-place-test.false)) c.requires c.loop-place.invariant)
