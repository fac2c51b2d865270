-- One more column is looked at.
use Rattle.std.proofs.Common.{◌+◌, ◌≤◌, ◌∙◌, ap, sym, subst, arith}
use Rattle.lrp_zone.specs.Zones.{columns_of}
use Rattle.lrp_cutting.specs.Leaving.{AreFromRow}
use Rattle.lrp_cutting.proofs.LeavingLaws.{row_pushed, row_skipped}
use Rattle.lrp_cutting.proofs.stored.push_row.Goals.{in-Some+in_ok-push, in_default}
use Rattle.lrp_cutting.proofs.stored.push_row.Goals as goal

pub loop-right-preserved : goal.loop-right-preserved
loop-right-preserved c =
    let high : c.loop-right.right ≤ columns_of c.args.zone.now = omega (arith, c.requires.nodes, c.loop-right-test.true) in
    elim c.match-bound.branch [
      | in-Some+in_ok-push w ↦ row_pushed c.args.zone.now c.requires.zone c.args.left c.loop-right.right _ _ c.from.ensures c.from-in-loop-right.ensures c.requires.row high c.args.made.now.items c.loop-right.made.items c.loop-right.invariant
          w.in-Some.most c.match-bound.made.items w.in-Some.ensures (ap (λ v. v.items) w.made-is ∙ w.in_ok-push.ensures.items)
      | in_default w ↦ subst (λ v. AreFromRow c.args.zone.now c.args.left (c.loop-right.right + 1) c.args.made.now.items v) (sym (ap (λ v. v.items) w.made-is))
          (row_skipped c.args.zone.now c.requires.zone c.args.left c.loop-right.right _ _ c.from.ensures c.from-in-loop-right.ensures c.requires.row high c.args.made.now.items c.loop-right.made.items c.loop-right.invariant w.in_default.ensures)
    ]
