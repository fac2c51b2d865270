-- A name that is new is joined, and one that is there is not.
use Rattle.std.proofs.Common.{◌≡◌, ◌<◌, ◌+◌, drop, length, get_or, subst, ap, ◌∙◌}
use Rattle.lrp_tables.specs.Columns.{joint}
use Rattle.lrp_tables.proofs.Joining.{joint_one_more, joint_none_more, by_none, by_some}
use Rattle.lrp_tables.proofs.names.joint.Goals as goal
use Rattle.lrp_tables.proofs.names.joint.Goals.{then-is_none+in_ok-copy+in_ok-push, else-is_none}

pub loop-name-preserved : goal.loop-name-preserved
loop-name-preserved c =
    let low : c.loop-name.name-index < length c.args.more.now = subst (λ l. c.loop-name.name-index < length l) c.as_slice-name-items.ensures c.loop-name-test.true in
    let is : c.name-item.result ≡ get_or c.args.more.now c.loop-name.name-index c.name-item.result = c.name-item.is ∙ ap (λ l. get_or l c.loop-name.name-index c.name-item.result) c.as_slice-name-items.ensures in
    let same : joint c.if-is_none.made (drop (c.loop-name.name-index + 1) c.args.more.now) ≡ joint c.loop-name.made (drop c.loop-name.name-index c.args.more.now) = elim c.if-is_none.branch [
      | then-is_none+in_ok-copy+in_ok-push w ↦ rw w.made-is
          (joint_one_more c.loop-name.made w.push.new.self c.args.more.now c.loop-name.name-index c.name-item.result w.in_ok-copy.field-0 low is
          (by_none c.place_of.result c.loop-name.made c.name-item.result c.is_none.result c.is_none.ensures w.if-is_none.true c.place_of.ensures.none) w.in_ok-copy.ensures w.in_ok-push.ensures.ok)
      | else-is_none w ↦ rw w.made-is
          (joint_none_more c.loop-name.made c.args.more.now c.loop-name.name-index c.name-item.result low is (by_some c.place_of.result c.loop-name.made c.name-item.result c.is_none.result c.is_none.ensures w.if-is_none.false c.place_of.ensures.some))
    ] in
    same ∙ c.loop-name.invariant
