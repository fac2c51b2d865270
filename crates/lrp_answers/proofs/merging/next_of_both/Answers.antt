-- The next spot is that of the one list or of the other, or of both.
use Rattle.std.proofs.Common.{◌<◌, inl, inr, Some, [], length, arith, refl, sym, ap, ◌∙◌}
use Rattle.std.specs.Prelude.{slice_index_or}
use Rattle.std.proofs.lemmas.Option.{slice_get-get_or}
use Rattle.lrp_model.specs.declared.tuples.Spot.{Spot}
use Rattle.lrp_answers.proofs.MergeLaws.{earlier_turned, next_other, same_spot}
use Rattle.lrp_answers.proofs.merging.next_of_both.Goals as goal

pub returns-in-Equal-clause-right : goal.returns-in-Equal-clause-right
returns-in-Equal-clause-right c =
    let none : Spot = record { times = []; texts = [] } in
    let right : c.args.j < length c.args.right.now = omega (arith, c.requires.right, c.if-j-right-2.false) in
    let same = same_spot (slice_index_or c.args.left.now c.args.i none) (slice_index_or c.args.right.now c.args.j none) (sym c.spot_order.ensures ∙ c.in-Equal.is) in
    inl (refl, slice_get-get_or c.args.right.now c.args.j none right ∙ ap Some (sym same))

pub returns-in-Equal-clause-here : goal.returns-in-Equal-clause-here
returns-in-Equal-clause-here c =
    let left : c.args.i < length c.args.left.now = omega (arith, c.requires.left, c.if-i-left.false) in
    inl (slice_get-get_or c.args.left.now c.args.i (record { times = []; texts = [] }) left)

pub returns-in-Greater-clause-left : goal.returns-in-Greater-clause-left
returns-in-Greater-clause-left c =
    let none : Spot = record { times = []; texts = [] } in
    let left : c.args.i < length c.args.left.now = omega (arith, c.requires.left, c.if-i-left.false) in
    let own = slice_index_or c.args.left.now c.args.i none in
    let other = slice_index_or c.args.right.now c.args.j none in
    next_other c.args.left.now c.args.i own (slice_get-get_or c.args.left.now c.args.i none left) other (earlier_turned own other (sym c.spot_order.ensures ∙ c.in-Greater.is))

pub returns-in-Greater-clause-right : goal.returns-in-Greater-clause-right
returns-in-Greater-clause-right c =
    let right : c.args.j < length c.args.right.now = omega (arith, c.requires.right, c.if-j-right-2.false) in
    inl (refl, slice_get-get_or c.args.right.now c.args.j (record { times = []; texts = [] }) right)

pub returns-in-Greater-clause-here : goal.returns-in-Greater-clause-here
returns-in-Greater-clause-here c =
    let right : c.args.j < length c.args.right.now = omega (arith, c.requires.right, c.if-j-right-2.false) in
    inr (slice_get-get_or c.args.right.now c.args.j (record { times = []; texts = [] }) right)
