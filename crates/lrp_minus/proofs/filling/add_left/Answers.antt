-- One more piece is added.
use Rattle.std.proofs.Common.{◌≡◌, ◌+◌, ◌∷◌, length, take, refl, sym, subst, ap, ◌∙◌, arith}
use Rattle.std.specs.Prelude.{Contains}
use Rattle.std.proofs.Math.Seq.{take-length}
use Rattle.std.proofs.lemmas.Result.{err_from_is_err_and}
use Rattle.lrp_cutting.specs.Differences.{greatest_reach}
use Rattle.lrp_minus.proofs.FillingLaws.{AreFilled, all_added, all_refused, filled_none, piece_period, piece_residues, piece_texts, piece_times, filled_more, filled_refused, filled_all}
use Rattle.lrp_cutting.proofs.Lists.{front_more, on_ok, read}
use Rattle.lrp_minus.proofs.Growth.{grows_by_none, grows_more, grows_within, one_at_least}
use Rattle.lrp_cutting.specs.Thresholds.{pairs_below}
use Rattle.lrp_minus.proofs.filling.add_left.Goals as goal

pub loop-piece-init : goal.loop-piece-init
loop-piece-init c = (filled_none c.args.zone.now c.args.cutters.now _ c.args.cap _ c.args.store.now c.requires.store, grows_by_none c.args.cell.now c.args.store.now)

pub add_new-requires-in-loop-piece-clause-period : goal.add_new-requires-in-loop-piece-clause-period
add_new-requires-in-loop-piece-clause-period c = piece_period c.args.zone.now c.args.cutters.now (take c.args.store.now.shape.texts c.args.cell.now.texts) c.args.cap (greatest_reach (c.args.zone.now ∷ c.args.cutters.now) + c.args.zone.now.period) c.args.store.now
    c.in_ok-left.left c.in_ok-left.ensures.left c.requires.place.period c.args.cell.now c.requires.place.residues c.requires.place.texts c.requires.place.times refl c.loop-piece.store _ c.loop-piece.invariant.0 c.piece-item.result
    (subst (λ l. Contains l c.piece-item.result) c.as_slice-piece-items.ensures (read _ _ _ c.loop-piece-test.true c.piece-item.is))

pub add_new-requires-in-loop-piece-clause-residues : goal.add_new-requires-in-loop-piece-clause-residues
add_new-requires-in-loop-piece-clause-residues c = piece_residues c.args.zone.now c.args.cutters.now (take c.args.store.now.shape.texts c.args.cell.now.texts) c.args.cap (greatest_reach (c.args.zone.now ∷ c.args.cutters.now) + c.args.zone.now.period) c.args.store.now
    c.in_ok-left.left c.in_ok-left.ensures.left c.requires.place.period c.args.cell.now c.requires.place.residues c.requires.place.texts c.requires.place.times refl c.loop-piece.store _ c.loop-piece.invariant.0 c.piece-item.result
    (subst (λ l. Contains l c.piece-item.result) c.as_slice-piece-items.ensures (read _ _ _ c.loop-piece-test.true c.piece-item.is))

pub add_new-requires-in-loop-piece-clause-texts : goal.add_new-requires-in-loop-piece-clause-texts
add_new-requires-in-loop-piece-clause-texts c = piece_texts c.args.zone.now c.args.cutters.now (take c.args.store.now.shape.texts c.args.cell.now.texts) c.args.cap (greatest_reach (c.args.zone.now ∷ c.args.cutters.now) + c.args.zone.now.period) c.args.store.now
    c.in_ok-left.left c.in_ok-left.ensures.left c.requires.place.period c.args.cell.now c.requires.place.residues c.requires.place.texts c.requires.place.times refl c.loop-piece.store _ c.loop-piece.invariant.0 c.piece-item.result
    (subst (λ l. Contains l c.piece-item.result) c.as_slice-piece-items.ensures (read _ _ _ c.loop-piece-test.true c.piece-item.is))

pub add_new-requires-in-loop-piece-clause-times : goal.add_new-requires-in-loop-piece-clause-times
add_new-requires-in-loop-piece-clause-times c = piece_times c.args.zone.now c.args.cutters.now (take c.args.store.now.shape.texts c.args.cell.now.texts) c.args.cap (greatest_reach (c.args.zone.now ∷ c.args.cutters.now) + c.args.zone.now.period) c.args.store.now
    c.in_ok-left.left c.in_ok-left.ensures.left c.requires.place.period c.args.cell.now c.requires.place.residues c.requires.place.texts c.requires.place.times refl c.loop-piece.store _ c.loop-piece.invariant.0 c.piece-item.result
    (subst (λ l. Contains l c.piece-item.result) c.as_slice-piece-items.ensures (read _ _ _ c.loop-piece-test.true c.piece-item.is))

pub returns-in_err-add_new-clause-refused : goal.returns-in_err-add_new-clause-refused
returns-in_err-add_new-clause-refused c = λ e. let p = err_from_is_err_and c.from_residual-in_err-add_new.result c.from_residual-in_err-add_new.ensures.1 in filled_refused c.args.zone.now c.args.cutters.now (take c.args.store.now.shape.texts c.args.cell.now.texts) c.args.cap (greatest_reach (c.args.zone.now ∷ c.args.cutters.now) + c.args.zone.now.period) c.args.store.now
    c.in_ok-left.left c.in_ok-left.ensures.left c.requires.place.period c.args.cell.now c.requires.place.residues c.requires.place.texts c.requires.place.times refl c.loop-piece.store _ c.loop-piece.invariant.0 c.piece-item.result
    (subst (λ l. Contains l c.piece-item.result) c.as_slice-piece-items.ensures (read _ _ _ c.loop-piece-test.true c.piece-item.is))
    c.add_new-in-loop-piece.new.self (c.add_new-in-loop-piece.ensures.too_many (cc (e, c.in_err-add_new.was, p.1, p.2)))

pub loop-piece-preserved : goal.loop-piece-preserved
loop-piece-preserved c = (
  rw (front_more _ _ _ c.loop-piece-test.true c.piece-item.is)
      (filled_more c.args.zone.now c.args.cutters.now (take c.args.store.now.shape.texts c.args.cell.now.texts) c.args.cap (greatest_reach (c.args.zone.now ∷ c.args.cutters.now) + c.args.zone.now.period) c.args.store.now
      c.in_ok-left.left c.in_ok-left.ensures.left c.requires.place.period c.args.cell.now c.requires.place.residues c.requires.place.texts c.requires.place.times refl c.loop-piece.store _ c.loop-piece.invariant.0 c.piece-item.result
      (subst (λ l. Contains l c.piece-item.result) c.as_slice-piece-items.ensures (read _ _ _ c.loop-piece-test.true c.piece-item.is))
      c.add_new-in-loop-piece.new.self c.in_ok-add_new.ensures.ok),
  grows_more c.loop-piece.piece-index 1 c.args.cell.now c.args.store.now c.loop-piece.store c.add_new-in-loop-piece.new.self c.loop-piece.invariant.1 c.in_ok-add_new.ensures.one,
)

pub returns-clause-ok : goal.returns-clause-ok
returns-clause-ok c =
    let all : c.loop-piece.piece-index ≡ length c.as_slice-piece-items.result.now = omega (arith, c.loop-piece.auto.piece-index-end, c.loop-piece-test.false) in
    let done : take c.loop-piece.piece-index c.as_slice-piece-items.result.now ≡ c.in_ok-left.left = ap (λ n. take n c.as_slice-piece-items.result.now) all ∙ take-length c.as_slice-piece-items.result.now ∙ c.as_slice-piece-items.ensures in
    filled_all c.args.zone.now c.args.cutters.now _ c.args.cap _ c.args.store.now c.in_ok-left.left c.in_ok-left.ensures.left c.loop-piece.store
    (subst (λ l. AreFilled c.args.zone.now c.args.cutters.now (take c.args.store.now.shape.texts c.args.cell.now.texts) c.args.cap (greatest_reach (c.args.zone.now ∷ c.args.cutters.now) + c.args.zone.now.period) c.args.store.now c.loop-piece.store l) done c.loop-piece.invariant.0)

pub returns-then-len-eq0-clause-ok : goal.returns-then-len-eq0-clause-ok
returns-then-len-eq0-clause-ok c = all_added c.args.zone.now c.args.cutters.now (sym c.len.ensures ∙ c.if-len-eq0.true) c.args.store.now c.requires.store c.args.cell.now c.args.cap c.add_new.new.self c.add_new.result c.add_new.ensures.ok

pub returns-then-len-eq0-clause-refused : goal.returns-then-len-eq0-clause-refused
returns-then-len-eq0-clause-refused c = λ e. all_refused c.args.zone.now c.args.cutters.now (sym c.len.ensures ∙ c.if-len-eq0.true) c.args.store.now c.requires.store c.args.cell.now c.args.cap c.add_new.new.self (c.add_new.ensures.too_many e)

pub returns-clause-few : goal.returns-clause-few
returns-clause-few c =
    let all : c.loop-piece.piece-index ≡ length c.as_slice-piece-items.result.now = omega (arith, c.loop-piece.auto.piece-index-end, c.loop-piece-test.false) in
    let same : length c.as_slice-piece-items.result.now ≡ length c.in_ok-left.left = ap length c.as_slice-piece-items.ensures in
    grows_within c.loop-piece.piece-index _ c.args.cell.now c.args.store.now c.loop-piece.store (omega (arith, all, same, c.in_ok-left.ensures.count)) c.loop-piece.invariant.1

pub returns-then-len-eq0-clause-few : goal.returns-then-len-eq0-clause-few
returns-then-len-eq0-clause-few c = on_ok _ _ c.add_new.result (λ g. grows_within 1 _ c.args.cell.now c.args.store.now c.add_new.new.self (one_at_least c.args.zone.now.period c.args.cutters.now (pairs_below (length c.args.zone.now.residues + 1))) g) c.add_new.ensures.one
