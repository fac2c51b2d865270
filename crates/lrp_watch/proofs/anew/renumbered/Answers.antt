-- Place after place, as far as the answer has texts.
use Rattle.std.proofs.Common.{◌≡◌, ◌≤◌, ap, refl, arith}
use Rattle.lrp_model.specs.declared.tuples.Shape.{Shape}
use Rattle.lrp_watch.proofs.Renewals.{none_renumbered, renumbered_all}
use Rattle.lrp_watch.proofs.anew.renumbered.Goals as goal

pub loop-place-init : goal.loop-place-init
loop-place-init c = none_renumbered c.args.domain.now c.args.answer.now.domain c.args.spot.now.texts _ refl

pub returns : goal.returns
returns c =
    let texts : c.shape-shape.result.texts ≡ c.args.answer.now.store.shape.texts = ap (λ (s : Shape). s.texts) c.shape-shape.ensures.value in
    let few : c.args.answer.now.store.shape.texts ≤ 8 = c.shape-shape.ensures.valid.texts in
    let all : c.loop-place.place ≡ c.args.answer.now.store.shape.texts = omega (arith, texts, c.from-place-end.ensures, c.loop-place-test.false, c.loop-place.auto.place-end) in
    renumbered_all c.args.answer.now c.args.domain.now c.args.spot.now (record { times = c.args.spot.now.times; texts = c.loop-place.texts }) c.loop-place.place all (omega (arith, all, few)) c.requires.size refl c.loop-place.invariant
