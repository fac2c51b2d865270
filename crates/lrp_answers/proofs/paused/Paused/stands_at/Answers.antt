-- The times and the texts are those of the spot.
use Rattle.std.proofs.Common.{◌≡◌, ◌<◌, ◌∙◌, length, take, true, refl, sym, subst, ap, ap₂}
use Rattle.std.specs.List.{AllByRecursion}
use Rattle.std.specs.Cmp.Lexicographic.{slice_cmp}
use Rattle.std.proofs.lemmas.Bool.Decides.{Decides-int_eq}
use Rattle.std.proofs.lemmas.Slice.Eq.{slice_eq-Decides}
use Rattle.lrp_model.specs.Texts.{text_cmp}
use Rattle.lrp_model.specs.Tuples.{texts_at}
use Rattle.lrp_model.specs.declared.tuples.Shape.{Shape}
use Rattle.lrp_answers.proofs.Pauses.{spot_numbers, stands_there}
use Rattle.lrp_answers.proofs.paused.Paused.stands_at.Goals as goal

pub texts_order-requires : goal.texts_order-requires
texts_order-requires c =
    let answer = c.args.answer.now in
    let self = c.args.self.now in
    subst (λ (s : Shape). AllByRecursion (λ n. n < length answer.domain) (take s.texts self.spot.texts)) (sym c.shape-shape.ensures.value) (spot_numbers answer self c.requires)

pub returns-then-eq : goal.returns-then-eq
returns-then-eq c = λ e.
    let answer = c.args.answer.now in
    let self = c.args.self.now in
    let shape = c.shape-shape.result in
    let tuple = c.args.tuple.now in
    let times : c.as_slice.result.now ≡ take shape.times self.spot.times = (slice_eq-Decides Decides-int_eq c.as_slice.result.now (take shape.times self.spot.times) true c.if-eq.ensures).0 refl in
    stands_there answer self tuple c.texts_order.result (sym c.as_slice.ensures ∙ times ∙ ap (λ (s : Shape). take s.times self.spot.times) c.shape-shape.ensures.value)
    (c.texts_order.ensures ∙ ap₂ (λ ts (s : Shape). slice_cmp text_cmp ts (texts_at answer.domain (take s.texts self.spot.texts))) c.as_slice-then-eq.ensures c.shape-shape.ensures.value) (sym c.is_eq.ensures ∙ e)
