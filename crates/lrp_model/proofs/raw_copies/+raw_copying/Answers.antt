use Rattle.std.proofs.Common.{◌≡◌, ◌∙◌, ap, subst}
use Rattle.std.specs.Result.{IfOk}
use Rattle.lrp_model.specs.RawQueries.{raw_form_of, raw_and, raw_or}
use Rattle.lrp_model.proofs.RawViews.{raw_kind-And, raw_kind-Or, raw_and_form, raw_or_form, raws-step}
use Rattle.lrp_model.proofs.raw_copies.+raw_copying.Goals as goal

pub copy_raw-returns-in-And : goal.copy_raw-returns-in-And
copy_raw-returns-in-And t c =
    subst (λ x. IfOk c.copy_conjunction.result (λ made. raw_form_of made ≡ x)) (raw_and_form c.args.f.now c.in-And.of c.deref-in-And.result.now c.in-And.is c.deref-in-And.ensures.value) c.copy_conjunction.ensures

pub copy_raw-returns-in-Or : goal.copy_raw-returns-in-Or
copy_raw-returns-in-Or t c =
    subst (λ x. IfOk c.copy_disjunction.result (λ made. raw_form_of made ≡ x)) (raw_or_form c.args.f.now c.in-Or.of c.deref-in-Or.result.now c.in-Or.is c.deref-in-Or.ensures.value) c.copy_disjunction.ensures

pub copy_conjunction-returns : goal.copy_conjunction-returns
copy_conjunction-returns t c = raw_kind-And c.in_ok-of.of c.args.place ∙ ap (raw_and c.args.place) c.in_ok-of.ensures

pub copy_disjunction-returns : goal.copy_disjunction-returns
copy_disjunction-returns t c = raw_kind-Or c.in_ok-of.of c.args.place ∙ ap (raw_or c.args.place) c.in_ok-of.ensures

pub copy_each_raw-loop-f-preserved : goal.copy_each_raw-loop-f-preserved
copy_each_raw-loop-f-preserved t c = raws-step _ _ _ _ _ _ c.loop-f-test.true c.f-item.is c.in_ok-push.ensures.items c.loop-f.invariant c.in_ok-g.ensures
