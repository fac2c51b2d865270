use Rattle.std.proofs.Common.{◌≡◌, ◌∙◌, sym, ap, true, false}
use Rattle.lrp_model.specs.Formulas.{form_of}
use Rattle.lrp_model.specs.Core.{conjuncts}
use Rattle.lrp_kept.specs.Asked.{is_sought}
use Rattle.lrp_kept.specs.KeptForm.{some_passes}
use Rattle.lrp_kept.specs.Signs.{kept_signed}
use Rattle.lrp_model.proofs.Views.{implies_form}
use Rattle.lrp_kept.proofs.Elements.{some-And, some-Or, some-Implies, or_first, or_second}
use Rattle.lrp_kept.proofs.looking.+looking.Goals as goal

pub some_element-returns-in-And : goal.some_element-returns-in-And
some_element-returns-in-And t c = (rw c.deref-in-And.ensures.value at c.some_of.ensures) ∙ some-And (is_sought c.args.sought) c.args.f.now c.in-And.of c.args.holds c.if-holds.true c.in-And.is

pub some_element-returns-in-Or : goal.some_element-returns-in-Or
some_element-returns-in-Or t c = (rw c.deref-in-Or.ensures.value at c.some_of-in-Or.ensures) ∙ some-Or (is_sought c.args.sought) c.args.f.now c.in-Or.of c.args.holds c.if-not-holds.true c.in-Or.is

pub some_element-returns-then-some_element : goal.some_element-returns-then-some_element
some_element-returns-then-some_element t c =
    let p = is_sought c.args.sought in
    let e : c.some_element-in-Implies.result ≡ some_passes p (conjuncts (kept_signed true (form_of c.in-Implies.left.value))) = c.some_element-in-Implies.ensures ∙ ap (λ x. some_passes p (conjuncts (kept_signed true (form_of x)))) c.deref-in-Implies.ensures in
    e ∙ or_first (some_passes p (conjuncts (kept_signed true (form_of c.in-Implies.left.value)))) (some_passes p (conjuncts (kept_signed false (form_of c.in-Implies.right.value)))) (sym e ∙ c.if-some_element.true)
    ∙ some-Implies p (form_of c.in-Implies.left.value) (form_of c.in-Implies.right.value) (form_of c.args.f.now) (implies_form c.args.f.now c.in-Implies.left c.in-Implies.right c.in-Implies.is) c.args.holds c.if-not-holds-2.true

pub some_element-returns-else-some_element : goal.some_element-returns-else-some_element
some_element-returns-else-some_element t c =
    let p = is_sought c.args.sought in
    let e : c.some_element-in-Implies.result ≡ some_passes p (conjuncts (kept_signed true (form_of c.in-Implies.left.value))) = c.some_element-in-Implies.ensures ∙ ap (λ x. some_passes p (conjuncts (kept_signed true (form_of x)))) c.deref-in-Implies.ensures in
    let d : c.some_element-else-some_element.result ≡ some_passes p (conjuncts (kept_signed false (form_of c.in-Implies.right.value))) = c.some_element-else-some_element.ensures ∙ ap (λ x. some_passes p (conjuncts (kept_signed false (form_of x)))) c.deref-else-some_element.ensures in
    d ∙ or_second (some_passes p (conjuncts (kept_signed true (form_of c.in-Implies.left.value)))) (some_passes p (conjuncts (kept_signed false (form_of c.in-Implies.right.value)))) (sym e ∙ c.if-some_element.false)
    ∙ some-Implies p (form_of c.in-Implies.left.value) (form_of c.in-Implies.right.value) (form_of c.args.f.now) (implies_form c.args.f.now c.in-Implies.left c.in-Implies.right c.in-Implies.is) c.args.holds c.if-not-holds-2.true
